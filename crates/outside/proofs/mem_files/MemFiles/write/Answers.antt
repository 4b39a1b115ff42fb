use Rattle.std.proofs.Common.{◌≡◌, Ok, Err, ap}
use Rattle.std.specs.FinMap as finite
use Rattle.std.proofs.Math.Facts.{Fits-lt-pow}
use Rattle.outside.specs.declared.fault.FileFault.TheVariants.{Failed}
use Rattle.outside.specs.Begun.{write_kind}
use Rattle.outside.specs.MemFiles.{MemFilesState}
use Rattle.outside.specs.MemCalls.{content_after, torn_part, with_part}
use Rattle.outside.proofs.ByteContents.{Wrote-as_bytes}
use Rattle.outside.proofs.Effects.{AllRead-after, AllRead-torn}
use Rattle.outside.proofs.mem_files.MemFiles.write.Goals as goal

pub returns-clause-contents : goal.returns-clause-contents
returns-clause-contents c =
    let old = c.args.self.now.files in
    let mid = c.begin_call.new.self.files in
    let new = c.do_write.new.self.files in
    let kind = write_kind c.args.kind in
    let name = c.args.name.now in
    let bytes = c.args.bytes.now in
    let same : mid ≡ old = cc in
    let is : new ≡ finite.insert mid name (content_after kind (finite.get mid name) bytes) = cc (c.in_ok-do_write.ensures.ok) in
    Wrote-as_bytes {T = Unit {0}} kind name bytes (Ok tt) old new (λ i. Fits-lt-pow (c.type_inv.bytes i)) (AllRead-after kind old mid new name bytes same is)

pub returns-then-begin_call-clause-contents : goal.returns-then-begin_call-clause-contents
returns-then-begin_call-clause-contents c =
    let old = c.args.self.now.files in
    let mid = c.begin_call.new.self.files in
    let new = c.fail_write.new.self.files in
    let keep = c.begin_call.new.self.keep in
    let kind = write_kind c.args.kind in
    let name = c.args.name.now in
    let bytes = c.args.bytes.now in
    let same : mid ≡ old = cc in
    let is : new ≡ with_part name (torn_part kind keep bytes) mid = ap (λ (s : MemFilesState). s.files) c.in_ok-fail_write.ensures.ok in
    Wrote-as_bytes {T = Unit {0}} kind name bytes (Err Failed) old new (λ i. Fits-lt-pow (c.type_inv.bytes i)) (AllRead-torn kind keep old mid new name bytes same is)
