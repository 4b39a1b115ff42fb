use Rattle.std.proofs.Common.{◌≡◌, ◌+◌, take, Some, subst}
use Rattle.std.specs.Prelude.{IsSomeAnd}
use Rattle.std.specs.FinMap as finite
use Rattle.outside.specs.Bytes.{content_as_bytes}
use Rattle.outside.specs.Files.{Content}
use Rattle.outside.proofs.ByteContents.{read-as_bytes}
use Rattle.outside.proofs.mem_files.MemFiles.do_read.Goals as goal

pub returns-in_ok-push-in-Some-clause-bytes : goal.returns-in_ok-push-in-Some-clause-bytes
returns-in_ok-push-in-Some-clause-bytes c =
    let content = finite.get c.args.self.now.files c.args.name.now in
    let items = c.in_ok-bytes-in-Some.bytes.items in
    let count = c.args.most + 1 in
    let is : Some c.in-Some.whole.now ≡ content = c.in-Some.ensures in
    let given = read-as_bytes (Some c.in-Some.whole.now) count items c.in_ok-bytes-in-Some.ensures.bytes c.in_ok-bytes-in-Some.ensures.taken in
    subst (λ (k : Content). IsSomeAnd (content_as_bytes k) (λ whole. items ≡ take count whole)) is given
