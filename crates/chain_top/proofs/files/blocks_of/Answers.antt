use Rattle.std.proofs.Common.{ℕ, List, Result, Err, refl, ap, subst}
use Rattle.data_model.specs.declared.block.Block.{Block}
use Rattle.data_model.specs.Files.{BlocksReadAs}
use Rattle.wire.specs.Files.{FileFault}
use Rattle.wire.specs.declared.files.FramesFault.{FramesFault}
use Rattle.chain_top.specs.Formats.{blocks_format, file_line}
use Rattle.replies.specs.Recipes.{refuses_by}
use Rattle.chain_top.proofs.files.blocks_of.Goals as goal

abbrev faulted : FramesFault → Result (List Block) FramesFault
faulted e = Err e

pub returns-in-Err-At-clause-read : goal.returns-in-Err-At-clause-read
returns-in-Err-At-clause-read c =
    let f : FileFault = record { index = c.in-Err-At.index; at = c.in-Err-At.at; kind = c.in-Err-At.kind } in
    refuses_by (blocks_format c.args.place c.args.bytes.items) (file_line c.args.place f) _ c.refused_file.ensures
    (f, subst (λ (bs : List ℕ). BlocksReadAs bs (Err f)) c.as_slice.ensures.value (c.in-Err-At.ensures.fault f (ap faulted c.in-Err-At.field-0-is)), refl)
