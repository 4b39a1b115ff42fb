use Rattle.std.proofs.Common.{◌≡◌, List, length, Result, Err, sym, ◌∙◌, ap, subst, arith}
use Rattle.std.specs.Vec.Iter.{into_iter_items}
use Rattle.data_model.specs.declared.block.Block.{Block}
use Rattle.wire.specs.declared.files.FramesFault.{FramesFault}
use Rattle.ledger_file.specs.Files.{AreFramed}
use Rattle.ledger_file.proofs.FewBlocks.{few_blocks}
use Rattle.ledger_file.proofs.Loaded.{reads-as, loads-unread}
use Rattle.ledger_file.proofs.loading.load_frames.Goals as goal

abbrev faulted : FramesFault → Result (List Block) FramesFault
faulted e = Err e

pub returns-in_err-blocks-clause-loads : goal.returns-in_err-blocks-clause-loads
returns-in_err-blocks-clause-loads g c = loads-unread _ _ _ _ _ c.from_residual.ensures.1 (λ f is. c.in_err-blocks.ensures.fault f (ap faulted is))

pub replay-requires-clause-framed : goal.replay-requires-clause-framed
replay-requires-clause-framed g c = subst AreFramed (sym (c.into_iter.ensures.rest ∙ c.into_vec.ensures)) c.in_ok-blocks.ensures.found.0

pub replay-requires-clause-few : goal.replay-requires-clause-few
replay-requires-clause-few g c =
    let same : into_iter_items c.into_iter.result ≡ c.in_ok-blocks.blocks = c.into_iter.ensures.rest ∙ c.into_vec.ensures in
    omega (arith, c.requires, ap length same, few_blocks c.in_ok-blocks.blocks, ap length c.in_ok-blocks.ensures.found.1)

pub returns-clause-loads : goal.returns-clause-loads
returns-clause-loads g c = c.replay.ensures.loads c.args.bytes.now (reads-as _ _ _ c.in_ok-blocks.ensures.found (c.into_iter.ensures.rest ∙ c.into_vec.ensures))
