use Rattle.std.proofs.Common.{◌≡◌, ◌+◌, ◌<◌, ◌^◌, ◌++◌, length}
use Rattle.std.specs.Vec.Iter.{into_iter_items, into_iter_len}
use Rattle.ledger_core.specs.Chain.{StandsFor}
use Rattle.ledger_file.specs.Files.{AreFramed}
use Rattle.ledger_file.proofs.loading.grow.Given as goal

-- the blocks so far, and those that are left
abbrev pub invariant-loop-block : goal.invariant-loop-block
invariant-loop-block g l = record {
  stands : StandsFor (g.H.IdHash.hash_of l.hash) (g.C.SigCheck.good_of l.sigs) l.ledger;
  framed : AreFramed (into_iter_items l.later);
  all : l.ledger.blocks ++ into_iter_items l.later ≡ l.fn.ledger.blocks ++ into_iter_items l.fn.later;
  few : length l.ledger.blocks + length (into_iter_items l.later) < 2 ^ 40;
}

abbrev pub decreases-loop-block : goal.decreases-loop-block
decreases-loop-block g l = into_iter_len l.later
