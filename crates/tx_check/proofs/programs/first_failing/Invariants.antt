use Rattle.std.proofs.Common.{◌≡◌}
use Rattle.tx_check.specs.Contexts.{FailsAs, seen_outputs}
use Rattle.tx_check.specs.FirstPlaces.{NoneBelow}
use Rattle.tx_check.proofs.programs.first_failing.Given as goal

abbrev pub invariant-loop-k : goal.invariant-loop-k
invariant-loop-k g l =
    let hash = g.H.IdHash.hash_of l.hash in
    record {
      outs : l.outs ≡ seen_outputs hash l.tx;
      none : NoneBelow (FailsAs hash (g.C.SigCheck.good_of l.sigs) l.tx) l.tx.inputs l.k;
    }
