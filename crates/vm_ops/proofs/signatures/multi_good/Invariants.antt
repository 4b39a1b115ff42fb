use Rattle.std.proofs.Common.{◌≡◌, ◌≤◌}
use Rattle.vm_ops.proofs.Trying.{tried}
use Rattle.vm_ops.proofs.signatures.multi_good.Given as goal

abbrev pub invariant-loop-k : goal.invariant-loop-k
invariant-loop-k g l =
    (l.found ≤ l.m)
    × (tried (g.C.SigCheck.good_of l.sigs) (g.P.Pile.items_of l.pile) l.m l.n l.k l.found
    ≡ tried (g.C.SigCheck.good_of l.sigs) (g.P.Pile.items_of l.pile) l.m l.n 0 0)
