-- What is left of the keys serves what is left of the signatures exactly where all of them serve all.
use Rattle.std.proofs.Common.{◌≡◌, drop}
use Rattle.vm_ops.specs.Signatures.{is_multi_good}
use Rattle.ivy_value.proofs.evaluation.multi_good.Given as goal

abbrev pub invariant-loop-key : goal.invariant-loop-key
invariant-loop-key g l =
    is_multi_good (g.C.SigCheck.good_of l.sigs) (drop l.key-index l.keys) l.message l.left
    ≡ is_multi_good (g.C.SigCheck.good_of l.sigs) l.keys l.message l.signatures
