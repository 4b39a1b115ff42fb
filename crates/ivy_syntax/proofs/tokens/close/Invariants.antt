use Rattle.std.proofs.Common.{◌≡◌, drop}
use Rattle.ivy_syntax.specs.Cutting.{close_from}
use Rattle.ivy_syntax.proofs.tokens.close.Given as goal

abbrev pub invariant-loop-at : goal.invariant-loop-at
invariant-loop-at l = close_from l.at (drop l.at l.text) ≡ close_from 0 l.text
