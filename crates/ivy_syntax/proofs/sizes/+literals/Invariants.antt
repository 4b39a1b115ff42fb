use Rattle.std.proofs.Common.{◌≡◌, take}
use Rattle.ivy_syntax.specs.Sizes.{within_word, total, expr_literals}
use Rattle.ivy_syntax.proofs.sizes.+literals.Given as goal

abbrev pub invariant-exprs_literals-loop-e : goal.invariant-exprs_literals-loop-e
invariant-exprs_literals-loop-e l = l.sum ≡ within_word (total expr_literals (take l.e-index l.exprs))
