-- The uses in those that were passed.
use Rattle.std.proofs.Common.{◌≡◌, take}
use Rattle.ivy_syntax.specs.Sizes.{within_word, total}
use Rattle.ivy_check.specs.Counts.{use_count}
use Rattle.ivy_check.proofs.counts.+uses.Given as goal

abbrev pub invariant-exprs_uses-loop-e : goal.invariant-exprs_uses-loop-e
invariant-exprs_uses-loop-e l = l.sum ≡ within_word (total (use_count l.name) (take l.e-index l.exprs))
