-- The keys in those that were passed.
use Rattle.std.proofs.Common.{◌≡◌, take}
use Rattle.ivy_syntax.specs.Sizes.{within_word, total}
use Rattle.ivy_check.specs.Counts.{key_count}
use Rattle.ivy_check.proofs.counts.+keys.Given as goal

abbrev pub invariant-exprs_keys-loop-e : goal.invariant-exprs_keys-loop-e
invariant-exprs_keys-loop-e l = l.sum ≡ within_word (total key_count (take l.e-index l.exprs))
