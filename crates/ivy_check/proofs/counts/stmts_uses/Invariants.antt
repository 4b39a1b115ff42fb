-- The uses in those that were passed.
use Rattle.std.proofs.Common.{◌≡◌, take}
use Rattle.ivy_syntax.specs.Sizes.{within_word, total}
use Rattle.ivy_check.specs.Counts.{stmt_use_count}
use Rattle.ivy_check.proofs.counts.stmts_uses.Given as goal

abbrev pub invariant-loop-stmt : goal.invariant-loop-stmt
invariant-loop-stmt l = l.sum ≡ within_word (total (stmt_use_count l.name) (take l.stmt-index l.stmts))
