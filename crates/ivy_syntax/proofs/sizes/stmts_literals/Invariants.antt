use Rattle.std.proofs.Common.{◌≡◌, take}
use Rattle.ivy_syntax.specs.Sizes.{within_word, total, stmt_literals}
use Rattle.ivy_syntax.proofs.sizes.stmts_literals.Given as goal

abbrev pub invariant-loop-stmt : goal.invariant-loop-stmt
invariant-loop-stmt l = l.sum ≡ within_word (total stmt_literals (take l.stmt-index l.stmts))
