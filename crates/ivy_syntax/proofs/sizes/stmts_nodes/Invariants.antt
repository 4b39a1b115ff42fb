use Rattle.std.proofs.Common.{◌≡◌, take}
use Rattle.ivy_syntax.specs.Sizes.{within_word, total, stmt_nodes}
use Rattle.ivy_syntax.proofs.sizes.stmts_nodes.Given as goal

abbrev pub invariant-loop-stmt : goal.invariant-loop-stmt
invariant-loop-stmt l = l.sum ≡ within_word (total stmt_nodes (take l.stmt-index l.stmts))
