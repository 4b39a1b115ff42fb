use Rattle.std.proofs.Common.{◌≡◌, take}
use Rattle.ivy_syntax.specs.Sizes.{within_word, total, expr_nodes}
use Rattle.ivy_syntax.proofs.sizes.+nodes.Given as goal

abbrev pub invariant-exprs_nodes-loop-e : goal.invariant-exprs_nodes-loop-e
invariant-exprs_nodes-loop-e l = l.sum ≡ within_word (total expr_nodes (take l.e-index l.exprs))
