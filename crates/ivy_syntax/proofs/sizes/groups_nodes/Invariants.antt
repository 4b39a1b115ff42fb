use Rattle.std.proofs.Common.{◌≡◌, take}
use Rattle.ivy_syntax.specs.Sizes.{within_word, total, group_nodes}
use Rattle.ivy_syntax.proofs.sizes.groups_nodes.Given as goal

abbrev pub invariant-loop-group : goal.invariant-loop-group
invariant-loop-group l = l.sum ≡ within_word (total group_nodes (take l.group-index l.groups))
