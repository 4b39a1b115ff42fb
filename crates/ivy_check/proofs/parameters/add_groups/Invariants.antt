-- The parameters of the groups that were passed stand, and those of the others follow.
use Rattle.std.proofs.Common.{◌≡◌, ◌++◌, drop}
use Rattle.ivy_check.specs.Parameters.{parameters}
use Rattle.ivy_check.proofs.parameters.add_groups.Given as goal

abbrev pub invariant-loop-group : goal.invariant-loop-group
invariant-loop-group l =
    l.params ++ parameters (drop l.group-index l.groups) ≡ l.initial.params ++ parameters l.groups
