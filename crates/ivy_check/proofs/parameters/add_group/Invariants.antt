-- The names that were passed are parameters.
use Rattle.std.proofs.Common.{◌≡◌, ◌++◌, Some, take}
use Rattle.ivy_check.specs.Parameters.{of_one_type}
use Rattle.ivy_check.proofs.parameters.add_group.Given as goal

abbrev pub invariant-loop-word : goal.invariant-loop-word
invariant-loop-word l = l.params ≡ l.initial.params ++ of_one_type (Some l.kind) (take l.word-index l.word-items)
