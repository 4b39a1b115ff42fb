-- No test of the groups that were passed holds.
use Rattle.std.proofs.Common.{◌≡◌, [], take, drop}
use Rattle.std.specs.Option.{option_copied}
use Rattle.ivy_check.specs.Tests.{first_of, walked}
use Rattle.ivy_check.specs.Declarations.{group_tests}
use Rattle.ivy_check.proofs.declare.params.Given as goal

abbrev pub invariant-loop-k : goal.invariant-loop-k
invariant-loop-k l =
    first_of (walked (group_tests (option_copied l.enclosing)) (take l.k l.groups) (drop l.k l.groups))
    ≡ first_of (walked (group_tests (option_copied l.enclosing)) [] l.groups)
