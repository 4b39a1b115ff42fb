-- No test of the names that were passed holds.
use Rattle.std.proofs.Common.{◌≡◌, [], take, drop}
use Rattle.std.specs.Option.{option_copied}
use Rattle.ivy_check.specs.Tests.{first_of, walked}
use Rattle.ivy_check.specs.Declarations.{param_name_tests}
use Rattle.ivy_check.proofs.declare.param_names.Given as goal

abbrev pub invariant-loop-k : goal.invariant-loop-k
invariant-loop-k l =
    first_of (walked (param_name_tests (option_copied l.enclosing) l.groups) (take l.k l.names) (drop l.k l.names))
    ≡ first_of (walked (param_name_tests (option_copied l.enclosing) l.groups) [] l.names)
