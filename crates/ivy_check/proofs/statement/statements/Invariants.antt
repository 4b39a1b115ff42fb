-- No test of the statements that were passed holds.
use Rattle.std.proofs.Common.{◌≡◌, [], take, drop}
use Rattle.ivy_check.specs.Tests.{first_of, walked}
use Rattle.ivy_check.specs.Statements.{statement_tests}
use Rattle.ivy_check.specs.Scope.{scope_of}
use Rattle.ivy_check.proofs.statement.statements.Given as goal

abbrev pub invariant-loop-k : goal.invariant-loop-k
invariant-loop-k l =
    first_of (walked (statement_tests (scope_of l.scope)) (take l.k l.stmts) (drop l.k l.stmts))
    ≡ first_of (walked (statement_tests (scope_of l.scope)) [] l.stmts)
