-- The first statement with a fault is reported, with its first.
use Rattle.std.proofs.Common.{◌∙◌}
use Rattle.ivy_check.specs.Statements.{statement_tests}
use Rattle.ivy_check.specs.Scope.{scope_of}
use Rattle.ivy_check.proofs.TestLemmas.{passed, walked_here, walked_on}
use Rattle.ivy_check.proofs.statement.statements.Goals as goal

pub returns-in_err-statement : goal.returns-in_err-statement
returns-in_err-statement c =
    passed _ _ c.from_residual.ensures.1
    ∙ walked_here (statement_tests (scope_of c.args.scope)) c.args.stmts.now c.loop-k.k _ c.loop-k-test.true
    c.index-stmts-k.is _ c.in_err-statement.ensures
    ∙ c.loop-k.invariant

pub loop-k-preserved : goal.loop-k-preserved
loop-k-preserved c =
    walked_on (statement_tests (scope_of c.args.scope)) c.args.stmts.now c.loop-k.k _ c.loop-k-test.true
    c.index-stmts-k.is c.in_ok-statement.ensures
    ∙ c.loop-k.invariant
