-- Each statement is tested by its form.
use Rattle.std.proofs.Common.{◌∙◌, ap, sym}
use Rattle.ivy_syntax.specs.declared.tree.Stmt.{Stmt}
use Rattle.ivy_check.specs.Tests.{first_of}
use Rattle.ivy_check.specs.Statements.{statement_tests}
use Rattle.ivy_check.specs.Scope.{scope_of}
use Rattle.ivy_check.proofs.statement.statement.Goals as goal

pub returns-in-Lock : goal.returns-in-Lock
returns-in-Lock c =
    c.lock.ensures
    ∙ ap (λ (s : Stmt). first_of (statement_tests (scope_of c.args.scope) c.args.before.now s)) (sym c.in-Lock.is)

pub returns-in-Unlock : goal.returns-in-Unlock
returns-in-Unlock c =
    c.unlock.ensures
    ∙ ap (λ (s : Stmt). first_of (statement_tests (scope_of c.args.scope) c.args.before.now s)) (sym c.in-Unlock.is)
