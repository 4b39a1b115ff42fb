use Rattle.std.proofs.Common.{length}
use Rattle.grammars.specs.Gathered.{and_item}
use Rattle.ivy_syntax.specs.Descent.{begins_stmt, expr_at, stmt_by, stmts_by}
use Rattle.ivy_syntax.specs.Lexeme.{tokens}
use Rattle.ivy_syntax.proofs.Turns.{Turning}
use Rattle.ivy_syntax.proofs.parser.stmts.Given as goal

-- what is still to be read gives what all gives
abbrev pub invariant-loop-keyword : goal.invariant-loop-keyword
invariant-loop-keyword l = Turning (λ t. begins_stmt t.0) (λ t. stmt_by (expr_at l.depth) t.0 t.1) and_item
    (stmts_by (expr_at l.depth) (tokens l.fn.rest)) l.items (tokens l.rest)

abbrev pub decreases-loop-keyword : goal.decreases-loop-keyword
decreases-loop-keyword l = length l.rest
