use Rattle.std.proofs.Common.{◌+◌, ◌*◌, ◌-◌, length}
use Rattle.grammars.specs.Gathered.{and_item}
use Rattle.ivy_syntax.specs.declared.lexeme.Symbol.TheVariants as symbol
use Rattle.ivy_syntax.specs.Lexeme.{tokens}
use Rattle.ivy_syntax.specs.Grammar.{rank, below}
use Rattle.ivy_syntax.specs.Descent.{chain_by, level_by, unary_at, expr_at, listed, joins, join, is_sign}
use Rattle.ivy_syntax.proofs.Turns.{Turning}
use Rattle.ivy_syntax.proofs.expr.+rules.Given as goal

abbrev pub decreases-unary : goal.decreases-unary
decreases-unary l = 20 * l.depth

abbrev pub decreases-at_level : goal.decreases-at_level
decreases-at_level l = 20 * l.depth + 2 * (7 - rank l.level) + 1

abbrev pub decreases-chain : goal.decreases-chain
decreases-chain l = 20 * l.depth + 2 * (7 - rank (below l.joins)) + 2

abbrev pub decreases-comparison : goal.decreases-comparison
decreases-comparison l = 20 * l.depth + 8

abbrev pub decreases-members : goal.decreases-members
decreases-members l = 20 * l.depth + 15

abbrev pub decreases-closed_members : goal.decreases-closed_members
decreases-closed_members l = 20 * l.depth + 16

abbrev pub decreases-args : goal.decreases-args
decreases-args l = 20 * l.depth + 17

abbrev pub decreases-named : goal.decreases-named
decreases-named l = 20 * l.depth + 18

abbrev pub decreases-bracket : goal.decreases-bracket
decreases-bracket l = 20 * l.depth + 17

abbrev pub decreases-paren : goal.decreases-paren
decreases-paren l = 20 * l.depth + 15

abbrev pub decreases-prefix : goal.decreases-prefix
decreases-prefix l = 20 * l.depth + 1

-- what is still to be read gives what all gives
abbrev pub invariant-chain-loop-operator : goal.invariant-chain-loop-operator
invariant-chain-loop-operator l = Turning (joins l.joins)
    (λ t. level_by (below l.joins) (unary_at l.depth)) join
    (chain_by l.joins (level_by (below l.joins) (unary_at l.depth))
    (tokens l.fn.rest)) l.left (tokens l.rest)

abbrev pub decreases-chain-loop-operator : goal.decreases-chain-loop-operator
decreases-chain-loop-operator l = length l.rest

abbrev pub invariant-members-loop-behind : goal.invariant-members-loop-behind
invariant-members-loop-behind l = Turning (is_sign symbol.Comma) (λ t. expr_at l.depth) and_item
    (listed (expr_at l.depth) (tokens l.fn.rest)) l.items (tokens l.rest)

abbrev pub decreases-members-loop-behind : goal.decreases-members-loop-behind
decreases-members-loop-behind l = length l.rest
