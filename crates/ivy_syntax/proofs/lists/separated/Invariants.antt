use Rattle.std.proofs.Common.{length}
use Rattle.grammars.specs.Gathered.{and_item}
use Rattle.ivy_syntax.specs.declared.lexeme.Symbol.TheVariants as symbol
use Rattle.ivy_syntax.specs.Descent.{is_sign, listed}
use Rattle.ivy_syntax.specs.Lexeme.{tokens}
use Rattle.ivy_syntax.proofs.Turns.{Turning}
use Rattle.ivy_syntax.proofs.lists.separated.Given as goal

-- what is still to be read gives what all gives
abbrev pub invariant-loop-behind : goal.invariant-loop-behind
invariant-loop-behind g l = Turning (is_sign symbol.Comma) (λ t. g.P.Part.rule l.part) and_item
    (listed (g.P.Part.rule l.part) (tokens l.fn.rest)) l.items (tokens l.rest)

abbrev pub decreases-loop-behind : goal.decreases-loop-behind
decreases-loop-behind g l = length l.rest
