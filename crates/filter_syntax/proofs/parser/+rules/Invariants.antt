use Rattle.std.proofs.Common.{◌+◌, ◌*◌, map, length}
use Rattle.filter_syntax.specs.declared.tree.Cond.TheVariants as conditions
use Rattle.filter_syntax.specs.Lexing.{seen}
use Rattle.filter_syntax.specs.Descent.{alternatives_by, conjunction_by, unit_at, is_and, is_or}
use Rattle.filter_syntax.proofs.Turns.{Turning}
use Rattle.filter_syntax.proofs.parser.+rules.Given as goal

abbrev pub decreases-alternatives : goal.decreases-alternatives
decreases-alternatives l = 5 * l.depth + 2

abbrev pub decreases-conjunction : goal.decreases-conjunction
decreases-conjunction l = 5 * l.depth + 1

abbrev pub decreases-enclosed : goal.decreases-enclosed
decreases-enclosed l = 5 * l.depth + 3

abbrev pub decreases-scope : goal.decreases-scope
decreases-scope l = 5 * l.depth + 4

abbrev pub decreases-unit : goal.decreases-unit
decreases-unit l = 5 * l.depth

-- what is still to be read gives what all gives
abbrev pub invariant-alternatives-loop-behind : goal.invariant-alternatives-loop-behind
invariant-alternatives-loop-behind l = Turning is_or (conjunction_by (unit_at l.depth l.scopes))
    (λ a b. conditions.Or a b) (alternatives_by (unit_at l.depth l.scopes) (map (seen l.text) l.fn.rest)) l.cond
    (map (seen l.text) l.rest)

abbrev pub decreases-alternatives-loop-behind : goal.decreases-alternatives-loop-behind
decreases-alternatives-loop-behind l = length l.rest

abbrev pub invariant-conjunction-loop-behind : goal.invariant-conjunction-loop-behind
invariant-conjunction-loop-behind l = Turning is_and (unit_at l.depth l.scopes)
    (λ a b. conditions.And a b) (conjunction_by (unit_at l.depth l.scopes) (map (seen l.text) l.fn.rest)) l.cond
    (map (seen l.text) l.rest)

abbrev pub decreases-conjunction-loop-behind : goal.decreases-conjunction-loop-behind
decreases-conjunction-loop-behind l = length l.rest
