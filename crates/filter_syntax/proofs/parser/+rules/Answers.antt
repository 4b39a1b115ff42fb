use Rattle.std.proofs.Common.{map, arith, sym, subst}
use Rattle.filter_syntax.specs.declared.tree.Cond.TheVariants as conditions
use Rattle.filter_syntax.specs.Lexing.{seen}
use Rattle.filter_syntax.specs.Descent.{Agrees, alternatives_by, conjunction_by, unit_at, is_and, is_or}
use Rattle.filter_syntax.proofs.Turns.{Turning, turn_more, unit_shorter, conjunction_shorter, fewer}
use Rattle.filter_syntax.proofs.Turns.{open_unit, inputs_unit, outputs_unit}
use Rattle.filter_syntax.proofs.parser.+rules.Goals as goal

pub alternatives-loop-behind-smaller : goal.alternatives-loop-behind-smaller
alternatives-loop-behind-smaller t c =
    fewer (seen c.args.text.now) is_or c.loop-behind.rest.now c.in-Some.behind.now c.in_ok-right.left_over.now
    c.in-Some.ensures (conjunction_shorter c.args.depth c.args.scopes (map (seen c.args.text.now) c.in-Some.behind.now)
    (map (seen c.args.text.now) c.in_ok-right.left_over.now) c.in_ok-right.right c.in_ok-right.ensures)

pub alternatives-loop-behind-preserved : goal.alternatives-loop-behind-preserved
alternatives-loop-behind-preserved t c =
    let see = map (seen c.args.text.now) in
    let read = conjunction_by (unit_at c.args.depth c.args.scopes) in
    let more = turn_more is_or read (λ a b. conditions.Or a b) (alternatives_by (unit_at c.args.depth c.args.scopes)
    (see c.args.rest.now)) c.loop-behind.cond c.in_ok-right.right (see c.loop-behind.rest.now) (see c.in-Some.behind.now)
    (see c.in_ok-right.left_over.now) c.loop-behind.invariant c.in-Some.ensures c.in_ok-right.ensures
    (conjunction_shorter c.args.depth c.args.scopes (see c.in-Some.behind.now) (see c.in_ok-right.left_over.now)
    c.in_ok-right.right c.in_ok-right.ensures) in
    subst (λ b. Turning is_or read (λ a b. conditions.Or a b) (alternatives_by (unit_at c.args.depth c.args.scopes)
    (see c.args.rest.now)) (conditions.Or c.in_ok-new.field-0 b) (see c.in_ok-right.left_over.now)) (sym c.in_ok-new-2.ensures)
    (subst (λ a. Turning is_or read (λ a b. conditions.Or a b) (alternatives_by (unit_at c.args.depth c.args.scopes)
    (see c.args.rest.now)) (conditions.Or a c.in_ok-right.right) (see c.in_ok-right.left_over.now)) (sym c.in_ok-new.ensures)
    more)

pub conjunction-loop-behind-smaller : goal.conjunction-loop-behind-smaller
conjunction-loop-behind-smaller t c =
    fewer (seen c.args.text.now) is_and c.loop-behind.rest.now c.in-Some.behind.now c.in_ok-right.left_over.now
    c.in-Some.ensures (unit_shorter c.args.depth c.args.scopes (map (seen c.args.text.now) c.in-Some.behind.now)
    (map (seen c.args.text.now) c.in_ok-right.left_over.now) c.in_ok-right.right c.in_ok-right.ensures)

pub conjunction-loop-behind-preserved : goal.conjunction-loop-behind-preserved
conjunction-loop-behind-preserved t c =
    let see = map (seen c.args.text.now) in
    let read = unit_at c.args.depth c.args.scopes in
    let more = turn_more is_and read (λ a b. conditions.And a b) (conjunction_by read
    (see c.args.rest.now)) c.loop-behind.cond c.in_ok-right.right (see c.loop-behind.rest.now) (see c.in-Some.behind.now)
    (see c.in_ok-right.left_over.now) c.loop-behind.invariant c.in-Some.ensures c.in_ok-right.ensures
    (unit_shorter c.args.depth c.args.scopes (see c.in-Some.behind.now) (see c.in_ok-right.left_over.now)
    c.in_ok-right.right c.in_ok-right.ensures) in
    subst (λ b. Turning is_and read (λ a b. conditions.And a b) (conjunction_by read (see c.args.rest.now))
    (conditions.And c.in_ok-new.field-0 b) (see c.in_ok-right.left_over.now)) (sym c.in_ok-new-2.ensures)
    (subst (λ a. Turning is_and read (λ a b. conditions.And a b) (conjunction_by read (see c.args.rest.now))
    (conditions.And a c.in_ok-right.right) (see c.in_ok-right.left_over.now)) (sym c.in_ok-new.ensures) more)

pub unit-returns-in-Open : goal.unit-returns-in-Open
unit-returns-in-Open t c = subst (Agrees c.args.text.now c.enclosed.result)
    (sym (open_unit c.args.text.now c.args.rest.now _ c.args.depth c.args.scopes (omega (arith, c.in-len1-up.len_at_least))
    c.in-Open.is (omega (arith, c.if-depth-gt0.true)))) c.enclosed.ensures

pub unit-returns-in-Inputs : goal.unit-returns-in-Inputs
unit-returns-in-Inputs t c = subst (Agrees c.args.text.now c.scope.result)
    (sym (inputs_unit c.args.text.now c.args.rest.now _ c.args.depth c.args.scopes (omega (arith, c.in-len1-up.len_at_least))
    c.in-Inputs.is (omega (arith, c.if-depth-gt0-2.true)) c.if-scopes.true)) c.scope.ensures

pub unit-returns-in-Outputs : goal.unit-returns-in-Outputs
unit-returns-in-Outputs t c = subst (Agrees c.args.text.now c.scope-in-Outputs.result)
    (sym (outputs_unit c.args.text.now c.args.rest.now _ c.args.depth c.args.scopes (omega (arith, c.in-len1-up.len_at_least))
    c.in-Outputs.is (omega (arith, c.if-depth-gt0-3.true)) c.if-scopes-2.true)) c.scope-in-Outputs.ensures
