-- Two that pass have the type that is found beside one another, if there is one; where one does not pass, there is none.
use Rattle.std.proofs.Common.{sym, ◌∙◌}
use Rattle.ivy_check.specs.Scope.{scope_of}
use Rattle.ivy_check.specs.Walk.{inferred_of}
use Rattle.ivy_check.proofs.FoundTypes.{Passed, left_none, right_none, common_given, common_only, no_common}
use Rattle.ivy_check.proofs.typed.common_type.Goals as goal

pub returns-in_default : goal.returns-in_default
returns-in_default c = record {
  some = λ type t.
      absurd (left_none (scope_of c.args.scope) c.args.left.now c.args.right.now _ c.in_default.ensures.fault type t);
  only = λ type types is. absurd cc;
}

pub returns-in_default-whole_expression : goal.returns-in_default-whole_expression
returns-in_default-whole_expression c = record {
  some = λ type t. absurd (right_none (scope_of c.args.scope) c.args.left.now c.args.right.now _
      c.in_default-whole_expression.ensures.fault type t);
  only = λ type types is. absurd cc;
}

pub returns-then-are_of_one_type : goal.returns-then-are_of_one_type
returns-then-are_of_one_type c =
    let left : Passed (scope_of c.args.scope) c.args.left.now (inferred_of c.in-Ok.first) =
    (c.in-Ok.ensures.fault, c.in-Ok.ensures.inferred) in
    let right : Passed (scope_of c.args.scope) c.args.right.now (inferred_of c.in-Ok-whole_expression.second) =
    (c.in-Ok-whole_expression.ensures.fault, c.in-Ok-whole_expression.ensures.inferred) in
    record {
      some = λ type t. c.coerced_beside.ensures
          ∙ common_given (scope_of c.args.scope) c.args.left.now c.args.right.now _ _ left right type t;
      only = λ type types is. common_only (scope_of c.args.scope) c.args.left.now c.args.right.now _ _ left right
          (sym c.are_of_one_type.ensures ∙ c.if-are_of_one_type.true) type types (sym c.coerced_beside.ensures ∙ is);
    }

pub returns-else-are_of_one_type : goal.returns-else-are_of_one_type
returns-else-are_of_one_type c =
    let left : Passed (scope_of c.args.scope) c.args.left.now (inferred_of c.in-Ok.first) =
    (c.in-Ok.ensures.fault, c.in-Ok.ensures.inferred) in
    let right : Passed (scope_of c.args.scope) c.args.right.now (inferred_of c.in-Ok-whole_expression.second) =
    (c.in-Ok-whole_expression.ensures.fault, c.in-Ok-whole_expression.ensures.inferred) in
    record {
      some = λ type t. absurd (no_common (scope_of c.args.scope) c.args.left.now c.args.right.now _ _ left right
          (sym c.are_of_one_type.ensures ∙ c.if-are_of_one_type.false) type t);
      only = λ type types is. absurd cc;
    }
