-- What passes has the type that is inferred, and what does not has none.
use Rattle.ivy_check.specs.Scope.{scope_of}
use Rattle.ivy_check.specs.Walk.{inferred_of}
use Rattle.ivy_check.proofs.FoundTypes.{Passed, type_given, type_only, none_given}
use Rattle.ivy_check.proofs.typed.expression_type.Goals as goal

pub returns-in-Ok : goal.returns-in-Ok
returns-in-Ok c =
    let passed : Passed (scope_of c.args.scope) c.args.e.now (inferred_of c.in-Ok.inferred) =
    (c.in-Ok.ensures.fault, c.in-Ok.ensures.inferred) in
    record {
      some = type_given (scope_of c.args.scope) c.args.e.now _ passed;
      only = type_only (scope_of c.args.scope) c.args.e.now _ passed;
    }

pub returns-in-Err : goal.returns-in-Err
returns-in-Err c = record {
  some = λ type t. absurd (none_given (scope_of c.args.scope) c.args.e.now _ c.in-Err.ensures.fault type t);
  only = λ type types is. absurd cc;
}
