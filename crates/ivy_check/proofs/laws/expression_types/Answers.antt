-- What has a type passes its tests, and the type that is inferred is its type.
use Rattle.std.proofs.Common.{Option, ap, sym, ◌∙◌, unwrap_or}
use Rattle.ivy_check.specs.declared.types.IvyType.{IvyType}
use Rattle.ivy_check.specs.Expressions.{typing}
use Rattle.ivy_check.proofs.TypingRules.{typed, whole_passes}
use Rattle.ivy_check.proofs.TypingFound.{are_known, whole_found, finds_type}
use Rattle.ivy_check.proofs.laws.expression_types.Goals as goal

pub returns-clause-one : goal.returns-clause-one
returns-clause-one c = λ scope e a b h k.
    ap (λ (o : Option IvyType). unwrap_or o a) (sym (typed scope h).0 ∙ (typed scope k).0)

pub returns-clause-typed : goal.returns-clause-typed
returns-clause-typed c = λ scope e clause_types contract_types.
    let clause_known = are_known scope.clause.params clause_types in
    let contract_known = are_known scope.contract.params contract_types in (
      (λ passes. whole_found scope clause_known contract_known e (finds_type scope clause_known contract_known e) passes),
      (λ h. let t = typed scope h.1 in whole_passes (typing scope e) (t.1, t.2)),
    )
