-- What the walk infers of expressions, as the table of types says it.
use Rattle.std.proofs.Common.{◌≡◌, Bool, true, false, Option, Some, None, refl, ap, sym, ◌∙◌, subst, unwrap_or}
use Rattle.ivy_syntax.specs.declared.tree.Expr.{Expr}
use Rattle.ivy_check.specs.declared.types.IvyType.{IvyType}
use Rattle.ivy_check.specs.Tests.{Reported, first_of}
use Rattle.ivy_check.specs.Scope.{Scope}
use Rattle.ivy_check.specs.Expressions.{Inferred, typing, whole_tests, coerced_beside, are_of_one_type}
use Rattle.ivy_check.specs.Typing.{AllTypesExist, HasType, HaveOneType}
use Rattle.ivy_check.proofs.TypeWords.{not_both}
use Rattle.ivy_check.proofs.TypingRules.{Stands, whole_passes, typed, typed_alike, are_one}
use Rattle.ivy_check.proofs.TypingFound.{are_known, whole_found, finds_type, alike_found}

same_type_found : (o : Option IvyType) (a b : IvyType) → o ≡ Some a → o ≡ Some b → a ≡ b
same_type_found o a b h k = ap (λ (o : Option IvyType). unwrap_or o a) (sym h ∙ k)

module _ (scope : Scope) where
  -- the walk passed it, and inferred this
  abbrev pub Passed : Expr → Inferred → Type 0
  Passed e i = (None ≡ first_of (whole_tests (typing scope e))) × (i ≡ (typing scope e).inferred)

  -- a test of it holds
  abbrev pub Fails : Expr → Reported → Type 0
  Fails e reported = Some reported ≡ first_of (whole_tests (typing scope e))

  has_some : AllTypesExist scope → (e : Expr) → None ≡ first_of (whole_tests (typing scope e))
      → (type : IvyType) × HasType scope e type
  has_some types e h =
      let of_clause = are_known scope.clause.params types.of_clause in
      let of_contract = are_known scope.contract.params types.of_contract in
      whole_found scope of_clause of_contract e (finds_type scope of_clause of_contract e) (sym h)

  not_failed : (e : Expr) (reported : Reported) → Fails e reported → Stands (typing scope e) → ⊥
  not_failed e reported h s =
      let none : first_of (whole_tests (typing scope e)) ≡ None = whole_passes (typing scope e) s in cc

  -- ---- one expression

  module _ (e : Expr) where
    pub type_given : (i : Inferred) → Passed e i → (type : IvyType) → HasType scope e type → i.ivy_type ≡ Some type
    type_given i h type t = ap (λ (i : Inferred). i.ivy_type) h.1 ∙ (typed scope t).0

    pub type_only : (i : Inferred) → Passed e i → (type : IvyType) → AllTypesExist scope → i.ivy_type ≡ Some type
        → HasType scope e type
    type_only i h type types is =
        let found = has_some types e h.0 in
        subst (HasType scope e) (same_type_found i.ivy_type found.0 type (type_given i h found.0 found.1) is) found.1

    pub none_given : (reported : Reported) → Fails e reported → (type : IvyType) → HasType scope e type → ⊥
    none_given reported h type t = let is = typed scope t in not_failed e reported h (is.1, is.2)

  -- ---- two operands

  module _ (a b : Expr) where
    pub left_none : (reported : Reported) → Fails a reported → (type : IvyType) → HaveOneType scope a b type → ⊥
    left_none reported h type t = not_failed a reported h (typed_alike scope t).left

    pub right_none : (reported : Reported) → Fails b reported → (type : IvyType) → HaveOneType scope a b type → ⊥
    right_none reported h type t = not_failed b reported h (typed_alike scope t).right

    module _ (i j : Inferred) (h : Passed a i) (k : Passed b j) where
      pub common_given : (type : IvyType) → HaveOneType scope a b type → coerced_beside j i ≡ Some type
      common_given type t = (λ x. coerced_beside (k.1 x) (h.1 x)) ∙ (typed_alike scope t).one.0

      pub common_only : are_of_one_type i j ≡ true → (type : IvyType) → AllTypesExist scope
          → coerced_beside j i ≡ Some type → HaveOneType scope a b type
      common_only one type types is =
          let of_clause = are_known scope.clause.params types.of_clause in
          let of_contract = are_known scope.contract.params types.of_contract in
          let found = alike_found scope of_clause of_contract a b (has_some types a h.0) (has_some types b k.0)
          (sym (λ x. are_of_one_type (h.1 x) (k.1 x)) ∙ one) in
          subst (HaveOneType scope a b)
          (same_type_found (coerced_beside j i) found.0 type (common_given found.0 found.1) is) found.1

      pub no_common : are_of_one_type i j ≡ false → (type : IvyType) → HaveOneType scope a b type → ⊥
      no_common differ type t =
          not_both (are_of_one_type i j)
          ((λ x. are_of_one_type (h.1 x) (k.1 x))
          ∙ are_one (typing scope a).inferred (typing scope b).inferred type (typed_alike scope t).one) differ
