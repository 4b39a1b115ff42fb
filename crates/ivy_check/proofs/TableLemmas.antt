-- Tests as a table: the first that holds is its first cause that does.
use Rattle.std.proofs.Common.{◌≡◌, ℕ, Bool, true, false, List, [], ◌∷◌, Option, Some, None, IsTrue, refl, sym, subst}
use Rattle.std.proofs.Common.{inl, inr, ◌⊎◌, ap, ◌∙◌, if◌then◌else◌, Result, Err, unwrap_or}
use Rattle.ivy_syntax.specs.declared.tree.Contract.{Contract}
use Rattle.ivy_syntax.specs.declared.tree.Source.{Source}
use Rattle.ivy_check.specs.declared.fault.TypeFault.{TypeFault}
use Rattle.ivy_check.specs.declared.fault.TypeFault.TheVariants.{At}
use Rattle.wire.specs.Tables.{First, OneAnswer, one_answer_of, decided_cause, Cause, AreCauses}
use Rattle.ivy_check.specs.Tests.{Test, Reported, causes, first_of, walked}
use Rattle.ivy_check.specs.TypeFault.{contract_tests, tests_of, causes_of}

is_decided : (b : Bool) → IsTrue b ⊎ (IsTrue b → ⊥)
is_decided true = inl refl
is_decided false = inr (λ h. cc)

not_true : IsTrue false → ⊥
not_true h = cc

pub are_causes : (tests : List Test) → AreCauses (causes tests)
are_causes [] = tt
are_causes (test ∷ tests) =
    (decided_cause (is_decided test.holds), are_causes tests)

first_cause : (holds : Bool) (at kind : ℕ) (rest : List (Cause Reported)) (later : Option Reported) → First rest later
    → First ((λ (reported : Reported). IsTrue holds × (reported ≡ (at, kind))) ∷ rest) (if holds then Some (at, kind) else later)
first_cause true at kind rest later h = inl (refl, refl)
first_cause false at kind rest None h = (λ reported no. not_true no.0, h)
first_cause false at kind rest (Some reported) h = inr (λ other no. not_true no.0, h)

pub first_is : (tests : List Test) → First (causes tests) (first_of tests)
first_is [] = tt
first_is (test ∷ tests) = first_cause test.holds test.at test.kind (causes tests) (first_of tests) (first_is tests)

pub one_answer : (tests : List Test) → OneAnswer (causes tests)
one_answer tests = one_answer_of (causes tests) (are_causes tests)

-- an answer of the table is what the first test reports
pub answer_is : (tests : List Test) (answer : Option Reported) → First (causes tests) answer → first_of tests ≡ answer
answer_is tests answer h = (one_answer tests).one (first_of tests) answer (first_is tests) h

pub answers : (tests : List Test) (answer : Option Reported) → first_of tests ≡ answer → First (causes tests) answer
answers tests answer is = subst (First (causes tests)) is (first_is tests)

-- ---- the verdict on a source

abbrev reported_at : (at kind : ℕ) → Option Reported
reported_at at kind = Some (at, kind)

abbrev pub refusal : (at kind : ℕ) → Result Source TypeFault
refusal at kind = Err (At at kind)

module _ (source : Source) (contracts : List Contract) (same : contracts ≡ source.contracts) where
  pub reported_is : (answer : Option Reported) → answer ≡ first_of (walked contract_tests [] contracts)
      → first_of (tests_of source) ≡ answer
  reported_is answer h = sym (h ∙ ap (λ (cs : List Contract). first_of (walked contract_tests [] cs)) same)

  pub no_fault : (at kind : ℕ) → None ≡ first_of (walked contract_tests [] contracts)
      → First (causes_of source) (Some (at, kind)) → ⊥
  no_fault at kind h first =
      let is : first_of (tests_of source) ≡ Some (at, kind) = answer_is (tests_of source) _ first in
      let none : first_of (tests_of source) ≡ None = reported_is None h in
      cc

  module _ (at number : ℕ) (h : Some (at, number) ≡ first_of (walked contract_tests [] contracts)) where
    pub is_first : (other kind : ℕ) → refusal at number ≡ refusal other kind
        → First (causes_of source) (Some (other, kind))
    is_first other kind e =
        let at_is : at ≡ other = cc in
        let kind_is : number ≡ kind = cc in
        answers (tests_of source) _ (reported_is _ h ∙ (λ i. reported_at (at_is i) (kind_is i)))

    pub is_reported : (other kind : ℕ) → First (causes_of source) (Some (other, kind))
        → refusal at number ≡ refusal other kind
    is_reported other kind first =
        let is : first_of (tests_of source) ≡ Some (other, kind) = answer_is (tests_of source) _ first in
        let same_reported : reported_at at number ≡ reported_at other kind = sym (reported_is _ h) ∙ is in
        λ i. refusal (unwrap_or (same_reported i) (0, 0)).0 (unwrap_or (same_reported i) (0, 0)).1
