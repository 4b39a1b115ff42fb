-- Where no test holds, no value is left and no parameter is unused.
use Rattle.std.proofs.Common.{◌≡◌, ℕ, Bool, true, false, not, List, [], ◌∷◌, ◌++◌, Option, Some, None, IsTrue, refl}
use Rattle.std.proofs.Common.{sym, ◌∙◌}
use Rattle.std.specs.List.{list_any, flat_map, AllByRecursion}
use Rattle.ivy_syntax.specs.declared.tree.ClauseTree.{ClauseTree}
use Rattle.ivy_syntax.specs.declared.tree.Contract.{Contract}
use Rattle.ivy_syntax.specs.declared.tree.Group.{Group}
use Rattle.ivy_syntax.specs.declared.tree.Req.{Req}
use Rattle.ivy_syntax.specs.declared.tree.Source.{Source}
use Rattle.ivy_syntax.specs.declared.tree.Word.{Word}
use Rattle.ivy_check.specs.Tests.{Test, Reported, fault, first_of, walked}
use Rattle.ivy_check.specs.Scope.{Scope, is_name, is_parameter}
use Rattle.ivy_check.specs.Declarations.{declared, param_tests}
use Rattle.ivy_check.specs.Statements.{is_disposed, left, left_tests, statement_tests}
use Rattle.ivy_check.specs.Uses.{clause_uses, word_unused, unused_tests}
use Rattle.ivy_check.specs.TypeFault.{req_tests, clause_body_tests, clause_tests, contract_tests, tests_of}
use Rattle.ivy_check.specs.Laws.{AreUsed, ClauseIsWhole, ContractIsWhole}
use Rattle.ivy_check.proofs.TestLemmas.{or_first, first_of_append}

none_or : (x y : Option Reported) → or_first x y ≡ None → (x ≡ None) × (y ≡ None)
none_or None y h = (refl, h)
none_or (Some reported) y h = absurd cc

pub none_both : (a b : List Test) → first_of (a ++ b) ≡ None → (first_of a ≡ None) × (first_of b ≡ None)
none_both a b h = none_or (first_of a) (first_of b) (sym (first_of_append a b) ∙ h)

pub none_fault : (kind at : ℕ) (b : Bool) → first_of (fault kind at (not b)) ≡ None → IsTrue b
none_fault kind at true h = refl
none_fault kind at false h = absurd cc

module _ {A : Type 0} (P : A → Type 0) where
  none_all : (tests : A → List Test) → ((x : A) → first_of (tests x) ≡ None → P x) → (xs : List A)
      → first_of (flat_map tests xs) ≡ None → AllByRecursion P xs
  none_all tests each [] h = tt
  none_all tests each (x ∷ xs) h =
      let both = none_both (tests x) (flat_map tests xs) h in (each x both.0, none_all tests each xs both.1)

  none_walked : (tests : List A → A → List Test) → ((before : List A) (x : A) → first_of (tests before x) ≡ None → P x)
      → (before xs : List A) → first_of (walked tests before xs) ≡ None → AllByRecursion P xs
  none_walked tests each before [] h = tt
  none_walked tests each before (x ∷ xs) h =
      let both = none_both (tests before x) (walked tests (before ++ x ∷ []) xs) h in
      (each before x both.0, none_walked tests each (before ++ x ∷ []) xs both.1)

all_used : (clauses : List ClauseTree) (groups : List Group) → first_of (unused_tests clauses groups) ≡ None
    → AreUsed clauses groups
all_used clauses =
    none_all (λ group. AllByRecursion (λ word. IsTrue (list_any (clause_uses word.name) clauses)) group.names)
    (λ group. flat_map (word_unused clauses) group.names)
    (λ group. none_all (λ (word : Word). IsTrue (list_any (clause_uses word.name) clauses)) (word_unused clauses)
    (λ word. none_fault 18 word.at (list_any (clause_uses word.name) clauses)) group.names)

clause_body_whole : (contract : Contract) (clause : ClauseTree)
    → first_of (clause_body_tests (record { contract = contract; clause = clause })) ≡ None → ClauseIsWhole contract clause
clause_body_whole contract clause h =
    let scope : Scope = record { contract = contract; clause = clause } in
    let params : List Test = param_tests (Some contract) clause.params in
    let reqs : List Test = walked (req_tests scope) [] clause.reqs in
    let stmts : List Test = walked (statement_tests scope) [] clause.stmts in
    let required : List Test = flat_map (λ (req : Req). left clause.stmts req.name) clause.reqs in
    let end = none_both (params ++ reqs ++ stmts ++ left_tests scope) (unused_tests (clause ∷ []) clause.params) h in
    let values = none_both (params ++ reqs ++ stmts) (left_tests scope) end.0 in
    let each = none_both (left clause.stmts contract.value) required values.1 in
    record {
      locked = none_fault 17 contract.value.at (is_disposed contract.value.name clause.stmts) each.0;
      required = none_all (λ (req : Req). IsTrue (is_disposed req.name.name clause.stmts))
          (λ (req : Req). left clause.stmts req.name)
          (λ req. none_fault 17 req.name.at (is_disposed req.name.name clause.stmts)) clause.reqs each.1;
      used = all_used (clause ∷ []) clause.params end.1;
    }

clause_whole : (contract : Contract) (before : List ClauseTree) (clause : ClauseTree)
    → first_of (clause_tests contract before clause) ≡ None → ClauseIsWhole contract clause
clause_whole contract before clause h =
    let name : List Test = declared 3 clause.name
    (list_any (λ (other : ClauseTree). is_name clause.name.name other.name) before) in
    clause_body_whole contract clause
    (none_both name (clause_body_tests (record { contract = contract; clause = clause })) h).1

contract_whole : (before : List Contract) (contract : Contract) → first_of (contract_tests before contract) ≡ None
    → ContractIsWhole contract
contract_whole before contract h =
    let name : List Test = declared 1 contract.name
    (list_any (λ (other : Contract). is_name contract.name.name other.name) before) in
    let params : List Test = param_tests None contract.params in
    let value : List Test = declared 2 contract.value (is_parameter contract.value.name contract.params) in
    let clauses : List Test = walked (clause_tests contract) [] contract.clauses in
    let end = none_both (name ++ params ++ value ++ clauses) (unused_tests contract.clauses contract.params) h in
    let inner = none_both (name ++ params ++ value) clauses end.0 in
    record {
      clauses = none_walked (ClauseIsWhole contract) (clause_tests contract) (clause_whole contract) []
          contract.clauses inner.1;
      used = all_used contract.clauses contract.params end.1;
    }

pub source_whole : (source : Source) → first_of (tests_of source) ≡ None
    → AllByRecursion ContractIsWhole source.contracts
source_whole source = none_walked ContractIsWhole contract_tests contract_whole [] source.contracts
