-- The type faults of a source: the first test that holds, in the order of the tests. Public statements name it.
use Rattle.std.specs.Prelude.{◌≡◌, ◌||◌, List, [], ◌∷◌, ◌++◌, Some, None}
use Rattle.std.specs.List.{list_any}
use Rattle.wire.specs.Tables.{Cause}
use Rattle.ivy_syntax.specs.declared.tree.Req.{Req}
use Rattle.ivy_syntax.specs.declared.tree.ClauseTree.{ClauseTree}
use Rattle.ivy_syntax.specs.declared.tree.Contract.{Contract}
use Rattle.ivy_syntax.specs.declared.tree.Source.{Source}
use Rattle.ivy_syntax.specs.Texts.{IsOfSomeText}
use Rattle.ivy_check.specs.Tests.{Test, Reported, causes, first_of, walked}
use Rattle.ivy_check.specs.Scope.{Scope, in_clause, is_name, is_parameter, is_required}
use Rattle.ivy_check.specs.Statements.{statement_tests, left_tests, sides_tests}
use Rattle.ivy_check.specs.Uses.{unused_tests}
use Rattle.ivy_check.specs.Declarations.{declared, is_contract_name, param_tests}

-- a requirement after others: its name, its amount and its asset
abbrev pub req_tests : Scope → (before : List Req) → Req → List Test
req_tests scope before req =
    declared 2 req.name
    (is_contract_name (Some scope.contract) req.name.name || is_parameter req.name.name scope.clause.params
    || is_required req.name.name before)
    ++ sides_tests scope req

-- what stands in a clause, and what is left or unused at its end
abbrev pub clause_body_tests : Scope → List Test
clause_body_tests scope =
    param_tests (Some scope.contract) scope.clause.params
    ++ walked (req_tests scope) [] scope.clause.reqs
    ++ walked (statement_tests scope) [] scope.clause.stmts
    ++ left_tests scope
    ++ unused_tests (scope.clause ∷ []) scope.clause.params

-- a clause of a contract after others
abbrev pub clause_tests : Contract → (before : List ClauseTree) → ClauseTree → List Test
clause_tests contract before clause =
    declared 3 clause.name (list_any (λ other. is_name clause.name.name other.name) before)
    ++ clause_body_tests (in_clause contract clause)

-- a contract after others
abbrev pub contract_tests : (before : List Contract) → Contract → List Test
contract_tests before contract =
    declared 1 contract.name (list_any (λ other. is_name contract.name.name other.name) before)
    ++ param_tests None contract.params
    ++ declared 2 contract.value (is_parameter contract.value.name contract.params)
    ++ walked (clause_tests contract) [] contract.clauses
    ++ unused_tests contract.clauses contract.params

-- all tests of a source, in their order
abbrev pub tests_of : Source → List Test
tests_of source = walked contract_tests [] source.contracts

-- the same as a table: the type fault of a source is what its first cause that holds reports
abbrev pub causes_of : Source → List (Cause Reported)
causes_of source = causes (tests_of source)

-- no type fault stands in the source
abbrev pub HasNoFault : Source → Type 0
HasNoFault source = first_of (tests_of source) ≡ None

-- Some text is this source, and no type fault stands in it.
pub record IsChecked (source : Source) : Type 0 where
  pub of_text : IsOfSomeText source
  pub no_fault : HasNoFault source
