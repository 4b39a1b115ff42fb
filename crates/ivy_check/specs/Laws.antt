-- What holds of type faults. Public statements name it.
use Rattle.std.specs.Prelude.{◌≡◌, ◌↔◌, IsTrue, List, [], ◌∷◌, None}
use Rattle.std.specs.List.{list_any, AllByRecursion}
use Rattle.wire.specs.Tables.{First, OneAnswer}
use Rattle.ivy_syntax.specs.declared.tree.ClauseTree.{ClauseTree}
use Rattle.ivy_syntax.specs.declared.tree.Contract.{Contract}
use Rattle.ivy_syntax.specs.declared.tree.Expr.{Expr}
use Rattle.ivy_syntax.specs.declared.tree.Group.{Group}
use Rattle.ivy_syntax.specs.declared.tree.Source.{Source}
use Rattle.ivy_check.specs.declared.types.IvyType.{IvyType}
use Rattle.ivy_check.specs.Tests.{first_of}
use Rattle.ivy_check.specs.Scope.{Scope}
use Rattle.ivy_check.specs.Typing.{HasType, TypesExist}
use Rattle.ivy_check.specs.Expressions.{typing, whole_tests}
use Rattle.ivy_check.specs.Statements.{is_disposed}
use Rattle.ivy_check.specs.Uses.{clause_uses}
use Rattle.ivy_check.specs.TypeFault.{HasNoFault, causes_of}
use Rattle.ivy_check.specs.WellTyped.{WellTyped}

-- of every source there is one answer: one fault, or none
abbrev pub EachHasOneAnswer : Type 0
EachHasOneAnswer = (source : Source) → OneAnswer (causes_of source)

-- each parameter of these groups is used by one of these clauses
abbrev pub AreUsed : List ClauseTree → List Group → Type 0
AreUsed clauses =
    AllByRecursion (λ group. AllByRecursion (λ word. IsTrue (list_any (clause_uses word.name) clauses)) group.names)

-- each value of a clause is disposed of, and each of its parameters is used
pub record ClauseIsWhole (contract : Contract) (clause : ClauseTree) : Type 0 where
  pub locked : IsTrue (is_disposed contract.value.name clause.stmts)
  pub required : AllByRecursion (λ req. IsTrue (is_disposed req.name.name clause.stmts)) clause.reqs
  pub used : AreUsed (clause ∷ []) clause.params

pub record ContractIsWhole (contract : Contract) : Type 0 where
  pub clauses : AllByRecursion (ClauseIsWhole contract) contract.clauses
  pub used : AreUsed contract.clauses contract.params

-- In a source with no fault no value is left and no parameter unused.
abbrev pub NothingIsLeft : Type 0
NothingIsLeft = (source : Source) → First (causes_of source) None → AllByRecursion ContractIsWhole source.contracts

-- By the table an expression has one type at most.
abbrev pub EachHasOneType : Type 0
EachHasOneType = (scope : Scope) (e : Expr) (a b : IvyType) → HasType scope e a → HasType scope e b → a ≡ b

-- Where the types of all parameters exist, an expression has no fault of its own exactly where it has a type by the
-- table.
abbrev pub NoFaultIsTyped : Type 0
NoFaultIsTyped = (scope : Scope) (e : Expr)
    → TypesExist scope.clause.params
    → TypesExist scope.contract.params
    → (first_of (whole_tests (typing scope e)) ≡ None) ↔ ((type : IvyType) × HasType scope e type)

-- A source has no type fault exactly where it is well typed.
abbrev pub NoFaultIsWellTyped : Type 0
NoFaultIsWellTyped = (source : Source) → HasNoFault source ↔ WellTyped source
