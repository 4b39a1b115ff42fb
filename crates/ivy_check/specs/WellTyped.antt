-- Well-typed sources: what a source has to be for no type fault to stand in it. Public statements name it.
use Rattle.std.specs.Prelude.{◌≡◌, ◌⊎◌, ℕ, true, false, List, [], ◌∷◌, ◌++◌, map, codes, bytes_eq}
use Rattle.std.specs.List.{flat_map, AllByRecursion, Any, IsDistinct}
use Rattle.ivy_syntax.specs.declared.tree.Op.{Op}
use Rattle.ivy_syntax.specs.declared.tree.Expr.{Expr}
use Rattle.ivy_syntax.specs.declared.tree.Form.TheVariants as form
use Rattle.ivy_syntax.specs.declared.tree.Group.{Group}
use Rattle.ivy_syntax.specs.declared.tree.Word.{Word}
use Rattle.ivy_syntax.specs.declared.tree.Req.{Req}
use Rattle.ivy_syntax.specs.declared.tree.Stmt.{Stmt}
use Rattle.ivy_syntax.specs.declared.tree.Stmt.TheVariants.{Verify, Lock, Unlock}
use Rattle.ivy_syntax.specs.declared.tree.ClauseTree.{ClauseTree}
use Rattle.ivy_syntax.specs.declared.tree.Contract.{Contract}
use Rattle.ivy_syntax.specs.declared.tree.Source.{Source}
use Rattle.ivy_check.specs.declared.types.IvyType.TheVariants.{Amount, Asset, Boolean, Program}
use Rattle.ivy_check.specs.Scope.{Scope, in_clause}
use Rattle.ivy_check.specs.Typing.{is_one_of, parameter_names, value_names, TypesExist, HasType, TakesType}

-- ---- names

-- the names of the types and of the functions
abbrev pub reserved_names : List (List ℕ)
reserved_names =
    codes "Amount" ∷ codes "Asset" ∷ codes "Boolean" ∷ codes "Hash" ∷ codes "Integer" ∷ codes "Program"
    ∷ codes "PublicKey" ∷ codes "Signature" ∷ codes "String" ∷ codes "Time"
    ∷ codes "abs" ∷ codes "min" ∷ codes "max" ∷ codes "size" ∷ codes "bytes" ∷ codes "sha256"
    ∷ codes "concat" ∷ codes "concatpush" ∷ codes "checkTxSig" ∷ codes "checkTxMultiSig"
    ∷ codes "before" ∷ codes "after" ∷ []

-- none of these names is a type's or a function's
abbrev pub NoneIsReserved : List (List ℕ) → Type 0
NoneIsReserved = AllByRecursion (λ name. is_one_of reserved_names name ≡ false)

-- no two of these names are one
abbrev pub AreDistinct : List (List ℕ) → Type 0
AreDistinct = IsDistinct bytes_eq

-- the names that a contract declares for all its clauses: its parameters and its value
abbrev pub contract_names : Contract → List (List ℕ)
contract_names contract = parameter_names contract.params ++ contract.value.name ∷ []

-- the names of the values that a clause requires
abbrev pub required_names : List Req → List (List ℕ)
required_names = map (λ req. req.name.name)

-- the names that a clause declares: its parameters and the values that it requires
abbrev pub clause_names : ClauseTree → List (List ℕ)
clause_names clause = parameter_names clause.params ++ required_names clause.reqs

-- ---- uses

mutual
  -- the name stands in the expression
  pub data StandsIn (name : List ℕ) : Expr → Type 0 where
    itself : {e : Expr}
        → e.form ≡ form.Name name
        → StandsIn name e
    in_call : {e : Expr} (function : List ℕ) (args : List Expr)
        → e.form ≡ form.Call function args
        → StandsInOneOf name args
        → StandsIn name e
    in_list : {e : Expr} (members : List Expr)
        → e.form ≡ form.Members members
        → StandsInOneOf name members
        → StandsIn name e
    in_operand : {e : Expr} (o : Op) (arg : Expr)
        → e.form ≡ form.Unary o arg
        → StandsIn name arg
        → StandsIn name e
    in_left : {e : Expr} (o : Op) (left right : Expr)
        → e.form ≡ form.Binary o left right
        → StandsIn name left
        → StandsIn name e
    in_right : {e : Expr} (o : Op) (left right : Expr)
        → e.form ≡ form.Binary o left right
        → StandsIn name right
        → StandsIn name e

  pub data StandsInOneOf (name : List ℕ) : List Expr → Type 0 where
    here : {e : Expr} {es : List Expr}
        → StandsIn name e
        → StandsInOneOf name (e ∷ es)
    later : {e : Expr} {es : List Expr}
        → StandsInOneOf name es
        → StandsInOneOf name (e ∷ es)

-- the name stands in an expression of the requirement; below, in one of the statement, and of the clause
abbrev pub RequirementUses : List ℕ → Req → Type 0
RequirementUses name req = StandsIn name req.amount ⊎ StandsIn name req.asset

pub data StatementUses (name : List ℕ) : Stmt → Type 0 where
  verified : {at : ℕ} {e : Expr}
      → StandsIn name e
      → StatementUses name (Verify at e)
  locked_with : {at : ℕ} {value : Word} {program : Expr}
      → StandsIn name program
      → StatementUses name (Lock at value program)

abbrev pub ClauseUses : List ℕ → ClauseTree → Type 0
ClauseUses name clause = Any (RequirementUses name) clause.reqs ⊎ Any (StatementUses name) clause.stmts

-- each parameter of these groups is used by one of these clauses
abbrev pub EachIsUsed : List ClauseTree → List Group → Type 0
EachIsUsed clauses groups = AllByRecursion (λ name. Any (ClauseUses name) clauses) (parameter_names groups)

-- ---- clauses

-- a requirement asks for an amount of an asset
pub record RequirementIsTyped (scope : Scope) (req : Req) : Type 0 where
  pub amount : TakesType scope req.amount Amount
  pub asset : TakesType scope req.asset Asset

-- What is verified is a Boolean. A value of the clause is locked with a Program. The value that is unlocked is the
-- contract's, and none that the clause requires.
abbrev pub StatementIsTyped : Scope → Stmt → Type 0
StatementIsTyped scope (Verify at e) = HasType scope e Boolean
StatementIsTyped scope (Lock at value program) =
    (is_one_of (value_names scope) value.name ≡ true) × HasType scope program Program
StatementIsTyped scope (Unlock at value) =
    (value.name ≡ scope.contract.value.name) × (is_one_of (required_names scope.clause.reqs) value.name ≡ false)

-- the names of the values that a statement disposes of, and that several do, in order
abbrev pub disposed_by : Stmt → List (List ℕ)
disposed_by (Verify at e) = []
disposed_by (Lock at value program) = value.name ∷ []
disposed_by (Unlock at value) = value.name ∷ []

abbrev pub disposed_names : List Stmt → List (List ℕ)
disposed_names = flat_map disposed_by

-- the statements of a clause
pub record StatementsAreTyped (scope : Scope) : Type 0 where
  pub each : AllByRecursion (StatementIsTyped scope) scope.clause.stmts
  -- no value is disposed of twice
  pub once : AreDistinct (disposed_names scope.clause.stmts)

-- each value of the clause is disposed of
abbrev pub ValuesAreDisposed : Scope → Type 0
ValuesAreDisposed scope =
    AllByRecursion (λ name. is_one_of (disposed_names scope.clause.stmts) name ≡ true) (value_names scope)

-- a clause of a contract
pub record ClauseIsTyped (contract : Contract) (clause : ClauseTree) : Type 0 where
  -- what it declares, and its own name
  pub declarable : NoneIsReserved (clause.name.name ∷ clause_names clause)
  pub distinct : AreDistinct (contract_names contract ++ clause_names clause)
  pub types : TypesExist clause.params
  -- what stands in it
  pub requirements : AllByRecursion (RequirementIsTyped (in_clause contract clause)) clause.reqs
  pub statements : StatementsAreTyped (in_clause contract clause)
  -- No value is left, and no parameter is unused.
  pub disposed : ValuesAreDisposed (in_clause contract clause)
  pub used : EachIsUsed (clause ∷ []) clause.params

-- ---- contracts

pub record ContractIsTyped (contract : Contract) : Type 0 where
  pub declarable : NoneIsReserved (contract.name.name ∷ contract_names contract)
  pub distinct : AreDistinct (contract_names contract)
  pub types : TypesExist contract.params
  -- No two clauses have one name.
  pub named : AreDistinct (map (λ clause. clause.name.name) contract.clauses)
  pub clauses : AllByRecursion (ClauseIsTyped contract) contract.clauses
  pub used : EachIsUsed contract.clauses contract.params

-- a source
pub record WellTyped (source : Source) : Type 0 where
  -- No two contracts have one name.
  pub named : AreDistinct (map (λ contract. contract.name.name) source.contracts)
  pub contracts : AllByRecursion ContractIsTyped source.contracts
