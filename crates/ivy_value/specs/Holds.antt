-- When a clause holds for a spending, and which clause the arguments of a spending select. Public statements name it.
use Rattle.std.specs.Prelude.{◌≡◌, ℕ, ◌+◌, ◌≤◌, true, false, List, [], ◌∷◌, ◌++◌, length, Option, Some, None}
use Rattle.std.specs.Prelude.{option_and_then, if◌then◌else◌, bytes_eq, slice_get, ℤ, pos, negsuc}
use Rattle.keyed.specs.Functions.{Check}
use Rattle.ivy_syntax.specs.declared.tree.Req.{Req}
use Rattle.ivy_syntax.specs.declared.tree.Stmt.{Stmt}
use Rattle.ivy_syntax.specs.declared.tree.Stmt.TheVariants.{Verify, Lock, Unlock}
use Rattle.ivy_syntax.specs.declared.tree.ClauseTree.{ClauseTree}
use Rattle.ivy_syntax.specs.declared.tree.Contract.{Contract}
use Rattle.ivy_check.specs.Scope.{Scope}
use Rattle.vm_num.specs.Item.{Item, num, is_true}
use Rattle.vm_run.specs.declared.transaction.OutSeen.{OutSeen}
use Rattle.vm_run.specs.declared.transaction.TxContext.{TxContext}
use Rattle.ivy_value.specs.Items.{Spending}
use Rattle.ivy_check.specs.Parameters.{parameters}
use Rattle.ivy_value.specs.Value.{item_value}

-- ---- what values have to be

-- it is defined and true
pub record IsTruth (value : Option Item) : Type 0 where
  pub item : Item
  pub defined : value ≡ Some item
  pub true_of : is_true item ≡ true

-- the number of an item, where it is one and not negative
abbrev pub natural : ℤ → Option ℕ
natural (pos n) = Some n
natural (negsuc n) = None

abbrev pub amount_of : Option Item → Option ℕ
amount_of value = option_and_then natural (option_and_then num value)

-- The output at this place is a control output, and has this asset, this amount and this program, all of them defined.
pub record HasOutput (context : TxContext) (place : ℕ) (asset : Option Item) (amount : Option ℕ)
    (program : Option Item) : Type 0 where
  pub out : OutSeen
  pub there : slice_get context.outs place ≡ Some out
  pub control : out.retired ≡ false
  pub asset_is : asset ≡ Some out.asset
  pub amount_is : amount ≡ Some out.amount
  pub program_is : program ≡ Some out.program

-- ---- values of a clause

-- the requirement of a value
abbrev pub requirement_of : List ℕ → List Req → Option Req
requirement_of name [] = None
requirement_of name (req ∷ reqs) = if bytes_eq req.name.name name then Some req else requirement_of name reqs

-- the asset and the amount of a value: those of the input for the locked value, and for another what it requires
abbrev pub required_asset : Scope → Spending → Option Req → Option Item
required_asset scope s req = option_and_then (λ r. item_value scope s r.asset) req

abbrev pub required_amount : Scope → Spending → Option Req → Option ℕ
required_amount scope s req = option_and_then (λ r. amount_of (item_value scope s r.amount)) req

abbrev pub asset_of : Scope → Spending → List ℕ → Option Item
asset_of scope s name =
    if bytes_eq scope.contract.value.name name then Some s.context.asset
    else required_asset scope s (requirement_of name scope.clause.reqs)

abbrev pub units_of : Scope → Spending → List ℕ → Option ℕ
units_of scope s name =
    if bytes_eq scope.contract.value.name name then Some s.context.amount
    else required_amount scope s (requirement_of name scope.clause.reqs)

-- ---- statements

-- What is verified is defined and true. The k-th lock, from 0, speaks of the output at k after the input's place.
abbrev pub StatementsHold : Scope → Spending → (k : ℕ) → List Stmt → Type 0
StatementsHold scope s k [] = Unit {0}
StatementsHold scope s k (Verify at e ∷ stmts) = IsTruth (item_value scope s e) × StatementsHold scope s k stmts
StatementsHold scope s k (Lock at v e ∷ stmts) =
    HasOutput s.context (s.context.index + k) (asset_of scope s v.name) (units_of scope s v.name) (item_value scope s e)
    × StatementsHold scope s (k + 1) stmts
StatementsHold scope s k (Unlock at v ∷ stmts) = StatementsHold scope s k stmts

-- the clause holds
abbrev pub Holds : Scope → Spending → Type 0
Holds scope s = StatementsHold scope s 0 scope.clause.stmts

-- ---- the clause that is selected

-- A contract's only clause is selected by as many arguments as it has parameters. Of two or more clauses one is
-- selected by as many, and then its number from 0.
pub data Selects (contract : Contract) (arguments : List Item) : (number : ℕ) → (given : List Item) → Type 0 where
  only : (clause : ClauseTree)
      → contract.clauses ≡ clause ∷ []
      → length arguments ≡ length (parameters clause.params)
      → Selects contract arguments 0 arguments
  one_of : {number : ℕ} {given : List Item} (clause : ClauseTree) (selector : Item)
      → 2 ≤ length contract.clauses
      → slice_get contract.clauses number ≡ Some clause
      → arguments ≡ given ++ (selector ∷ [])
      → length given ≡ length (parameters clause.params)
      → num selector ≡ Some (pos number)
      → Selects contract arguments number given

-- A clause is selected by these arguments, and it holds.
pub record SelectedHolds (contract : Contract) (held arguments : List Item) (context : TxContext) (check : Check)
    : Type 0 where
  pub number : ℕ
  pub given : List Item
  pub clause : ClauseTree
  pub there : slice_get contract.clauses number ≡ Some clause
  pub selects : Selects contract arguments number given
  pub holds : Holds (record { contract = contract; clause = clause })
      (record { held = held; given = given; context = context; check = check })
