-- What the evaluation of core does on its way. Only contracts of private functions name it, but for Stands and spent.
use Rattle.std.specs.Prelude.{◌≡◌, ℕ, not, if◌then◌else◌, List, [], ◌∷◌, take, drop}
use Rattle.std.specs.Prelude.{Option, Some, None, slice_get, ℤ, int_lt, int_le}
use Rattle.std.specs.Int.{int_min, int_max}
use Rattle.std.specs.Ordering.{int_eq}
use Rattle.keyed.specs.Functions.{Check}
use Rattle.ivy_syntax.specs.declared.tree.Expr.{Expr}
use Rattle.ivy_syntax.specs.declared.tree.Source.{Source}
use Rattle.ivy_check.specs.declared.types.IvyType.{IvyType}
use Rattle.ivy_check.specs.Scope.{Scope}
use Rattle.ivy_check.specs.Typing.{TakesType}
use Rattle.vm_num.specs.Item.{Item, num_bytes, sum_of, difference_of}
use Rattle.vm_num.specs.Operations.{product_of, quotient_of, remainder_of, left_shift_of, right_shift_of}
use Rattle.vm_run.specs.declared.transaction.TxContext.{TxContext}
use Rattle.ivy_value.specs.declared.evaluation.Spent as code
use Rattle.ivy_value.specs.declared.tree.BinaryOp.{BinaryOp}
use Rattle.ivy_value.specs.declared.tree.BinaryOp.TheVariants as binary
use Rattle.ivy_value.specs.Items.{Spending, written, of_truth}
use Rattle.ivy_check.specs.Parameters.{parameters}
use Rattle.ivy_value.specs.Value.{item_value}
use Rattle.ivy_value.specs.Term.{Term, item_of}
use Rattle.ivy_value.specs.Lowered.{Names}

-- ---- where an expression stands

-- the expression has a type in a clause, or takes one
abbrev pub IsTypedIn : Scope → Expr → Type 0
IsTypedIn scope e = (type : IvyType) × TakesType scope e type

-- It is of a clause of a contract, these by their numbers from 0.
pub record Stands (source : Source) (contract clause : ℕ) (e : Expr) (scope : Scope) : Type 0 where
  pub contract_at : slice_get source.contracts contract ≡ Some scope.contract
  pub clause_at : slice_get scope.contract.clauses clause ≡ Some scope.clause
  pub typed : IsTypedIn scope e

-- the arguments, of which so many are the contract's
abbrev pub spent : (held : ℕ) → (arguments : List Item) → TxContext → Check → Spending
spent held arguments context check =
    record { held = take held arguments; given = drop held arguments; context = context; check = check }

-- ---- on the way

abbrev pub spending_of : Check → code.Spent → Spending
spending_of check at = record { held = at.held.now; given = at.given.now; context = at.context.now; check = check }

-- these are the parameters of a clause and of its contract
pub record AreNamesOf (scope : Scope) (names : Names) : Type 0 where
  pub held : names.held ≡ parameters scope.contract.params
  pub given : names.given ≡ parameters scope.clause.params

-- for every spending the core's item is the expression's value
abbrev pub IsCoreOf : Scope → Expr → Term → Type 0
IsCoreOf scope e core = (s : Spending) → item_of s core ≡ item_value scope s e

-- the operations that read both operands as numbers
abbrev pub on_numbers : BinaryOp → ℤ → ℤ → Option Item
on_numbers binary.Add x y = written (sum_of x y)
on_numbers binary.Sub x y = written (difference_of x y)
on_numbers binary.Mul x y = written (product_of x y)
on_numbers binary.Div x y = written (quotient_of x y)
on_numbers binary.Rem x y = written (remainder_of x y)
on_numbers binary.ShiftLeft x y = written (left_shift_of x y)
on_numbers binary.ShiftRight x y = written (right_shift_of x y)
on_numbers binary.Min x y = Some (num_bytes (int_min x y))
on_numbers binary.Max x y = Some (num_bytes (int_max x y))
on_numbers binary.Less x y = of_truth (int_lt x y)
on_numbers binary.LessEqual x y = of_truth (int_le x y)
on_numbers binary.Greater x y = of_truth (int_lt y x)
on_numbers binary.GreaterEqual x y = of_truth (int_le y x)
on_numbers binary.SameNumber x y = of_truth (int_eq x y)
on_numbers binary.OtherNumber x y = of_truth (not (int_eq x y))
on_numbers _ x y = None

-- what is left of signatures after a key, which serves the first where it is good for it
abbrev pub unserved : Check → (key message : Item) → List Item → List Item
unserved check key message [] = []
unserved check key message (s ∷ sigs) = if check key message s then sigs else s ∷ sigs
