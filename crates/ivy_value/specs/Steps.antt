-- What a clause does, in order, over core: it verifies values and locks values, and when all that holds. Public
-- statements name it.
use Rattle.std.specs.Prelude.{ℕ, ◌+◌, List, [], ◌∷◌, map, Option, Some}
use Rattle.ivy_check.specs.declared.parameters.Param.{Param}
use Rattle.ivy_value.specs.declared.tree.CoreClause.{CoreClause}
use Rattle.ivy_value.specs.declared.tree.CoreWorth.{CoreWorth}
use Rattle.ivy_value.specs.declared.tree.CoreWorth.TheVariants as worth
use Rattle.ivy_value.specs.declared.tree.CoreStep.{CoreStep}
use Rattle.ivy_value.specs.declared.tree.CoreStep.TheVariants as step
use Rattle.vm_num.specs.Item.{Item}
use Rattle.ivy_value.specs.Items.{Spending}
use Rattle.ivy_value.specs.Term.{Term, term_of, item_of}
use Rattle.ivy_value.specs.Holds.{IsTruth, HasOutput, amount_of}

-- what is locked: the input's value, or an amount of an asset that is required
pub data Worth : Type 0 where
  Locked : Worth
  Required : (amount asset : Term) → Worth

pub data Step : Type 0 where
  Verify : Term → Step
  Lock : Worth → (program : Term) → Step

-- those of the code's types
abbrev pub worth_of : CoreWorth → Worth
worth_of worth.Locked = Locked
worth_of (worth.Required amount asset) = Required (term_of amount) (term_of asset)

abbrev pub step_of : CoreStep → Step
step_of (step.Verify e) = Verify (term_of e)
step_of (step.Lock w program) = Lock (worth_of w) (term_of program)

-- a clause: its parameters, and what it does
pub record Clause : Type 0 where
  pub given : List Param
  pub steps : List Step

abbrev pub clause_of : CoreClause → Clause
clause_of clause = record { given = clause.given; steps = map step_of clause.steps }

-- ---- when they hold

abbrev pub asset_of : Spending → Worth → Option Item
asset_of s Locked = Some s.context.asset
asset_of s (Required amount asset) = item_of s asset

abbrev pub units_of : Spending → Worth → Option ℕ
units_of s Locked = Some s.context.amount
units_of s (Required amount asset) = amount_of (item_of s amount)

-- What is verified is defined and true. The k-th lock, from 0, speaks of the output at k after the input's place.
abbrev pub StepsHold : Spending → (k : ℕ) → List Step → Type 0
StepsHold s k [] = Unit {0}
StepsHold s k (Verify e ∷ steps) = IsTruth (item_of s e) × StepsHold s k steps
StepsHold s k (Lock w program ∷ steps) =
    HasOutput s.context (s.context.index + k) (asset_of s w) (units_of s w) (item_of s program)
    × StepsHold s (k + 1) steps
