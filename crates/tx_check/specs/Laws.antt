-- What holds of the table of refusals.
use Rattle.std.specs.Prelude.{◌≡◌, ℕ, Option}
use Rattle.wire.specs.Tables.{OneAnswer}
use Rattle.data_model.specs.declared.tx.Tx.{Tx}
use Rattle.keyed.specs.Functions.{Hash, Check}
use Rattle.tx_check.specs.declared.refusal.TxRefusal.{TxRefusal}
use Rattle.tx_check.specs.View.{State}
use Rattle.tx_check.specs.Table.{tx_causes, Refusal}

-- a transaction has a refusal or none, and no two
pub record RefusalLaws (hash : Hash) (check : Check) : Type 0 where
  pub table : (state : State) (time : ℕ) (tx : Tx) → OneAnswer (tx_causes hash check state time tx)
  pub some :
      (state : State) (time : ℕ) (tx : Tx)
      → (cause : Option TxRefusal) × Refusal hash check state time tx cause
  pub one :
      (state : State) (time : ℕ) (tx : Tx) (a b : Option TxRefusal)
      → Refusal hash check state time tx a
      → Refusal hash check state time tx b
      → a ≡ b
