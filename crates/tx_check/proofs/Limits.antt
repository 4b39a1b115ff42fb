-- What holds of one of a transaction's inputs or outputs, and of the context of an input.
use Rattle.std.proofs.Common.{◌≡◌, ℕ, ◌-◌, ◌<◌, ◌^◌, Bool, true, false, length, Some, Result, Ok, Err, sym, subst, arith}
use Rattle.std.specs.Prelude.{◌==◌, slice_get, IfOk, if◌then◌else◌}
use Rattle.std.proofs.lemmas.Option.{slice_get_within}
use Rattle.data_model.specs.declared.input.Input.{Input}
use Rattle.data_model.specs.declared.tx.Tx.{Tx}
use Rattle.data_model.specs.Members.{input_within}
use Rattle.data_model.specs.Transaction.{IsInput, IsTx}
use Rattle.keyed.specs.Functions.{Hash}
use Rattle.vm_run.specs.declared.context.Context.{Context}
use Rattle.vm_run.specs.Row.{NumbersFit}
use Rattle.tx_check.specs.Parts.{amount_in}
use Rattle.tx_check.specs.Contexts.{IsContext, last_time}

-- an amount is below 2^63
pub amount_fits : (input : Input) → IsInput input → amount_in input < 2 ^ 63
amount_fits (Input.Issue issue) h = h.amount.small
amount_fits (Input.Spend spend) h = h.from.amount.small

-- so is the place of an input
pub place_fits : (tx : Tx) (k : ℕ) (input : Input) → IsTx tx → slice_get tx.inputs k ≡ Some input → k < 2 ^ 63
place_fits tx k input h e =
    let within : k < length tx.inputs = slice_get_within tx.inputs k input e in
    omega (arith, h.inputs.count)

-- and the greatest time of a block
either_fits : (b : Bool) (maxtime : ℕ) → maxtime < 2 ^ 63 → (if b then 2 ^ 63 - 1 else maxtime) < 2 ^ 63
either_fits true maxtime h = omega arith
either_fits false maxtime h = h

pub last_time_fits : (maxtime : ℕ) → maxtime < 2 ^ 63 → last_time maxtime < 2 ^ 63
last_time_fits maxtime h = either_fits (maxtime == 0) maxtime h

pub numbers_fit : (hash : Hash) (tx : Tx) (k : ℕ) (context : Context) → IsTx tx → IsContext hash tx k context → NumbersFit context
numbers_fit hash tx k context h is =
    subst NumbersFit (sym is.is)
    (record {
      amount = amount_fits is.input (input_within tx k is.input h is.there);
      mintime = h.mintime;
      maxtime = last_time_fits tx.maxtime h.maxtime;
      index = place_fits tx k is.input h is.there;
    })

pub all_numbers_fit : {E : Type 0} (hash : Hash) (tx : Tx) (k : ℕ) (context : Result Context E) → IsTx tx → IfOk context (IsContext hash tx k) → IfOk context NumbersFit
all_numbers_fit hash tx k (Ok context) h is = numbers_fit hash tx k context h is
all_numbers_fit hash tx k (Err fault) h is = tt
