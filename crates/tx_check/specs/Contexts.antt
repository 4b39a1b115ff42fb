-- What the program of an input is run for, and how it ends.
use Rattle.std.specs.Prelude.{◌≡◌, ◌==◌, ℕ, true, false, List, [], map, slice_get, Some, if◌then◌else◌}
use Rattle.data_model.specs.declared.input.Input.{Input}
use Rattle.data_model.specs.declared.output.Output.{Output}
use Rattle.data_model.specs.declared.tx.Tx.{Tx}
use Rattle.wire.specs.Spelling.{greatest}
use Rattle.keyed.specs.Functions.{Hash}
use Rattle.entry_ids.specs.Ids.{input_data, input_id, result_data, sig_hash as signed_hash, tx_id}
use Rattle.vm_num.specs.declared.failure.Failure.{Failure}
use Rattle.vm_run.specs.declared.context.Context.{Context}
use Rattle.vm_run.specs.declared.context.Context.TheVariants as contexts
use Rattle.vm_run.specs.declared.transaction.OutSeen.{OutSeen}
use Rattle.vm_run.specs.declared.transaction.TxContext.{TxContext}
use Rattle.vm_run.specs.declared.verdict.Verdict.{Verdict}
use Rattle.vm_run.specs.declared.verdict.Verdict.TheVariants.{Failed}
use Rattle.keyed.specs.Functions.{Check}
use Rattle.vm_run.specs.Verdict.{HasVerdict}
use Rattle.wire.specs.Tables.{Cause}
use Rattle.tx_check.specs.Parts.{amount_in, args_in, asset_in, program_in, spent_id}

-- ---- the context of an input

-- an output as a program sees it, with the hash of its data; a retirement has the empty program
unfoldable pub seen : (data_hash : List ℕ) → Output → OutSeen
seen data_hash (Output.Control control) = record {
  retired = false;
  asset = control.asset;
  amount = control.amount;
  program = control.program;
  data_hash = data_hash;
}
seen data_hash (Output.Retire retire) = record {
  retired = true;
  asset = retire.asset;
  amount = retire.amount;
  program = [];
  data_hash = data_hash;
}

-- all outputs of a transaction, in order
abbrev pub seen_outputs : Hash → Tx → List OutSeen
seen_outputs hash tx = map (λ output. seen (result_data hash output) output) tx.outputs

-- the greatest time of a block that may hold the transaction: 2^63 - 1 where it has none
abbrev pub last_time : (maxtime : ℕ) → ℕ
last_time maxtime = if maxtime == 0 then greatest else maxtime

-- what is reported of an input that stands at this place
abbrev pub context_at : Hash → Tx → (place : ℕ) → Input → TxContext
context_at hash tx place input = record {
  asset = asset_in input;
  amount = amount_in input;
  program = program_in input;
  mintime = tx.mintime;
  maxtime = last_time tx.maxtime;
  data_hash = hash tx.refdata;
  entry_data_hash = input_data hash input;
  index = place;
  entry_id = input_id hash tx input;
  output_id = spent_id hash input;
  sig_hash = signed_hash hash (input_id hash tx input) (tx_id hash tx);
  outs = seen_outputs hash tx;
}

-- the context of the input at this place
pub record IsContext (hash : Hash) (tx : Tx) (place : ℕ) (context : Context) : Type 0 where
  pub input : Input
  pub there : slice_get tx.inputs place ≡ Some input
  pub is : context ≡ contexts.Tx (context_at hash tx place input)

-- ---- its program

-- how much the arguments and the program of an input may cost
abbrev pub run_limit : ℕ
run_limit = 10000

-- the verdict on the program of an input that stands at this place, on the input's arguments
abbrev pub InputVerdict : Hash → Check → Tx → (place : ℕ) → Input → Verdict → Type 0
InputVerdict hash check tx place input verdict =
    HasVerdict
    (contexts.Tx (context_at hash tx place input))
    check
    (program_in input)
    (args_in input)
    run_limit
    verdict

-- the verdict on the program of the input at this place
pub record VerdictAt (hash : Hash) (check : Check) (tx : Tx) (place : ℕ) (verdict : Verdict) : Type 0 where
  pub input : Input
  pub there : slice_get tx.inputs place ≡ Some input
  pub is : InputVerdict hash check tx place input verdict

-- the program fails with this kind, at this place of it
abbrev pub FailsAt : Hash → Check → Tx → (place : ℕ) → Input → Failure → (at : ℕ) → Type 0
FailsAt hash check tx place input kind at = InputVerdict hash check tx place input (Failed kind at)

-- the same as a cause of a table, which reports the input's place, the kind and the place in the program
abbrev pub FailsAs : Hash → Check → Tx → (place : ℕ) → Input → Cause (ℕ × Failure × ℕ)
FailsAs hash check tx place input reported =
    FailsAt hash check tx place input reported.1 reported.2 × (reported.0 ≡ place)
