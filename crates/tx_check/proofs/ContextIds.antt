-- The ids and hashes of an input's context have 32 bytes, where those of the transaction and of the hash have.
use Rattle.std.proofs.Common.{ℕ, List, [], ◌∷◌, map, Result, Ok, Err, IfSome, sym, subst}
use Rattle.std.specs.Prelude.{IfOk}
use Rattle.std.specs.List.{AllByRecursion}
use Rattle.data_model.specs.declared.input.Input.{Input}
use Rattle.data_model.specs.declared.output.Output.{Output}
use Rattle.data_model.specs.declared.tx.Tx.{Tx}
use Rattle.data_model.specs.Members.{input_within}
use Rattle.data_model.specs.Transaction.{IsInput, IsOutput, IsTx}
use Rattle.keyed.specs.Functions.{Hash}
use Rattle.entry_ids.specs.Ids.{input_data, input_id, output_id, result_data, sig_hash}
use Rattle.vm_run.specs.declared.context.Context.{Context}
use Rattle.vm_run.specs.Ids.{IsId, OutHasIds, HasIds}
use Rattle.tx_check.specs.Parts.{asset_in, spent_id}
use Rattle.tx_check.specs.Contexts.{IsContext, seen}

module _ (hash : Hash) (long : (bytes : List ℕ) → IsId (hash bytes)) where
  asset : (input : Input) → IsInput input → IsId (asset_in input)
  asset (Input.Issue issue) h = h.asset
  asset (Input.Spend spend) h = h.from.asset

  data_hash : (input : Input) → IsId (input_data hash input)
  unfolding input_data
  data_hash (Input.Issue issue) = long _
  data_hash (Input.Spend spend) = long _

  entry_id : (tx : Tx) (input : Input) → IsId (input_id hash tx input)
  unfolding input_id
  entry_id tx (Input.Issue issue) = long _
  entry_id tx (Input.Spend spend) = long _

  spent : (input : Input) → IfSome (spent_id hash input) IsId
  unfolding output_id
  spent (Input.Issue issue) = tt
  spent (Input.Spend spend) = long _

  signed : (entry tx : List ℕ) → IsId (sig_hash hash entry tx)
  unfolding sig_hash
  signed entry tx = long _

  out : (output : Output) → IsOutput output → OutHasIds (seen (result_data hash output) output)
  unfolding seen result_data
  out (Output.Control control) h = record { asset = h.asset; data_hash = long _ }
  out (Output.Retire retire) h = record { asset = h.asset; data_hash = long _ }

  outs : (outputs : List Output) → AllByRecursion IsOutput outputs
      → AllByRecursion OutHasIds (map (λ output. seen (result_data hash output) output) outputs)
  outs [] each = tt
  outs (output ∷ outputs) each = (out output each.0, outs outputs each.1)

  pub has_ids : (tx : Tx) (k : ℕ) (context : Context) → IsTx tx → IsContext hash tx k context → HasIds context
  has_ids tx k context h is =
      subst HasIds (sym is.is)
      (record {
        asset = asset is.input (input_within tx k is.input h is.there);
        data_hash = long _;
        entry_data_hash = data_hash is.input;
        entry_id = entry_id tx is.input;
        output_id = spent is.input;
        sig_hash = signed _ _;
        outs = outs tx.outputs h.outputs.each;
      })

  pub all_have_ids : {E : Type 0} (tx : Tx) (k : ℕ) (context : Result Context E) → IsTx tx
      → IfOk context (IsContext hash tx k) → IfOk context HasIds
  all_have_ids tx k (Ok context) h is = has_ids tx k context h is
  all_have_ids tx k (Err fault) h is = tt
