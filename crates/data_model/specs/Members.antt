-- One of a transaction's inputs or outputs is within the limits. Laws with their proofs.
use Rattle.std.specs.Prelude.{◌≡◌, ℕ, Some, slice_get}
use Rattle.wire.specs.Lists.{each_at}
use Rattle.data_model.specs.declared.input.Input.{Input}
use Rattle.data_model.specs.declared.output.Output.{Output}
use Rattle.data_model.specs.declared.tx.Tx.{Tx}
use Rattle.data_model.specs.Transaction.{IsInput, IsOutput, IsTx}

pub input_within : (tx : Tx) (k : ℕ) (input : Input) → IsTx tx → slice_get tx.inputs k ≡ Some input → IsInput input
input_within tx k input h e = each_at IsInput tx.inputs k input h.inputs.each e

pub output_within : (tx : Tx) (k : ℕ) (output : Output) → IsTx tx → slice_get tx.outputs k ≡ Some output
    → IsOutput output
output_within tx k output h e = each_at IsOutput tx.outputs k output h.outputs.each e
