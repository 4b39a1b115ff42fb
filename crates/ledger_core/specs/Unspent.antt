-- The outputs that transactions make and leave unspent, and the nonces that they use, for any hash.
use Rattle.std.specs.Prelude.{ℕ, not, List, [], ◌∷◌, ◌++◌, Option, Some, None, nat_le}
use Rattle.std.specs.List.{flat_map, filter, enumerate_from}
use Rattle.wire.specs.Strings.{is_among}
use Rattle.data_model.specs.declared.output.Output.{Output}
use Rattle.data_model.specs.declared.output_body.OutputBody.{OutputBody}
use Rattle.data_model.specs.declared.tx.Tx.{Tx}
use Rattle.entry_ids.specs.declared.input.Named.{Named}
use Rattle.keyed.specs.Functions.{Hash}
use Rattle.entry_ids.specs.Ids.{mux_id, output_id, result_data}
use Rattle.tx_check.specs.Table.{named_by}
use Rattle.tx_check.specs.View.{Unspent}
use Rattle.ledger_core.specs.declared.unfinished.LiveNonce.{LiveNonce}

-- ---- outputs

-- the body of an output under a program, which came from this mux and stands at this place; a retirement has none
abbrev pub made_body : (mux : List ℕ) → (place : ℕ) → (data_hash : List ℕ) → Output → Option OutputBody
made_body mux place data_hash (Output.Control control) =
    Some (record {
      source = mux;
      position = place;
      asset = control.asset;
      amount = control.amount;
      program = control.program;
      data_hash = data_hash;
    })
made_body mux place data_hash (Output.Retire retire) = None

-- the output with such a body, by its id
abbrev pub made_of : Hash → Option OutputBody → List Unspent
made_of hash None = []
made_of hash (Some body) = record { id = output_id hash body; body = body } ∷ []

-- the output under a program that stands at a place, with its id and its body; a retirement makes none
abbrev pub made_at : Hash → (mux : List ℕ) → (place : ℕ) → Output → List Unspent
made_at hash mux place output = made_of hash (made_body mux place (result_data hash output) output)

-- the outputs under a program that a transaction makes, in order
abbrev pub made_by : Hash → Tx → List Unspent
made_by hash tx = flat_map (λ x. made_at hash (mux_id hash tx) x.0 x.1) (enumerate_from 0 tx.outputs)

-- the outputs under a program that transactions make, in order
abbrev pub made : Hash → List Tx → List Unspent
made hash txs = flat_map (made_by hash) txs

-- the id of an output that is named, if one is
abbrev pub output_named : Named → List (List ℕ)
output_named Named.Nothing = []
output_named (Named.Nonce id) = []
output_named (Named.Output id) = id ∷ []

-- the ids of the outputs that a transaction spends, in order
abbrev pub spent_by : Hash → Tx → List (List ℕ)
spent_by hash tx = flat_map output_named (named_by hash tx)

-- those of these outputs whose id is none of these
abbrev pub left_of : (spent : List (List ℕ)) → List Unspent → List Unspent
left_of spent outputs = filter (λ output. not (is_among spent output.id)) outputs

-- Of transactions in order, the outputs that are unspent after them, in the order in which they are made: those of each
-- transaction of which no spend in a later one names the id.
abbrev pub unspent_after : Hash → List Tx → List Unspent
unspent_after hash [] = []
unspent_after hash (tx ∷ later) =
    left_of (flat_map (spent_by hash) later) (made_by hash tx) ++ unspent_after hash later

-- ---- nonces

-- the nonce that is named, if one is, with the last time of a block that may hold it
abbrev pub nonce_named : (maxtime : ℕ) → Named → List LiveNonce
nonce_named maxtime Named.Nothing = []
nonce_named maxtime (Named.Nonce id) = record { id = id; maxtime = maxtime } ∷ []
nonce_named maxtime (Named.Output id) = []

-- the nonces that a transaction uses, in order; an empty one is none
abbrev pub used_by : Hash → Tx → List LiveNonce
used_by hash tx = flat_map (nonce_named tx.maxtime) (named_by hash tx)

-- the nonces that transactions use
abbrev pub used : Hash → List Tx → List LiveNonce
used hash txs = flat_map (used_by hash) txs

-- those whose maxtime is not below this time
abbrev pub live_at : (time : ℕ) → List LiveNonce → List LiveNonce
live_at time nonces = filter (λ nonce. nat_le time nonce.maxtime) nonces
