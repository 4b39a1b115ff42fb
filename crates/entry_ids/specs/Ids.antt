-- The ids of what a transaction has, for any hash: the body of each type of entry, its fields one after the other. The
-- hash of data stands for the data.
use Rattle.std.specs.Prelude.{◌≡◌, ℕ, List, [], ◌∷◌, ◌++◌, length, map, codes}
use Rattle.std.specs.List.{concat, flat_map, enumerate_from}
use Rattle.wire.specs.Spelling.{varint, varstring}
use Rattle.data_model.specs.declared.input.Issue.{Issue}
use Rattle.data_model.specs.declared.input.Spend.{Spend}
use Rattle.data_model.specs.declared.input.Input.{Input}
use Rattle.data_model.specs.declared.output_body.OutputBody.{OutputBody}
use Rattle.data_model.specs.declared.output.Control.{Control}
use Rattle.data_model.specs.declared.output.Retire.{Retire}
use Rattle.data_model.specs.declared.output.Output.{Output}
use Rattle.data_model.specs.declared.tx.Tx.{Tx}
use Rattle.data_model.specs.Transaction.{body_spelling}
use Rattle.entry_ids.specs.declared.input.Named.{Named}
use Rattle.entry_ids.specs.declared.input.Named.TheVariants as named_as
use Rattle.entry_ids.specs.declared.tx.TxIds.{TxIds}
use Rattle.entry_ids.specs.Entry.{entry}
use Rattle.keyed.specs.Functions.{Hash}

-- the id of an asset: the initial block's id, its program and its definition
unfoldable pub asset_id : Hash → (initial program definition : List ℕ) → List ℕ
asset_id hash initial program definition =
    hash (codes "asset1:" ++ initial ++ varstring program ++ varstring definition)

-- what a signature of an input signs: the ids of its entry and of the transaction
unfoldable pub sig_hash : Hash → (entry tx : List ℕ) → List ℕ
sig_hash hash entry tx = hash (entry ++ tx)

-- ---- inputs

-- nonce, asset, mintime, maxtime
abbrev pub nonce_body : Issue → (mintime maxtime : ℕ) → List ℕ
nonce_body issue mintime maxtime = varstring issue.nonce ++ issue.asset ++ varint mintime ++ varint maxtime

unfoldable pub nonce_id : Hash → Issue → (mintime maxtime : ℕ) → List ℕ
nonce_id hash issue mintime maxtime = entry hash (codes "nonce") (nonce_body issue mintime maxtime)

-- the id of a nonce, empty where the nonce is
abbrev pub id_of_nonce : (nonce id : List ℕ) → List ℕ
id_of_nonce [] id = []
id_of_nonce (b ∷ nonce) id = id

-- nonce id, asset, amount, data hash
abbrev pub issue_body : Hash → Tx → Issue → List ℕ
issue_body hash tx issue =
    varstring (id_of_nonce issue.nonce (nonce_id hash issue tx.mintime tx.maxtime)) ++ issue.asset
    ++ varint issue.amount
    ++ hash issue.refdata

-- source, position, asset, amount, program, data hash
unfoldable pub output_id : Hash → OutputBody → List ℕ
output_id hash body = entry hash (codes "output1") (body_spelling body)

-- the spent output's id, data hash
abbrev pub spend_body : Hash → Spend → List ℕ
spend_body hash spend = output_id hash spend.from ++ hash spend.refdata

unfoldable pub input_id : Hash → Tx → Input → List ℕ
input_id hash tx (Input.Issue issue) = entry hash (codes "issuance1") (issue_body hash tx issue)
input_id hash tx (Input.Spend spend) = entry hash (codes "spend1") (spend_body hash spend)

-- the ids of the inputs' entries, in order
abbrev pub input_ids : Hash → Tx → List (List ℕ)
input_ids hash tx = map (input_id hash tx) tx.inputs

-- the nonce that an issuance uses, by its id; nothing where it is empty
abbrev pub nonce_named : (nonce id : List ℕ) → Named
nonce_named [] id = named_as.Nothing
nonce_named (b ∷ nonce) id = named_as.Nonce id

-- what an input names: the nonce that it uses, or the output that it spends
unfoldable pub names : Hash → Tx → Input → Named
names hash tx (Input.Issue issue) = nonce_named issue.nonce (nonce_id hash issue tx.mintime tx.maxtime)
names hash tx (Input.Spend spend) = named_as.Output (output_id hash spend.from)

-- the hash of an input's data
unfoldable pub input_data : Hash → Input → List ℕ
input_data hash (Input.Issue issue) = hash issue.refdata
input_data hash (Input.Spend spend) = hash spend.refdata

-- ---- the mux

-- asset, amount
abbrev pub value_of : Input → List ℕ
value_of (Input.Issue issue) = issue.asset ++ varint issue.amount
value_of (Input.Spend spend) = spend.from.asset ++ varint spend.from.amount

-- how many inputs there are, and for each the id of its entry, its asset and its amount
abbrev pub mux_body : Hash → Tx → List ℕ
mux_body hash tx =
    varint (length tx.inputs) ++ flat_map (λ input. input_id hash tx input ++ value_of input) tx.inputs

unfoldable pub mux_id : Hash → Tx → List ℕ
mux_id hash tx = entry hash (codes "mux1") (mux_body hash tx)

-- ---- outputs

-- the body of an output under a program, which came from this mux and stands at this place among the outputs
abbrev pub control_body : Hash → (mux : List ℕ) → (position : ℕ) → Control → OutputBody
control_body hash mux position control = record {
  source = mux;
  position = position;
  asset = control.asset;
  amount = control.amount;
  program = control.program;
  data_hash = hash control.refdata;
}

-- mux, position, asset, amount, data hash
abbrev pub retire_body : Hash → (mux : List ℕ) → (position : ℕ) → Retire → List ℕ
retire_body hash mux position retire =
    mux ++ varint position ++ retire.asset ++ varint retire.amount ++ hash retire.refdata

unfoldable pub result_id : Hash → (mux : List ℕ) → (position : ℕ) → Output → List ℕ
result_id hash mux position (Output.Control control) = output_id hash (control_body hash mux position control)
result_id hash mux position (Output.Retire retire) =
    entry hash (codes "retirement1") (retire_body hash mux position retire)

-- the ids of outputs and retirements which came from this mux, in order; positions count from 0
abbrev pub results_of : Hash → (mux : List ℕ) → List Output → List (List ℕ)
results_of hash mux outputs = map (λ x. result_id hash mux x.0 x.1) (enumerate_from 0 outputs)

abbrev pub result_ids : Hash → Tx → List (List ℕ)
result_ids hash tx = results_of hash (mux_id hash tx) tx.outputs

-- the hash of the data of an output or a retirement
unfoldable pub result_data : Hash → Output → List ℕ
result_data hash (Output.Control control) = hash control.refdata
result_data hash (Output.Retire retire) = hash retire.refdata

-- ---- transactions

-- version, how many outputs there are, their ids, data hash, mintime, maxtime
abbrev pub tx_body : Hash → Tx → List ℕ
tx_body hash tx =
    varint tx.version ++ varint (length tx.outputs) ++ concat (result_ids hash tx) ++ hash tx.refdata
    ++ varint tx.mintime
    ++ varint tx.maxtime

unfoldable pub tx_id : Hash → Tx → List ℕ
tx_id hash tx = entry hash (codes "txheader") (tx_body hash tx)

-- ---- all of them

-- All ids of a transaction's entries and all hashes of its data; of the inputs in order, and of the outputs and
-- retirements in order.
pub record AreIds (hash : Hash) (tx : Tx) (ids : TxIds) : Type 0 where
  pub id : ids.tx ≡ tx_id hash tx
  pub mux : ids.mux ≡ mux_id hash tx
  pub data_hash : ids.data_hash ≡ hash tx.refdata
  pub inputs : ids.inputs ≡ input_ids hash tx
  pub named : ids.named ≡ map (names hash tx) tx.inputs
  pub input_data : ids.input_data ≡ map (input_data hash) tx.inputs
  pub results : ids.results ≡ result_ids hash tx
  pub result_data : ids.result_data ≡ map (result_data hash) tx.outputs
