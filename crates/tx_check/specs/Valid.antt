-- What a transaction has that no cause of the table refuses, a fact by a name.
use Rattle.std.specs.Prelude.{◌≡◌, ◌≢◌, ◌<◌, ◌≤◌, ◌^◌, ℕ, List, [], take, slice_get, Contains, Some}
use Rattle.data_model.specs.declared.input.Issue.{Issue}
use Rattle.data_model.specs.declared.input.Spend.{Spend}
use Rattle.data_model.specs.declared.input.Input.{Input}
use Rattle.data_model.specs.declared.output.Output.{Output}
use Rattle.data_model.specs.declared.output.Control.{Control}
use Rattle.data_model.specs.declared.tx.Tx.{Tx}
use Rattle.entry_ids.specs.declared.input.Named.{Named}
use Rattle.keyed.specs.Functions.{Hash}
use Rattle.entry_ids.specs.Ids.{asset_id, output_id, mux_id, result_id, result_ids}
use Rattle.vm_run.specs.declared.verdict.Verdict.TheVariants.{Succeeded}
use Rattle.keyed.specs.Functions.{Check}
use Rattle.tx_check.specs.Contexts.{InputVerdict}
use Rattle.tx_check.specs.View.{State, HasId, Holds, IsLive}
use Rattle.tx_check.specs.Table.{TellsApart, named_by, sum_in, sum_out}

-- no two places of a list have the same name of this kind
abbrev pub NoneTwice : (List ℕ → Named) → List Named → Type 0
NoneTwice kind named =
    (j k : ℕ) (id : List ℕ)
    → slice_get named j ≡ Some (kind id)
    → slice_get named k ≡ Some (kind id)
    → j ≡ k

-- an id is neither that of an unspent output nor that of one of the first so many
pub record IsNew (state : State) (results : List (List ℕ)) (k : ℕ) (id : List ℕ) : Type 0 where
  pub not_unspent : HasId state id → ⊥
  pub not_earlier : Contains (take k results) id → ⊥

-- the units of an asset come in and go out alike, and are fewer than 2^63
pub record IsBalanced (tx : Tx) (asset : List ℕ) : Type 0 where
  pub same : sum_in asset tx.inputs ≡ sum_out asset tx.outputs
  pub small : sum_in asset tx.inputs < 2 ^ 63

pub record Valid (hash : Hash) (check : Check) (state : State) (time : ℕ) (tx : Tx) : Type 0 where
  pub version : tx.version ≡ 1
  pub some_time : tx.maxtime ≢ 0 → tx.mintime ≤ tx.maxtime
  pub not_early : tx.mintime ≤ time
  pub not_late : tx.maxtime ≢ 0 → time ≤ tx.maxtime
  -- a nonce has an end
  pub nonces_end :
      (k : ℕ) (issue : Issue)
      → slice_get tx.inputs k ≡ Some (Input.Issue issue)
      → issue.nonce ≢ []
      → tx.maxtime ≢ 0
  -- there is a spend, or an issuance with a nonce
  pub told_apart : (k : ℕ) × (input : Input) × (slice_get tx.inputs k ≡ Some input) × TellsApart input
  -- no output is spent twice, and no nonce is used twice
  pub spent_once : NoneTwice (λ id. Named.Output id) (named_by hash tx)
  pub used_once : NoneTwice (λ id. Named.Nonce id) (named_by hash tx)
  -- the asset of an issuance is the id of its program and its definition
  pub own_assets :
      (k : ℕ) (issue : Issue)
      → slice_get tx.inputs k ≡ Some (Input.Issue issue)
      → issue.asset ≡ asset_id hash state.initial issue.program issue.definition
  pub balanced : (asset : List ℕ) → IsBalanced tx asset
  -- what is spent is unspent, with its id and this body
  pub unspent :
      (k : ℕ) (spend : Spend)
      → slice_get tx.inputs k ≡ Some (Input.Spend spend)
      → Holds state (output_id hash spend.from) spend.from
  pub none_live :
      (k : ℕ) (id : List ℕ) → slice_get (named_by hash tx) k ≡ Some (Named.Nonce id) → IsLive state id → ⊥
  -- the ids of the outputs under programs are new
  pub new_ids :
      (k : ℕ) (control : Control)
      → slice_get tx.outputs k ≡ Some (Output.Control control)
      → IsNew state (result_ids hash tx) k (result_id hash (mux_id hash tx) k (Output.Control control))
  -- the program of each input succeeds on its arguments, in its context
  pub succeeds :
      (k : ℕ) (input : Input)
      → slice_get tx.inputs k ≡ Some input
      → (left : ℕ) × InputVerdict hash check tx k input (Succeeded left)
