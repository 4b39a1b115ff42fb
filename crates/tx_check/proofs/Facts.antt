-- A transaction that has what a valid one has is not refused.
use Rattle.std.proofs.Common.{◌≡◌, ℕ, ◌<◌, ◌≤◌, ◌^◌, List, take, Some, inl, inr, arith}
use Rattle.std.specs.Prelude.{slice_get, Contains}
use Rattle.wire.specs.Tables.{HoldsNot, Cause}
use Rattle.data_model.specs.declared.input.Input.{Input}
use Rattle.data_model.specs.declared.output.Output.{Output}
use Rattle.data_model.specs.declared.tx.Tx.{Tx}
use Rattle.entry_ids.specs.declared.input.Named.{Named}
use Rattle.keyed.specs.Functions.{Hash}
use Rattle.entry_ids.specs.Ids.{mux_id, result_id, result_ids}
use Rattle.keyed.specs.Functions.{Check}
use Rattle.tx_check.specs.FirstPlace.{AtFirst}
use Rattle.tx_check.specs.View.{State}
use Rattle.tx_check.specs.Table.{UsesNonce, IsSpend, IsNonce, IssuesAnother, AreUnbalanced, SpendsNone, UsesLive, IsControl, IsTaken, HasFailing, named_by, sum_in, sum_out, TxValid}
use Rattle.tx_check.specs.Valid.{Valid, NoneTwice, IsNew}
use Rattle.tx_check.proofs.Everywhere.{place_of, get_in_take}
use Rattle.wire.specs.Tables.{◌&◌}
use Rattle.tx_check.proofs.Table.{SomeVerdict, not_there}
use Rattle.tx_check.proofs.Verdicts.{OneVerdict}

-- a cause that holds at no place
nowhere_of : {R X : Type 0} (cause : ℕ → X → Cause R) (xs : List X) → ((k : ℕ) (x : X) → slice_get xs k ≡ Some x → HoldsNot (cause k x)) → HoldsNot (AtFirst cause xs)
nowhere_of cause xs none reported f = none f.place f.item f.there reported f.reports

-- a name of this kind that stands once has none before it
once_only : (kind : List ℕ → Named) (named : List Named) → NoneTwice kind named → (k : ℕ) (id : List ℕ) → slice_get named k ≡ Some (kind id) → Contains (take k named) (kind id) → ⊥
once_only kind named once k id e h =
    let at = place_of (take k named) (kind id) h in
    let there = get_in_take k named at.0 (kind id) at.1 in
    let same : at.0 ≡ k = once at.0 k id there.1 e in
    let less : at.0 < k = there.0 in
    absurd (omega arith)

not_unbalanced : (into out : ℕ) → into ≡ out → into < 2 ^ 63 → AreUnbalanced into out → ⊥
not_unbalanced into out same small (inl n) = n same
not_unbalanced into out same small (inr (inl le)) = absurd (omega arith)
not_unbalanced into out same small (inr (inr le)) = absurd (omega arith)

module _ (some : SomeVerdict) (one : OneVerdict) (hash : Hash) (check : Check) (state : State) (time : ℕ) (tx : Tx) (v : Valid hash check state time tx) where
  y5 : (k : ℕ) (input : Input) → slice_get tx.inputs k ≡ Some input → UsesNonce input × (tx.maxtime ≡ 0) → ⊥
  y5 k (Input.Issue issue) e h = v.nonces_end k issue e h.0 h.1
  y5 k (Input.Spend spend) e h = h.0

  y7 : (k : ℕ) (name : Named) → slice_get (named_by hash tx) k ≡ Some name → IsSpend name × Contains (take k (named_by hash tx)) name → ⊥
  y7 k Named.Nothing e h = h.0
  y7 k (Named.Nonce id) e h = h.0
  y7 k (Named.Output id) e h = once_only (λ i. Named.Output i) (named_by hash tx) v.spent_once k id e h.1

  y8 : (k : ℕ) (name : Named) → slice_get (named_by hash tx) k ≡ Some name → IsNonce name × Contains (take k (named_by hash tx)) name → ⊥
  y8 k Named.Nothing e h = h.0
  y8 k (Named.Nonce id) e h = once_only (λ i. Named.Nonce i) (named_by hash tx) v.used_once k id e h.1
  y8 k (Named.Output id) e h = h.0

  y9 : (k : ℕ) (input : Input) → slice_get tx.inputs k ≡ Some input → IssuesAnother hash state.initial input → ⊥
  y9 k (Input.Issue issue) e h = h (v.own_assets k issue e)
  y9 k (Input.Spend spend) e h = h

  y10 : (asset : List ℕ) → AreUnbalanced (sum_in asset tx.inputs) (sum_out asset tx.outputs) → ⊥
  y10 asset = not_unbalanced (sum_in asset tx.inputs) (sum_out asset tx.outputs) (v.balanced asset).same (v.balanced asset).small

  y11 : (k : ℕ) (input : Input) → slice_get tx.inputs k ≡ Some input → SpendsNone hash state input → ⊥
  y11 k (Input.Issue issue) e h = h
  y11 k (Input.Spend spend) e h = h (v.unspent k spend e)

  y12 : (k : ℕ) (name : Named) → slice_get (named_by hash tx) k ≡ Some name → UsesLive state name → ⊥
  y12 k Named.Nothing e h = h
  y12 k (Named.Nonce id) e h = v.none_live k id e h
  y12 k (Named.Output id) e h = h

  not_taken : (k : ℕ) (id : List ℕ) → IsNew state (result_ids hash tx) k id → IsTaken state (result_ids hash tx) k id → ⊥
  not_taken k id new (inl h) = new.not_unspent h
  not_taken k id new (inr h) = new.not_earlier h

  y13 : (k : ℕ) (output : Output) → slice_get tx.outputs k ≡ Some output → IsControl output × IsTaken state (result_ids hash tx) k (result_id hash (mux_id hash tx) k output) → ⊥
  y13 k (Output.Control control) e h = not_taken k _ (v.new_ids k control e) h.1
  y13 k (Output.Retire retire) e h = h.0

  y14 : HoldsNot (HasFailing hash check tx)
  y14 = nowhere_of _ tx.inputs (λ k input e. (let s = v.succeeds k input e in not_there some one hash check tx k input s.0 s.1))

  pub not_refused : TxValid hash check state time tx
  not_refused = record {
    first =
        (λ reported h. h.0 v.version)
        & (λ reported h. (let le : tx.mintime ≤ tx.maxtime = v.some_time h.0.0 in let less : tx.maxtime < tx.mintime = h.0.1 in absurd (omega arith)))
        & (λ reported h. (let le : tx.mintime ≤ time = v.not_early in let less : time < tx.mintime = h.0 in absurd (omega arith)))
        & (λ reported h. (let le : time ≤ tx.maxtime = v.not_late h.0.0 in let less : tx.maxtime < time = h.0.1 in absurd (omega arith)))
        & nowhere_of _ tx.inputs (λ k input e reported h. y5 k input e h.0)
        & (λ reported h. h.0 v.told_apart.0 v.told_apart.1 v.told_apart.2 v.told_apart.3)
        & nowhere_of _ (named_by hash tx) (λ k name e reported h. y7 k name e h.0)
        & nowhere_of _ (named_by hash tx) (λ k name e reported h. y8 k name e h.0)
        & nowhere_of _ tx.inputs (λ k input e reported h. y9 k input e h.0)
        & nowhere_of _ _ (λ k asset e reported h. y10 asset h.0)
        & nowhere_of _ tx.inputs (λ k input e reported h. y11 k input e h.0)
        & nowhere_of _ (named_by hash tx) (λ k name e reported h. y12 k name e h.0)
        & nowhere_of _ tx.outputs (λ k output e reported h. y13 k output e h.0)
        & y14
        & tt;
  }
