-- What a transaction has that no cause of the table refuses.
use Rattle.std.proofs.Common.{◌≡◌, ◌≢◌, ℕ, suc, ◌+◌, ◌<◌, ◌≤◌, ◌^◌, Bool, true, false, List, [], ◌∷◌, map, take, Some, None, refl, sym, ◌∙◌, ap, inl, inr, arith}
use Rattle.std.specs.Prelude.{slice_get, Contains, bytes_eq, if◌then◌else◌}
use Rattle.std.specs.List.{sum_by}
use Rattle.std.proofs.lemmas.Bool.{cases_lt}
use Rattle.std.proofs.lemmas.List.Sums.{sum_by-cons}
use Rattle.std.proofs.lemmas.List.Elements.{Contains-append_left, Contains-append_right}
use Rattle.wire.specs.Tables.{HoldsNot, First, Reports}
use Rattle.data_model.specs.declared.input.Issue.{Issue}
use Rattle.data_model.specs.declared.input.Spend.{Spend}
use Rattle.data_model.specs.declared.input.Input.{Input}
use Rattle.data_model.specs.declared.output.Control.{Control}
use Rattle.data_model.specs.declared.output.Output.{Output}
use Rattle.data_model.specs.declared.tx.Tx.{Tx}
use Rattle.entry_ids.specs.declared.input.Named.{Named}
use Rattle.keyed.specs.Functions.{Hash}
use Rattle.entry_ids.specs.Ids.{asset_id, output_id, mux_id, result_id, result_ids}
use Rattle.keyed.specs.Functions.{Check}
use Rattle.tx_check.specs.declared.refusal.TxRefusal.{TxRefusal}
use Rattle.tx_check.specs.declared.refusal.TxRefusal.TheVariants.{X5, X6, X7, X8, X9, X11, X12}
use Rattle.tx_check.specs.Parts.{asset_in, amount_in}
use Rattle.tx_check.specs.View.{State, Holds, IsLive}
use Rattle.tx_check.specs.Table.{UsesNonce, TellsApart, IsSpend, IsNonce, IssuesAnother, AreUnbalanced, IsUnbalanced, SpendsNone, UsesLive, IsTaken, TakesId, FailsThere, HasUnbalanced, named_by, assets, asset_out, amount_out, units, sum_in, sum_out, tx_causes, TxValid}
use Rattle.tx_check.specs.Valid.{Valid, NoneTwice, IsBalanced}
use Rattle.tx_check.proofs.Decisions.{unspent_decided}
use Rattle.wire.specs.Decisions.{bytes_decided, nat_decided, contains_decided, stable, same_bytes}
use Rattle.tx_check.specs.FirstPlaces.{everywhere}
use Rattle.tx_check.proofs.Everywhere.{contains_at, place_of, take_has}
use Rattle.tx_check.proofs.Table.{SomeVerdict, some_apart, succeeds_there}
use Rattle.tx_check.proofs.Verdicts.{OneVerdict}

-- ---- names that stand twice

module _ (kind : List ℕ → Named) (P : Named → Type 0) (is : (id : List ℕ) → P (kind id)) (named : List Named)
    (once : (k : ℕ) (name : Named) → slice_get named k ≡ Some name → P name × Contains (take k named) name → ⊥) where
  not_before : (j k : ℕ) (id : List ℕ) → slice_get named j ≡ Some (kind id) → slice_get named k ≡ Some (kind id) → j < k → ⊥
  not_before j k id p q less = once k (kind id) q (is id, contains_at (take k named) j (kind id) (take_has k named j (kind id) less p))

  none_twice : NoneTwice kind named
  none_twice j k id p q = elim (cases_lt j k) [
    | inl less ↦ absurd (not_before j k id p q less)
    | inr le ↦ (elim (cases_lt k j) [
      | inl less ↦ absurd (not_before k j id q p less)
      | inr ge ↦ omega arith
    ])
  ]

-- ---- assets that do not appear

-- units of another asset do not count
by_test : (held asset : List ℕ) (amount : ℕ) (t : Bool) → bytes_eq held asset ≡ t → (held ≡ asset → ⊥) → units asset held amount ≡ 0
by_test held asset amount true e other = absurd (other (same_bytes held asset true (sym e) refl))
by_test held asset amount false e other = ap (λ (b : Bool). if b then amount else 0) e

not_counted : (held asset : List ℕ) (amount : ℕ) → (held ≡ asset → ⊥) → units asset held amount ≡ 0
not_counted held asset amount other = by_test held asset amount (bytes_eq held asset) refl other

none_counts : {X : Type 0} (asset_of : X → List ℕ) (amount_of : X → ℕ) (asset : List ℕ) (xs : List X) → (Contains (map asset_of xs) asset → ⊥) → sum_by (λ x. units asset (asset_of x) (amount_of x)) xs ≡ 0
none_counts asset_of amount_of asset [] none = refl
none_counts {X} asset_of amount_of asset (x ∷ xs) none =
    let f = λ (y : X). units asset (asset_of y) (amount_of y) in
    let others : sum_by f xs ≡ 0 = none_counts asset_of amount_of asset xs (λ h. none (suc h.0, omega (arith, h.1), h.2)) in
    let first : f x ≡ 0 = not_counted (asset_of x) asset (amount_of x) (λ e. none (0, omega arith, e)) in
    sum_by-cons f x xs ∙ (λ i. first i + others i)

absent_in : (asset : List ℕ) (inputs : List Input) → (Contains (map asset_in inputs) asset → ⊥) → sum_in asset inputs ≡ 0
unfolding sum_in
absent_in asset inputs none = none_counts asset_in amount_in asset inputs none

absent_out : (asset : List ℕ) (outputs : List Output) → (Contains (map asset_out outputs) asset → ⊥) → sum_out asset outputs ≡ 0
unfolding sum_out
absent_out asset outputs none = none_counts asset_out amount_out asset outputs none

-- ---- sums that are balanced

alike : (into out : ℕ) → (AreUnbalanced into out → ⊥) → into ≡ out
alike into out none = stable (nat_decided into out) (λ n. none (inl n))

few : (into out : ℕ) → (AreUnbalanced into out → ⊥) → into < 2 ^ 63
few into out none = elim (cases_lt into (2 ^ 63)) [
  | inl less ↦ less
  | inr le ↦ absurd (none (inr (inl le)))
]

module _ (tx : Tx) (none : HoldsNot (HasUnbalanced tx)) (asset : List ℕ) where
  appears : Contains (assets tx) asset → IsBalanced tx asset
  appears h =
      let at = place_of (assets tx) asset h in
      let not = everywhere (λ k a. IsUnbalanced tx a) (assets tx) none at.0 asset at.1 in
      record {
        same = alike _ _ (λ u. not _ (u, refl));
        small = few _ (sum_out asset tx.outputs) (λ u. not _ (u, refl));
      }

  appears_not : (Contains (assets tx) asset → ⊥) → IsBalanced tx asset
  appears_not absent =
      let in_none : sum_in asset tx.inputs ≡ 0 =
      absent_in asset tx.inputs (λ h. absent (Contains-append_left (map asset_in tx.inputs) (map asset_out tx.outputs) asset h)) in
      let out_none : sum_out asset tx.outputs ≡ 0 =
      absent_out asset tx.outputs (λ h. absent (Contains-append_right (map asset_in tx.inputs) (map asset_out tx.outputs) asset h)) in
      record {
        same = in_none ∙ sym out_none;
        small = omega (arith, in_none);
      }

  is_balanced : IsBalanced tx asset
  is_balanced = elim (contains_decided bytes_decided (assets tx) asset) [
    | inl h ↦ appears h
    | inr absent ↦ appears_not absent
  ]

-- ---- the facts

at_most : {P : Type 0} {values : TxRefusal} {t u : ℕ} → HoldsNot (Reports (P × (t < u)) values) → P → u ≤ t
at_most {P} {values} {t} {u} none p = elim (cases_lt t u) [
  | inl less ↦ absurd (none values ((p, less), refl))
  | inr le ↦ le
]

at_least : {values : TxRefusal} {t u : ℕ} → HoldsNot (Reports (t < u) values) → u ≤ t
at_least {values} {t} {u} none = elim (cases_lt t u) [
  | inl less ↦ absurd (none values (less, refl))
  | inr le ↦ le
]

module _ (some : SomeVerdict) (one : OneVerdict) (hash : Hash) (check : Check) (state : State) (time : ℕ) (tx : Tx) (valid : TxValid hash check state time tx) where
  abbrev causes : First (tx_causes hash check state time tx) None
  causes = valid.first

  x1 : tx.version ≡ 1
  x1 = stable (nat_decided tx.version 1) (λ n. causes.0 _ (n, refl))

  x5 : (k : ℕ) (issue : Issue) → slice_get tx.inputs k ≡ Some (Input.Issue issue) → issue.nonce ≢ [] → tx.maxtime ≢ 0
  x5 k issue e nonce none =
      everywhere (λ n input. Reports (UsesNonce input × (tx.maxtime ≡ 0)) (X5 n)) tx.inputs causes.1.1.1.1.0 k (Input.Issue issue) e (X5 k) ((nonce, none), refl)

  x6 : (k : ℕ) × (input : Input) × (slice_get tx.inputs k ≡ Some input) × TellsApart input
  x6 = some_apart tx.inputs (λ none. causes.1.1.1.1.1.0 X6 (none, refl))

  x7 : NoneTwice (λ id. Named.Output id) (named_by hash tx)
  x7 = none_twice (λ id. Named.Output id) IsSpend (λ id. tt) (named_by hash tx)
      (λ k name e h. everywhere (λ n other. Reports (IsSpend other × Contains (take n (named_by hash tx)) other) (X7 n)) (named_by hash tx) causes.1.1.1.1.1.1.0 k name e (X7 k) (h, refl))

  x8 : NoneTwice (λ id. Named.Nonce id) (named_by hash tx)
  x8 = none_twice (λ id. Named.Nonce id) IsNonce (λ id. tt) (named_by hash tx)
      (λ k name e h. everywhere (λ n other. Reports (IsNonce other × Contains (take n (named_by hash tx)) other) (X8 n)) (named_by hash tx) causes.1.1.1.1.1.1.1.0 k name e (X8 k) (h, refl))

  x9 : (k : ℕ) (issue : Issue) → slice_get tx.inputs k ≡ Some (Input.Issue issue) → issue.asset ≡ asset_id hash state.initial issue.program issue.definition
  x9 k issue e =
      stable (bytes_decided issue.asset (asset_id hash state.initial issue.program issue.definition))
      (λ other. everywhere (λ n input. Reports (IssuesAnother hash state.initial input) (X9 n)) tx.inputs causes.1.1.1.1.1.1.1.1.0 k (Input.Issue issue) e (X9 k) (other, refl))

  x11 : (k : ℕ) (spend : Spend) → slice_get tx.inputs k ≡ Some (Input.Spend spend) → Holds state (output_id hash spend.from) spend.from
  x11 k spend e =
      stable (contains_decided unspent_decided state.unspent _)
      (λ not. everywhere (λ n input. Reports (SpendsNone hash state input) (X11 n)) tx.inputs causes.1.1.1.1.1.1.1.1.1.1.0 k (Input.Spend spend) e (X11 k) (not, refl))

  x12 : (k : ℕ) (id : List ℕ) → slice_get (named_by hash tx) k ≡ Some (Named.Nonce id) → IsLive state id → ⊥
  x12 k id e live =
      everywhere (λ n name. Reports (UsesLive state name) (X12 n)) (named_by hash tx) causes.1.1.1.1.1.1.1.1.1.1.1.0 k (Named.Nonce id) e (X12 k) (live, refl)

  x13 : (k : ℕ) (control : Control) → slice_get tx.outputs k ≡ Some (Output.Control control) → IsTaken state (result_ids hash tx) k (result_id hash (mux_id hash tx) k (Output.Control control)) → ⊥
  x13 k control e taken =
      everywhere (TakesId hash state tx) tx.outputs causes.1.1.1.1.1.1.1.1.1.1.1.1.0 k (Output.Control control) e _ ((tt, taken), refl)

  x14 : (k : ℕ) (input : Input) → slice_get tx.inputs k ≡ Some input → HoldsNot (FailsThere hash check tx k input)
  x14 k input e = everywhere (FailsThere hash check tx) tx.inputs causes.1.1.1.1.1.1.1.1.1.1.1.1.1.0 k input e

  pub facts : Valid hash check state time tx
  facts = record {
    version = x1;
    some_time = λ has. at_most causes.1.0 has;
    not_early = at_least causes.1.1.0;
    not_late = λ has. at_most causes.1.1.1.0 has;
    nonces_end = x5;
    told_apart = x6;
    spent_once = x7;
    used_once = x8;
    own_assets = x9;
    balanced = is_balanced tx causes.1.1.1.1.1.1.1.1.1.0;
    unspent = x11;
    none_live = x12;
    new_ids = λ k control e. record {
      not_unspent = λ h. x13 k control e (inl h);
      not_earlier = λ h. x13 k control e (inr h);
    };
    succeeds = λ k input e. succeeds_there some one hash check tx k input (x14 k input e);
  }
