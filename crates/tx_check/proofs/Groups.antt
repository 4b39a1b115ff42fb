-- The answers of parts of the table, from the answers of their causes.
use Rattle.std.proofs.Common.{◌≡◌, ◌++◌, ℕ, List, Option, Some, None, Result, Ok, Err, subst, inl, inr}
use Rattle.std.specs.Prelude.{IfOk}
use Rattle.keyed.specs.Functions.{Check}
use Rattle.wire.specs.Tables.{First, HoldsNot, first_of_front, first_of_later, Cause}
use Rattle.tx_check.specs.FirstPlaces.{first_found}
use Rattle.data_model.specs.declared.tx.Tx.{Tx}
use Rattle.entry_ids.specs.declared.input.Named.{Named}
use Rattle.keyed.specs.Functions.{Hash}
use Rattle.tx_check.specs.declared.refusal.TxRefusal.{TxRefusal}
use Rattle.tx_check.specs.FirstPlace.{Found}
use Rattle.tx_check.specs.View.{State}
use Rattle.tx_check.specs.Table.{HasEndlessNonce, IsNotToldApart, HasSpentTwice, HasUsedTwice, HasAnotherAsset, HasUnbalanced, HasSpentNone, HasLiveNonce, HasTakenId, HasFailing, named_by, time_causes, name_causes, asset_causes, state_causes, program_causes, Refusal}

module _ (hash : Hash) (tx : Tx) (endless : HoldsNot (HasEndlessNonce tx)) (apart : HoldsNot (IsNotToldApart tx)) where
  names_known : HoldsNot (HasSpentTwice (named_by hash tx)) → (answer : Option TxRefusal) → Found (HasUsedTwice (named_by hash tx)) answer → First (name_causes hash tx) answer
  names_known spent None used = (endless, (apart, (spent, (used, tt))))
  names_known spent (Some reported) used = inr (endless, inr (apart, inr (spent, inl used)))

  -- none of X5 to X7 holds
  pub of_used : (named : List Named) → named ≡ named_by hash tx → HoldsNot (HasSpentTwice named) → (answer : Option TxRefusal) → Found (HasUsedTwice named) answer → First (name_causes hash tx) answer
  of_used named e spent answer used =
      names_known (subst (λ (n : List Named). HoldsNot (HasSpentTwice n)) e spent) answer
      (subst (λ (n : List Named). Found (HasUsedTwice n) answer) e used)

-- X9 does not hold
pub of_unbalanced : (hash : Hash) (initial : List ℕ) (tx : Tx) → HoldsNot (HasAnotherAsset hash initial tx) → (answer : Option TxRefusal) → Found (HasUnbalanced tx) answer → First (asset_causes hash initial tx) answer
of_unbalanced hash initial tx another None h = (another, (h, tt))
of_unbalanced hash initial tx another (Some reported) h = inr (another, inl h)

-- X11 does not hold, nor does X12
pub of_taken : (hash : Hash) (state : State) (tx : Tx) → HoldsNot (HasSpentNone hash state tx) → HoldsNot (HasLiveNonce state (named_by hash tx)) → (answer : Option TxRefusal) → Found (HasTakenId hash state tx) answer → First (state_causes hash state tx) answer
of_taken hash state tx spent live None h = (spent, (live, (h, tt)))
of_taken hash state tx spent live (Some reported) h = inr (spent, inr (live, inl h))

-- ---- the table

module _ (hash : Hash) (check : Check) (state : State) (time : ℕ) (tx : Tx) where
  abbrev Times : Option TxRefusal → Type 0
  Times answer = First (time_causes time tx) answer

  abbrev Names : Option TxRefusal → Type 0
  Names answer = First (name_causes hash tx) answer

  abbrev Assets : Option TxRefusal → Type 0
  Assets answer = First (asset_causes hash state.initial tx) answer

  abbrev Shown : Option TxRefusal → Type 0
  Shown answer = First (state_causes hash state tx) answer

  abbrev Programs : Option TxRefusal → Type 0
  Programs answer = First (program_causes hash check tx) answer

  abbrev from_shown : List (Cause TxRefusal)
  from_shown = state_causes hash state tx ++ program_causes hash check tx

  abbrev from_assets : List (Cause TxRefusal)
  from_assets = asset_causes hash state.initial tx ++ from_shown

  abbrev from_names : List (Cause TxRefusal)
  from_names = name_causes hash tx ++ from_assets

  after_times : Times None → (answer : Option TxRefusal) → First from_names answer → Refusal hash check state time tx answer
  after_times times answer h = record { first = first_of_later (time_causes time tx) from_names answer times h }

  after_names : Times None → Names None → (answer : Option TxRefusal) → First from_assets answer → Refusal hash check state time tx answer
  after_names times names answer h = after_times times answer (first_of_later (name_causes hash tx) from_assets answer names h)

  after_assets : Times None → Names None → Assets None → (answer : Option TxRefusal) → First from_shown answer → Refusal hash check state time tx answer
  after_assets times names assets answer h =
      after_names times names answer (first_of_later (asset_causes hash state.initial tx) from_shown answer assets h)

  pub by_times : (reported : TxRefusal) → Times (Some reported) → Refusal hash check state time tx (Some reported)
  by_times reported h = record { first = first_of_front (time_causes time tx) from_names reported h }

  pub by_names : Times None → (reported : TxRefusal) → Names (Some reported) → Refusal hash check state time tx (Some reported)
  by_names times reported h = after_times times (Some reported) (first_of_front (name_causes hash tx) from_assets reported h)

  pub by_assets : Times None → Names None → (reported : TxRefusal) → Assets (Some reported) → Refusal hash check state time tx (Some reported)
  by_assets times names reported h = after_names times names (Some reported) (first_of_front (asset_causes hash state.initial tx) from_shown reported h)

  pub by_shown : Times None → Names None → Assets None → (reported : TxRefusal) → Shown (Some reported) → Refusal hash check state time tx (Some reported)
  by_shown times names assets reported h =
      after_assets times names assets (Some reported) (first_of_front (state_causes hash state tx) (program_causes hash check tx) reported h)

  pub by_programs : Times None → Names None → Assets None → Shown None → (answer : Option TxRefusal) → Programs answer → Refusal hash check state time tx answer
  by_programs times names assets shown answer h =
      after_assets times names assets answer (first_of_later (state_causes hash state tx) (program_causes hash check tx) answer shown h)

  pub all_by_programs : {E : Type 0} → Times None → Names None → Assets None → Shown None → (found : Result (Option TxRefusal) E) → IfOk found (Found (HasFailing hash check tx)) → IfOk found (Refusal hash check state time tx)
  all_by_programs times names assets shown (Ok answer) h = by_programs times names assets shown answer (first_found (HasFailing hash check tx) answer h)
  all_by_programs times names assets shown (Err fault) h = tt

-- the answer of X9 and X10 on the chain's own initial block
pub of_own_assets : (hash : Hash) (tx : Tx) (given initial : List ℕ) (found answer : Option TxRefusal) → given ≡ initial → found ≡ answer → First (asset_causes hash given tx) found → First (asset_causes hash initial tx) answer
of_own_assets hash tx given initial found answer same is h =
    subst (λ (id : List ℕ). First (asset_causes hash id tx) answer) same (subst (λ (cause : Option TxRefusal). First (asset_causes hash given tx) cause) is h)
