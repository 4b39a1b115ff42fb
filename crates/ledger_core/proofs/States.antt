-- What a ledger shows, alone and after the first transactions of a block, is the state of its blocks.
use Rattle.std.proofs.Common.{◌≡◌, ℕ, List, [], ◌∷◌, ◌++◌, sym, ◌∙◌, ap, append-nil}
use Rattle.std.specs.List.{flat_map}
use Rattle.std.proofs.lemmas.List.Concat.{flat_map-append}
use Rattle.data_model.specs.declared.tx.Tx.{Tx}
use Rattle.keyed.specs.Functions.{Check}
use Rattle.tx_check.specs.View.{Unspent}
use Rattle.ledger_core.specs.declared.unfinished.Changes.{Changes}
use Rattle.ledger_core.specs.declared.unfinished.LiveNonce.{LiveNonce}
use Rattle.ledger_core.specs.Blocks.{tip_of, txs_of, time_of}
use Rattle.ledger_core.specs.Chain.{StandsFor}
use Rattle.ledger_core.specs.LedgerModel.{LedgerModel, shown, shown_with}
use Rattle.ledger_core.specs.Offering.{AreChanges}
use Rattle.keyed.specs.Functions.{Hash}
use Rattle.ledger_core.specs.State.{state_after, ids_of}
use Rattle.ledger_core.specs.Unspent.{left_of, made_by, spent_by, unspent_after, used, used_by, live_at}
use Rattle.ledger_core.proofs.Unspents.{unspent_more, unspent_then, used_more}

-- ---- changes

-- one transaction more
pub changes_more : (hash : Hash) (txs : List Tx) (tx : Tx) (before after : Changes) → AreChanges hash txs before
    → after.made.items ≡ left_of (spent_by hash tx) before.made.items ++ made_by hash tx
    → after.spent.items ≡ before.spent.items ++ spent_by hash tx
    → after.used.items ≡ before.used.items ++ used_by hash tx
    → AreChanges hash (txs ++ tx ∷ []) after
changes_more hash txs tx before after are made spent used_are = record {
  made = made ∙ ap (λ (xs : List Unspent). left_of (spent_by hash tx) xs ++ made_by hash tx) are.made ∙ sym (unspent_then hash txs tx);
  spent = spent ∙ ap (λ (ids : List (List ℕ)). ids ++ spent_by hash tx) are.spent
      ∙ ap (λ (ids : List (List ℕ)). flat_map (spent_by hash) txs ++ ids) (sym (append-nil (spent_by hash tx)))
      ∙ sym (flat_map-append (spent_by hash) txs (tx ∷ []));
  used_are = used_are ∙ ap (λ (xs : List LiveNonce). xs ++ used_by hash tx) are.used_are
      ∙ ap (λ (xs : List LiveNonce). used hash txs ++ xs) (sym (append-nil (used_by hash tx)))
      ∙ sym (used_more hash txs (tx ∷ []));
}

pub changes_none : (hash : Hash) (changes : Changes) → changes.made.items ≡ [] → changes.spent.items ≡ [] → changes.used.items ≡ [] → AreChanges hash [] changes
changes_none hash changes made spent used_are = record { made = made; spent = spent; used_are = used_are }

-- ---- states

module _ (hash : Hash) (check : Check) (ledger : LedgerModel) (stands : StandsFor hash check ledger) where
  -- the ids of the nonces that are live after the blocks
  abbrev live_before : List (List ℕ)
  live_before = ids_of (live_at (time_of (tip_of ledger.blocks)) (used hash (txs_of ledger.blocks)))

  unspent_is : (txs : List Tx) (changes : Changes) → AreChanges hash txs changes → left_of changes.spent.items ledger.unspent ++ changes.made.items ≡ unspent_after hash (txs_of ledger.blocks ++ txs)
  unspent_is txs changes are =
      ap (λ (ids : List (List ℕ)). left_of ids ledger.unspent ++ changes.made.items) are.spent
      ∙ ap (λ (xs : List Unspent). left_of (flat_map (spent_by hash) txs) xs ++ changes.made.items) stands.unspent
      ∙ ap (λ (xs : List Unspent). left_of (flat_map (spent_by hash) txs) (unspent_after hash (txs_of ledger.blocks)) ++ xs) are.made
      ∙ sym (unspent_more hash (txs_of ledger.blocks) txs)

  live_is : (txs : List Tx) (changes : Changes) → AreChanges hash txs changes → ids_of ledger.live ++ ids_of changes.used.items ≡ live_before ++ ids_of (used hash txs)
  live_is txs changes are =
      ap (λ (xs : List LiveNonce). ids_of xs ++ ids_of changes.used.items) stands.live
      ∙ ap (λ (xs : List LiveNonce). live_before ++ ids_of xs) are.used_are

  -- after some transactions
  pub shown_with_is : (txs : List Tx) (changes : Changes) → AreChanges hash txs changes → shown_with ledger changes.made.items changes.spent.items changes.used.items ≡ state_after hash ledger.blocks txs
  shown_with_is txs changes are = λ i. record {
    initial = stands.initial i;
    unspent = unspent_is txs changes are i;
    live = live_is txs changes are i;
  }

  unspent_alone : ledger.unspent ≡ unspent_after hash (txs_of ledger.blocks ++ [])
  unspent_alone = stands.unspent ∙ ap (unspent_after hash) (sym (append-nil (txs_of ledger.blocks)))

  live_alone : ids_of ledger.live ≡ live_before ++ []
  live_alone = ap ids_of stands.live ∙ sym (append-nil live_before)

  -- alone
  pub shown_is : shown ledger ≡ state_after hash ledger.blocks []
  shown_is = λ i. record {
    initial = stands.initial i;
    unspent = unspent_alone i;
    live = live_alone i;
  }
