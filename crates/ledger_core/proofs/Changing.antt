-- What the transactions at the front of a block change, and which of them is refused first.
use Rattle.std.proofs.Common.{◌≡◌, ℕ, ◌+◌, ◌≤◌, List, [], ◌∷◌, ◌++◌, length, take, Some, None, Result, Ok, Err, IfErr, OnOk, refl, sym, ap, ◌∙◌, subst, append-nil}
use Rattle.std.specs.List.{flat_map}
use Rattle.std.proofs.lemmas.Grind.{flat_map-append}
use Rattle.wire.specs.Tables.{HoldsNot}
use Rattle.data_model.specs.declared.tx.Tx.{Tx}
use Rattle.data_model.specs.declared.block.Block.{Block}
use Rattle.keyed.specs.Functions.{Check}
use Rattle.tx_check.specs.View.{State, Unspent}
use Rattle.tx_check.specs.Table.{TxValid, Refuses}
use Rattle.tx_check.specs.Laws.{RefusalLaws}
use Rattle.tx_check.specs.declared.refusal.TxRefusal.{TxRefusal}
use Rattle.tx_check.specs.declared.refusal.TxFault.{TxFault}
use Rattle.tx_check.specs.declared.refusal.TxFault.TheVariants as tx
use Rattle.tx_check.specs.FirstPlaces.{NoneBelow, none_at_start, none_more, found_here, nowhere}
use Rattle.wire.specs.Lists.{StandsAt}
use Rattle.ledger_core.specs.declared.refusal.BlockRefusal.{BlockRefusal}
use Rattle.ledger_core.specs.declared.refusal.BlockRefusal.TheVariants.{B8}
use Rattle.ledger_core.specs.declared.refusal.OfferFault.{OfferFault}
use Rattle.ledger_core.specs.declared.refusal.OfferFault.TheVariants.{Refused, NoMemory}
use Rattle.ledger_core.specs.declared.unfinished.Changes.{Changes}
use Rattle.ledger_core.specs.declared.unfinished.LiveNonce.{LiveNonce}
use Rattle.keyed.specs.Functions.{Hash}
use Rattle.ledger_core.specs.Blocks.{txs_of}
use Rattle.ledger_core.specs.LedgerModel.{LedgerModel, shown_with}
use Rattle.ledger_core.specs.Chain.{StandsFor}
use Rattle.ledger_core.specs.State.{state_after, ids_of}
use Rattle.ledger_core.specs.Unspent.{left_of, made_by, spent_by, used_by, unspent_after, used}
use Rattle.ledger_core.specs.Refusal.{IsRefusedTx, HasRefusedTx}
use Rattle.ledger_core.specs.Offering.{AreChanges, RefusesAs, RefusedAt}
use Rattle.ledger_core.proofs.Unspents.{unspent_more, unspent_then, used_more}
use Rattle.ledger_core.proofs.Taken.{take_next}

-- ---- changes

pub no_changes : (hash : Hash) (changes : Changes) → changes.made.items ≡ [] → changes.spent.items ≡ [] → changes.used.items ≡ [] → AreChanges hash [] changes
no_changes hash changes made spent used = record { made = made; spent = spent; used_are = used }

-- what one transaction more changes
pub record Adds (hash : Hash) (one : Tx) (old new : Changes) : Type 0 where
  pub made : new.made.items ≡ left_of (spent_by hash one) old.made.items ++ made_by hash one
  pub spent : new.spent.items ≡ old.spent.items ++ spent_by hash one
  pub used_are : new.used.items ≡ old.used.items ++ used_by hash one

changes_more : (hash : Hash) (txs : List Tx) (one : Tx) (old new : Changes) → AreChanges hash txs old → Adds hash one old new → AreChanges hash (txs ++ one ∷ []) new
changes_more hash txs one old new are adds = record {
  made = adds.made
      ∙ ap (λ (outputs : List Unspent). left_of (spent_by hash one) outputs ++ made_by hash one) are.made
      ∙ sym (unspent_then hash txs one);
  spent = adds.spent
      ∙ ap (λ (ids : List (List ℕ)). ids ++ spent_by hash one) are.spent
      ∙ ap (λ (ids : List (List ℕ)). flat_map (spent_by hash) txs ++ ids) (sym (append-nil (spent_by hash one)))
      ∙ sym (flat_map-append (spent_by hash) txs (one ∷ []));
  used_are = adds.used_are
      ∙ ap (λ (nonces : List LiveNonce). nonces ++ used_by hash one) are.used_are
      ∙ ap (λ (nonces : List LiveNonce). used hash txs ++ nonces) (sym (append-nil (used_by hash one)))
      ∙ sym (used_more hash txs (one ∷ []));
}

pub changes_next : (hash : Hash) (txs : List Tx) (k : ℕ) (one : Tx) (old new : Changes) → StandsAt txs k one → AreChanges hash (take k txs) old → Adds hash one old new
    → AreChanges hash (take (k + 1) txs) new
changes_next hash txs k one old new s are adds =
    subst (λ (front : List Tx). AreChanges hash front new) (sym (take_next txs k one s)) (changes_more hash (take k txs) one old new are adds)

-- ---- what is shown

-- a ledger with the changes of some transactions shows what its blocks and these transactions do
pub shown_after : (hash : Hash) (check : Check) (ledger : LedgerModel) (txs : List Tx) (changes : Changes) → StandsFor hash check ledger → AreChanges hash txs changes
    → shown_with ledger changes.made.items changes.spent.items changes.used.items ≡ state_after hash ledger.blocks txs
shown_after hash check ledger txs changes stands are =
    let before = txs_of ledger.blocks in
    let unspent : left_of changes.spent.items ledger.unspent ++ changes.made.items ≡ unspent_after hash (before ++ txs) =
    (λ i. left_of (are.spent i) (stands.unspent i) ++ are.made i) ∙ sym (unspent_more hash before txs) in
    λ i. record {
      initial = stands.initial i;
      unspent = unspent i;
      live = ids_of (stands.live i) ++ ids_of (are.used_are i);
    }

-- ---- which is refused

not_both : (r : Result (Unit {0}) OfferFault) (u : Unit {0}) (fault : OfferFault) → r ≡ Ok u → r ≡ Err fault → ⊥
not_both r u fault e f = cc

one_fault : (r : Result (Unit {0}) OfferFault) (a b : OfferFault) → r ≡ Err a → r ≡ Err b → a ≡ b
one_fault r a b e f = cc

none_and_some : (cause : TxRefusal) → None ≡ Some cause → ⊥
none_and_some cause e = cc

module _ (hash : Hash) (check : Check) (blocks : List Block) (time : ℕ) (txs : List Tx) where
  abbrev Line : ℕ → Tx → BlockRefusal → Type 0
  Line place one = IsRefusedTx hash check blocks time txs place one

  abbrev pub NoneRefused : ℕ → Type 0
  NoneRefused k = NoneBelow Line txs k

  pub none_yet : NoneRefused 0
  none_yet = none_at_start Line txs

  -- none of them is refused
  pub none_at_all : (k : ℕ) → length txs ≤ k → NoneRefused k → HoldsNot (HasRefusedTx hash check blocks time txs)
  none_at_all k past none = nowhere Line txs k past none

  module _ (k : ℕ) (one : Tx) (state : State) (shows : state ≡ state_after hash blocks (take k txs)) where
    not_refused : RefusalLaws hash check → TxValid hash check state time one → HoldsNot (Line k one)
    not_refused laws valid reported h =
        let there = subst (λ (s : State). TxValid hash check s time one) shows valid in
        none_and_some h.0 (laws.one (state_after hash blocks (take k txs)) time one None (Some h.0) there h.1)

    is_refused : (cause : TxRefusal) → Refuses hash check state time one (tx.Refused cause) → Line k one (B8 k cause)
    is_refused cause h = (cause, subst (λ (s : State). Refuses hash check s time one (tx.Refused cause)) shows h, refl)

    -- one that is not refused
    pub next_valid : RefusalLaws hash check → (checked : Result (Unit {0}) TxFault) (reported : Result (Unit {0}) OfferFault) (u : Unit {0}) → NoneRefused k → StandsAt txs k one
        → OnOk checked (TxValid hash check state time one) → RefusedAt checked k reported → reported ≡ Ok u → NoneRefused (k + 1)
    next_valid laws (Ok v) reported u none s valid reports e = none_more Line txs k one none s (not_refused laws valid)
    next_valid laws (Err (tx.Refused cause)) reported u none s valid reports e = absurd (not_both reported u (Refused (B8 k cause)) e reports)
    next_valid laws (Err tx.NoMemory) reported u none s valid reports e = absurd (not_both reported u NoMemory e reports)

    -- the first that is refused
    pub first_refused : (checked : Result (Unit {0}) TxFault) (reported : Result (Unit {0}) OfferFault) (fault : OfferFault) → NoneRefused k → StandsAt txs k one
        → IfErr checked (Refuses hash check state time one) → RefusedAt checked k reported → reported ≡ Err fault → RefusesAs (HasRefusedTx hash check blocks time txs) fault
    first_refused (Ok v) reported fault none s refused reports e = absurd (not_both reported tt fault reports e)
    first_refused (Err (tx.Refused cause)) reported fault none s refused reports e =
        subst (λ (f : OfferFault). RefusesAs (HasRefusedTx hash check blocks time txs) f) (one_fault reported (Refused (B8 k cause)) fault reports e)
        (found_here Line txs k one (B8 k cause) none s (is_refused cause refused))
    first_refused (Err tx.NoMemory) reported fault none s refused reports e =
        subst (λ (f : OfferFault). RefusesAs (HasRefusedTx hash check blocks time txs) f) (one_fault reported NoMemory fault reports e) tt
