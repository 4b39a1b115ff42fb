-- The first transaction of a block that is refused is a cause of the table of blocks, and where there is none each is valid.
use Rattle.std.proofs.Common.{◌≡◌, ℕ, List, take, Option, Some, None, refl, sym, ◌∙◌, inl, inr}
use Rattle.std.specs.Prelude.{◌⊎◌, slice_get}
use Rattle.wire.specs.Tables.{HoldsNot, IsCause}
use Rattle.data_model.specs.declared.block.Block.{Block}
use Rattle.data_model.specs.declared.tx.Tx.{Tx}
use Rattle.keyed.specs.Functions.{Check}
use Rattle.tx_check.specs.declared.refusal.TxRefusal.{TxRefusal}
use Rattle.tx_check.specs.Laws.{RefusalLaws}
use Rattle.tx_check.specs.Table.{Refusal, TxValid}
use Rattle.ledger_core.specs.declared.refusal.BlockRefusal.{BlockRefusal}
use Rattle.ledger_core.specs.declared.refusal.BlockRefusal.TheVariants.{B8}
use Rattle.keyed.specs.Functions.{Hash}
use Rattle.ledger_core.specs.State.{state_after}
use Rattle.ledger_core.specs.Refusal.{IsRefusedTx, HasRefusedTx}
use Rattle.tx_check.specs.FirstPlaces.{at_first_line, everywhere}

-- each transaction has a refusal or none, and no two
abbrev pub TxLaws : Type 0
TxLaws = (hash : Hash) (check : Check) → RefusalLaws hash check

some_is_not_none : {X : Type 0} (x : X) → Some x ≡ None → ⊥
some_is_not_none x e = cc

same_of_some : {X : Type 0} (x y : X) → Some x ≡ Some y → x ≡ y
same_of_some x y e = cc

module _ (laws : TxLaws) (hash : Hash) (check : Check) (blocks : List Block) (time : ℕ) (txs : List Tx) where
  module _ (k : ℕ) (tx : Tx) where
    -- each transaction valid where the cause does not hold, and the other way round
    abbrev pub IsValid : Type 0
    IsValid = TxValid hash check (state_after hash blocks (take k txs)) time tx

    abbrev Refused : Option TxRefusal → Type 0
    Refused cause = Refusal hash check (state_after hash blocks (take k txs)) time tx cause

    abbrev Here : BlockRefusal → Type 0
    Here = IsRefusedTx hash check blocks time txs k tx

    one : (a b : Option TxRefusal) → Refused a → Refused b → a ≡ b
    one = (laws hash check).one (state_after hash blocks (take k txs)) time tx

    pub not_refused : IsValid → HoldsNot Here
    not_refused valid reported h = some_is_not_none h.0 (one (Some h.0) None h.1 valid)

    decided_by : (cause : Option TxRefusal) → Refused cause → ((reported : BlockRefusal) × Here reported) ⊎ HoldsNot Here
    decided_by (Some cause) r = inl (B8 k cause, (cause, r, refl))
    decided_by None r = inr (not_refused r)

    valid_by : (cause : Option TxRefusal) → Refused cause → HoldsNot Here → IsValid
    valid_by (Some cause) r not = absurd (not (B8 k cause) (cause, r, refl))
    valid_by None r not = r

    pub valid_where : HoldsNot Here → IsValid
    valid_where = (let found = (laws hash check).some (state_after hash blocks (take k txs)) time tx in valid_by found.0 found.1)

    one_refusal_of_blocks : (a b : BlockRefusal) → Here a → Here b → a ≡ b
    one_refusal_of_blocks a b p q =
        let causes : p.0 ≡ q.0 = same_of_some p.0 q.0 (one (Some p.0) (Some q.0) p.1 q.1) in
        p.2 ∙ (λ i. B8 k (causes i)) ∙ sym q.2

    is_line : IsCause Here
    is_line = (let found = (laws hash check).some (state_after hash blocks (take k txs)) time tx in record { decided = decided_by found.0 found.1; one = one_refusal_of_blocks })

  pub refused_tx_line : IsCause (HasRefusedTx hash check blocks time txs)
  refused_tx_line = at_first_line (IsRefusedTx hash check blocks time txs) txs (λ k tx there. is_line k tx)

  pub valid_txs : HoldsNot (HasRefusedTx hash check blocks time txs) → (k : ℕ) (tx : Tx) → slice_get txs k ≡ Some tx → IsValid k tx
  valid_txs none k tx there = valid_where k tx (everywhere (IsRefusedTx hash check blocks time txs) txs none k tx there)

  pub no_refused_tx : ((k : ℕ) (tx : Tx) → slice_get txs k ≡ Some tx → IsValid k tx) → HoldsNot (HasRefusedTx hash check blocks time txs)
  no_refused_tx valid = λ reported first. not_refused first.place first.item (valid first.place first.item first.there) reported first.reports
