-- The ids and the changes of the transactions at the front of a block, one transaction after the other.
use Rattle.std.proofs.Common.{◌≡◌, ℕ, zero, suc, ◌+◌, List, [], ◌∷◌, ◌++◌, length, take, refl, sym, ap, ◌∙◌, subst, arith}
use Rattle.std.specs.List.{AllByRecursion}
use Rattle.std.proofs.lemmas.List.{take_more}
use Rattle.data_model.specs.declared.tx.Tx.{Tx}
use Rattle.data_model.specs.Transaction.{IsTx}
use Rattle.entry_ids.specs.declared.tx.TxIds.{TxIds}
use Rattle.keyed.specs.Functions.{Hash}
use Rattle.entry_ids.specs.Ids.{AreIds}
use Rattle.wire.specs.Lists.{StandsAt}
use Rattle.ledger_core.specs.Offering.{AreAllIds}

-- one transaction more at the front
pub take_next : (txs : List Tx) (k : ℕ) (tx : Tx) → StandsAt txs k tx → take (k + 1) txs ≡ take k txs ++ tx ∷ []
take_next txs k tx s = take_more txs k tx s.there ∙ ap (λ (x : Tx). take k txs ++ x ∷ []) (sym s.is)

-- each transaction at a place is within the limits
pub is_tx : (txs : List Tx) (k : ℕ) (tx : Tx) → AllByRecursion IsTx txs → StandsAt txs k tx → IsTx tx
is_tx [] k tx all s = absurd (omega (arith, s.there))
is_tx (y ∷ txs) zero tx all s = subst IsTx (sym s.is) all.0
is_tx (y ∷ txs) (suc k) tx all s = is_tx txs k tx all.1 (record { there = omega (arith, s.there); is = s.is })

-- ---- ids

pub ids_more : (hash : Hash) (txs : List Tx) (ids : List TxIds) (tx : Tx) (one : TxIds) → AreAllIds hash txs ids → AreIds hash tx one
    → AreAllIds hash (txs ++ tx ∷ []) (ids ++ one ∷ [])
ids_more hash [] [] tx one are is = (is, tt)
ids_more hash [] (first ∷ ids) tx one are is = absurd are
ids_more hash (t ∷ txs) [] tx one are is = absurd are
ids_more hash (t ∷ txs) (first ∷ ids) tx one are is = (are.0, ids_more hash txs ids tx one are.1 is)

pub ids_next : (hash : Hash) (txs : List Tx) (k : ℕ) (ids : List TxIds) (tx : Tx) (one : TxIds) → StandsAt txs k tx → AreAllIds hash (take k txs) ids → AreIds hash tx one
    → AreAllIds hash (take (k + 1) txs) (ids ++ one ∷ [])
ids_next hash txs k ids tx one s are is =
    subst (λ (xs : List Tx). AreAllIds hash xs (ids ++ one ∷ [])) (sym (take_next txs k tx s)) (ids_more hash (take k txs) ids tx one are is)

-- there are as many ids as transactions
pub as_many : (hash : Hash) (txs : List Tx) (ids : List TxIds) → AreAllIds hash txs ids → length ids ≡ length txs
as_many hash [] [] are = refl
as_many hash [] (first ∷ ids) are = absurd are
as_many hash (tx ∷ txs) [] are = absurd are
as_many hash (tx ∷ txs) (first ∷ ids) are = ap suc (as_many hash txs ids are.1)

pub ids_at : (hash : Hash) (txs : List Tx) (ids : List TxIds) (k : ℕ) (tx : Tx) (one : TxIds) → AreAllIds hash txs ids → StandsAt txs k tx → StandsAt ids k one → AreIds hash tx one
ids_at hash [] ids k tx one are s t = absurd (omega (arith, s.there))
ids_at hash (y ∷ txs) [] k tx one are s t = absurd are
ids_at hash (y ∷ txs) (first ∷ ids) zero tx one are s t =
    subst (λ (x : Tx). AreIds hash x one) (sym s.is) (subst (λ (x : TxIds). AreIds hash y x) (sym t.is) are.0)
ids_at hash (y ∷ txs) (first ∷ ids) (suc k) tx one are s t =
    ids_at hash txs ids k tx one are.1 (record { there = omega (arith, s.there); is = s.is }) (record { there = omega (arith, t.there); is = t.is })
