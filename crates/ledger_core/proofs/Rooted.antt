-- The roots of the ids of transactions, and of the ids of what is unspent.
use Rattle.std.proofs.Common.{◌≡◌, ℕ, Bool, true, List, [], ◌∷◌, ◌++◌, length, map, refl, sym, subst, ap, ◌∙◌, arith}
use Rattle.std.specs.Prelude.{nat_eq, ◌==◌}
use Rattle.std.specs.Cmp.Lexicographic.{pointwise, bytes_decides}
use Rattle.std.proofs.lemmas.Bool.Decides.{nat_tests}
use Rattle.data_model.specs.declared.tx.Tx.{Tx}
use Rattle.entry_ids.specs.declared.tx.TxIds.{TxIds}
use Rattle.entry_ids.specs.Ids.{tx_id}
use Rattle.std.specs.List.{All}
use Rattle.merkle.specs.Laws.{IsId}
use Rattle.merkle.specs.Roots.{list_root, root_within}
use Rattle.tx_check.specs.View.{Unspent}
use Rattle.ledger_core.specs.declared.unfinished.Changes.{Changes}
use Rattle.ledger_core.specs.Roots.{output_ids, root_of_none}
use Rattle.keyed.specs.Functions.{Hash}
use Rattle.ledger_core.specs.Unspent.{left_of, unspent_after}
use Rattle.ledger_core.specs.Offering.{AreAllIds, AreChanges}
use Rattle.ledger_core.proofs.Unspents.{left_of_none, unspent_more}

-- ids that a test of their bytes finds equal are equal
pub same_bytes : (a b : List ℕ) → pointwise nat_eq a b ≡ true → a ≡ b
same_bytes a b e = (bytes_decides a b).0 e

-- ---- transactions

-- the ids of transactions are the first of all their ids
pub ids_of_txs : (hash : Hash) (txs : List Tx) (ids : List TxIds) → AreAllIds hash txs ids → map (λ (one : TxIds). one.tx) ids ≡ map (tx_id hash) txs
ids_of_txs hash [] [] are = refl
ids_of_txs hash [] (first ∷ ids) are = absurd are
ids_of_txs hash (tx ∷ txs) [] are = absurd are
ids_of_txs hash (tx ∷ txs) (first ∷ ids) are =
    ap (λ (id : List ℕ). id ∷ map (λ (one : TxIds). one.tx) ids) are.0.id
    ∙ ap (λ (later : List (List ℕ)). tx_id hash tx ∷ later) (ids_of_txs hash txs ids are.1)

-- the root of no ids
pub empty_list : (hash : Hash) → list_root hash [] ≡ root_of_none hash
unfolding list_root root_within
empty_list hash = refl

pub root_of_no_txs : (hash : Hash) (txs : List Tx) (ids : List TxIds) → AreAllIds hash txs ids → ids ≡ [] → root_of_none hash ≡ list_root hash (map (tx_id hash) txs)
root_of_no_txs hash txs ids are none =
    sym (empty_list hash)
    ∙ ap (list_root hash) (ap (λ (all : List TxIds). map (λ (one : TxIds). one.tx) all) (sym none) ∙ ids_of_txs hash txs ids are)

-- ---- outputs

pub output_ids_both : (xs ys : List Unspent) → output_ids (xs ++ ys) ≡ output_ids xs ++ output_ids ys
output_ids_both [] ys = refl
output_ids_both (x ∷ xs) ys = ap (λ (ids : List (List ℕ)). x.id ∷ ids) (output_ids_both xs ys)

-- the ids of what is unspent after some transactions more
pub gathered : (hash : Hash) (before txs : List Tx) (changes : Changes) (unspent : List Unspent) → unspent ≡ unspent_after hash before → AreChanges hash txs changes
    → output_ids (left_of changes.spent.items unspent) ++ output_ids (left_of [] changes.made.items) ≡ output_ids (unspent_after hash (before ++ txs))
gathered hash before txs changes unspent there are =
    let left = left_of changes.spent.items unspent in
    let after : left ++ changes.made.items ≡ unspent_after hash (before ++ txs) =
    (λ i. left_of (are.spent i) (there i) ++ are.made i) ∙ sym (unspent_more hash before txs) in
    ap (λ (xs : List Unspent). output_ids left ++ output_ids xs) (left_of_none changes.made.items)
    ∙ sym (output_ids_both left changes.made.items)
    ∙ ap output_ids after

-- no ids
pub none_are_ids : (ids : List (List ℕ)) → ids ≡ [] → All IsId ids
none_are_ids ids e = subst (All IsId) (sym e) (λ k d l. absurd (omega (arith, l)))

-- a list that is said to be empty
pub no_ids : {X : Type 0} (xs : List X) (r : Bool) → r ≡ (length xs == 0) → r ≡ true → xs ≡ []
no_ids [] r is e = refl
no_ids (x ∷ xs) r is e = absurd (some (sym e ∙ is))
  where
    some : true ≡ (length (x ∷ xs) == 0) → ⊥
    some t = grind (arith, nat_tests, t)
