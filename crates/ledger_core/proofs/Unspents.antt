-- What is unspent, and which nonces are live, as transactions follow one another.
use Rattle.std.proofs.Common.{◌≡◌, ℕ, ◌≤◌, Bool, true, false, not, ◌||◌, ◌&&◌, List, [], ◌∷◌, ◌++◌, refl, sym, ap, ◌∙◌, arith, append_assoc, append-nil}
use Rattle.std.specs.Prelude.{bytes_eq, nat_le}
use Rattle.std.specs.List.{flat_map, filter}
use Rattle.std.proofs.lemmas.List.Folds.{list_any-append}
use Rattle.std.proofs.lemmas.Bool.Decides.{nat_tests}
use Rattle.std.proofs.lemmas.Grind.{flat_map-append}
use Rattle.std.proofs.lemmas.List.Elements.{filter-append}
use Rattle.data_model.specs.declared.tx.Tx.{Tx}
use Rattle.keyed.specs.Functions.{Hash}
use Rattle.tx_check.specs.View.{Unspent}
use Rattle.ledger_core.specs.declared.unfinished.LiveNonce.{LiveNonce}
use Rattle.ledger_core.specs.Unspent.{left_of, made_by, spent_by, unspent_after, live_at, used, used_by}
use Rattle.wire.specs.Strings.{is_among}

-- ---- what is left

-- what two tests keep, one after the other, is what they keep together
kept_by_both : {X : Type 0} (p q r : X → Bool) → ((x : X) → r x ≡ (p x && q x)) → (xs : List X) → filter q (filter p xs) ≡ filter r xs
kept_by_both p q r h [] = refl
kept_by_both {X} p q r h (x ∷ xs) = go (kept_by_both p q r h xs) (p x) (q x) refl refl
  where
    go : filter q (filter p xs) ≡ filter r xs → (b c : Bool) → p x ≡ b → q x ≡ c → filter q (filter p (x ∷ xs)) ≡ filter r (x ∷ xs)
    go e true true pb qc = rw (h x, pb, qc) (ap (λ (ys : List X). x ∷ ys) e)
    go e true false pb qc = rw (h x, pb, qc) e
    go e false c pb qc = rw (h x, pb) e

is_left : (first second : List (List ℕ)) (id : List ℕ) → not (is_among (first ++ second) id) ≡ (not (is_among first id) && not (is_among second id))
is_left first second id = ap not (list_any-append (λ other. bytes_eq other id) first second) ∙ not_or (is_among first id) (is_among second id)
  where
    not_or : (a b : Bool) → not (a || b) ≡ (not a && not b)
    not_or true b = refl
    not_or false b = refl

-- what is left of what is left
pub left_of_left : (first second : List (List ℕ)) (outputs : List Unspent)
    → left_of second (left_of first outputs) ≡ left_of (first ++ second) outputs
left_of_left first second outputs =
    kept_by_both (λ o. not (is_among first o.id)) (λ o. not (is_among second o.id)) (λ o. not (is_among (first ++ second) o.id)) (λ o. is_left first second o.id) outputs

pub left_of_none : (outputs : List Unspent) → left_of [] outputs ≡ outputs
left_of_none [] = refl
left_of_none (o ∷ outputs) = ap (λ (rest : List Unspent). o ∷ rest) (left_of_none outputs)

pub left_of_both : (spent : List (List ℕ)) (xs ys : List Unspent) → left_of spent (xs ++ ys) ≡ left_of spent xs ++ left_of spent ys
left_of_both spent xs ys = filter-append (λ o. not (is_among spent o.id)) xs ys

-- ---- transactions after others

-- what is unspent after some transactions and then others
pub unspent_more : (hash : Hash) (txs later : List Tx)
    → unspent_after hash (txs ++ later) ≡ left_of (flat_map (spent_by hash) later) (unspent_after hash txs) ++ unspent_after hash later
unspent_more hash [] later = refl
unspent_more hash (tx ∷ txs) later =
    let spent = spent_by hash in
    let made = made_by hash tx in
    let front : left_of (flat_map spent (txs ++ later)) made ≡ left_of (flat_map spent later) (left_of (flat_map spent txs) made) =
    ap (λ (ids : List (List ℕ)). left_of ids made) (flat_map-append spent txs later) ∙ sym (left_of_left (flat_map spent txs) (flat_map spent later) made) in
    ap (λ (xs : List Unspent). xs ++ unspent_after hash (txs ++ later)) front
    ∙ ap (λ (xs : List Unspent). left_of (flat_map spent later) (left_of (flat_map spent txs) made) ++ xs) (unspent_more hash txs later)
    ∙ sym (append_assoc (left_of (flat_map spent later) (left_of (flat_map spent txs) made)) (left_of (flat_map spent later) (unspent_after hash txs)) (unspent_after hash later))
    ∙ ap (λ (xs : List Unspent). xs ++ unspent_after hash later) (sym (left_of_both (flat_map spent later) (left_of (flat_map spent txs) made) (unspent_after hash txs)))

-- one transaction leaves what it makes
pub unspent_one : (hash : Hash) (tx : Tx) → unspent_after hash (tx ∷ []) ≡ made_by hash tx
unspent_one hash tx = append-nil (left_of [] (made_by hash tx)) ∙ left_of_none (made_by hash tx)

-- one transaction more
pub unspent_then : (hash : Hash) (txs : List Tx) (tx : Tx)
    → unspent_after hash (txs ++ tx ∷ []) ≡ left_of (spent_by hash tx) (unspent_after hash txs) ++ made_by hash tx
unspent_then hash txs tx =
    unspent_more hash txs (tx ∷ [])
    ∙ ap (λ (ids : List (List ℕ)). left_of ids (unspent_after hash txs) ++ unspent_after hash (tx ∷ [])) (append-nil (spent_by hash tx))
    ∙ ap (λ (xs : List Unspent). left_of (spent_by hash tx) (unspent_after hash txs) ++ xs) (unspent_one hash tx)

pub used_more : (hash : Hash) (txs later : List Tx) → used hash (txs ++ later) ≡ used hash txs ++ used hash later
used_more hash txs later = flat_map-append (used_by hash) txs later

-- ---- nonces

at_both : (earlier later n : ℕ) → earlier ≤ later → nat_le later n ≡ (nat_le earlier n && nat_le later n)
at_both earlier later n h = grind (arith, nat_tests)

-- what is live at a later time of what is live at an earlier one
live_of_live : (earlier later : ℕ) (nonces : List LiveNonce) → earlier ≤ later → live_at later (live_at earlier nonces) ≡ live_at later nonces
live_of_live earlier later nonces h =
    kept_by_both (λ n. nat_le earlier n.maxtime) (λ n. nat_le later n.maxtime) (λ n. nat_le later n.maxtime) (λ n. at_both earlier later n.maxtime h) nonces

pub live_later : (earlier later : ℕ) (old new : List LiveNonce) → earlier ≤ later → live_at later (live_at earlier old ++ new) ≡ live_at later (old ++ new)
live_later earlier later old new h =
    let test = λ (n : LiveNonce). nat_le later n.maxtime in
    filter-append test (live_at earlier old) new
    ∙ ap (λ (xs : List LiveNonce). xs ++ live_at later new) (live_of_live earlier later old h)
    ∙ sym (filter-append test old new)
