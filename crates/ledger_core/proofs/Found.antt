-- What is found among values by what each is mapped to.
use Rattle.std.proofs.Common.{◌≡◌, ◌≢◌, ℕ, zero, suc, ◌<◌, Bool, true, false, List, [], ◌∷◌, length, get_or, Option, Some, None, Bor, refl, ◌∙◌, ap, arith}
use Rattle.std.specs.Prelude.{◌↔◌, IsTrue, IsNone, IfSome, Contains, map}
use Rattle.std.specs.Option.{MatchOption}
use Rattle.std.specs.Bool.{MatchBool}
use Rattle.std.specs.List.{HoldsAt, AllWithin}
use Rattle.tx_check.specs.View.{Unspent}
use Rattle.ledger_core.specs.Roots.{output_ids}

module _ {X : Type 0} (f : X → List ℕ) (id : List ℕ) where
  -- one of them has the id
  abbrev pub IsThere : List X → Type 0
  IsThere xs = (k : ℕ) × (k < length xs) × HoldsAt (λ x. f x ≡ id) xs k

  -- none of them has it
  abbrev pub IsNowhere : List X → Type 0
  IsNowhere xs = AllWithin (λ x. f x ≢ id) xs 0 (length xs)

  mapped : (xs : List X) (k : ℕ) → k < length xs → ((d : X) → f (get_or xs k d) ≡ id) → (k < length (map f xs)) × ((d : List ℕ) → get_or (map f xs) k d ≡ id)
  mapped [] k l h = absurd (omega (arith, l))
  mapped (x ∷ xs) zero l h = (omega arith, λ d. h x)
  mapped (x ∷ xs) (suc k) l h =
      let later = mapped xs k (omega (arith, l)) h in
      let there : k < length (map f xs) = later.0 in
      (omega (arith, there), later.1)

  none_mapped : (xs : List X) → ((k : ℕ) (d : X) → k < length xs → f (get_or xs k d) ≢ id) → (k : ℕ) (d : List ℕ) → k < length (map f xs) → get_or (map f xs) k d ≢ id
  none_mapped [] h k d l e = omega (arith, l)
  none_mapped (x ∷ xs) h zero d l e = h zero x (omega arith) e
  none_mapped (x ∷ xs) h (suc k) d l e =
      none_mapped xs (λ j y m. (let more : suc j < suc (length xs) = omega (arith, m) in h (suc j) y more)) k d (omega (arith, l)) e

  pub there_mapped : (xs : List X) → IsThere xs → Contains (map f xs) id
  there_mapped xs h = (let at = mapped xs h.0 h.1 h.2 in (h.0, at.0, at.1 id))

  pub nowhere_mapped : (xs : List X) → IsNowhere xs → Contains (map f xs) id → ⊥
  nowhere_mapped xs h p = none_mapped xs (λ k d l. h k d (omega arith) l) p.0 id p.1 p.2

  -- what a search for it reports
  pub found_mapped : (xs : List X) (r : Bool) → MatchBool r (IsThere xs) (IsNowhere xs) → (IsTrue r ↔ Contains (map f xs) id)
  found_mapped xs true h = (λ e. there_mapped xs h, λ p. refl)
  found_mapped xs false h = (λ e. absurd (not_true e), λ p. absurd (nowhere_mapped xs h p))
    where
      not_true : IsTrue false → ⊥
      not_true e = cc

-- ---- what a search for an id finds

abbrev pub Finds : List Unspent → List ℕ → Option (Bor Unspent) → Type 0
Finds outputs id found =
    MatchOption found (IsNowhere (λ o. o.id) id outputs) (λ o. (o.now.id ≡ id) × (k : ℕ) × (k < length outputs) × HoldsAt (λ y. y ≡ o.now) outputs k × AllWithin (λ y. y.id ≢ id) outputs 0 k)

pub found_output : (outputs : List Unspent) (id : List ℕ) (found : Option (Bor Unspent)) → Finds outputs id found → IfSome found (λ o. (o.now.id ≡ id) × Contains outputs o.now)
found_output outputs id None h = tt
found_output outputs id (Some o) h = (h.0, (h.1, h.2, h.3 o.now))

pub found_none : (outputs : List Unspent) (id : List ℕ) (found : Option (Bor Unspent)) → Finds outputs id found → (IsNone found ↔ (Contains (output_ids outputs) id → ⊥))
found_none outputs id None h = (λ e. nowhere_mapped (λ o. o.id) id outputs h, λ n. refl)
found_none outputs id (Some o) h = (λ e. absurd (differ e), λ n. absurd (n there))
  where
    differ : IsNone (Some o) → ⊥
    differ e = cc

    there : Contains (output_ids outputs) id
    there = there_mapped (λ x. x.id) id outputs (h.1, h.2, λ d. (ap (λ (x : Unspent). x.id) (h.3 d) ∙ h.0))
