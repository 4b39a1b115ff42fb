-- Ids that are found one after the other.
use Rattle.std.proofs.Common.{◌≡◌, ℕ, zero, suc, ◌+◌, List, [], ◌∷◌, ◌++◌, take, Some, sym, ap, ◌∙◌, append_assoc, append-nil, add-one, arith}
use Rattle.std.specs.Prelude.{map, slice_get}
use Rattle.std.specs.List.{concat, enumerate_from}
use Rattle.wire.specs.Lists.{StandsAt}

-- ---- ids, one after the other

pub mapped_at : {X Y : Type 0} (f : X → Y) (xs : List X) (i : ℕ) (x : X) → StandsAt xs i x → slice_get (map f xs) i ≡ Some (f x)
mapped_at f [] i x s = absurd (omega (arith, s.there))
mapped_at f (y ∷ xs) zero x s = ap (λ z. Some (f z)) (sym s.is)
mapped_at f (y ∷ xs) (suc i) x s = mapped_at f xs i x (record { there = omega (arith, s.there); is = s.is })

module _ {X Y : Type 0} (f : ℕ → X → Y) where
  abbrev counted : ℕ → List X → List Y
  counted n xs = map (λ x. f x.0 x.1) (enumerate_from n xs)

  next_from : (n : ℕ) (xs : List X) (i : ℕ) (x : X) → StandsAt xs i x → counted n (take (suc i) xs) ≡ counted n (take i xs) ++ f (n + i) x ∷ []
  next_from n [] i x s = absurd (omega (arith, s.there))
  next_from n (y ∷ xs) zero x s = (let e : n ≡ n + 0 = omega arith in ap (λ z. f n z ∷ []) (sym s.is) ∙ ap (λ k. f k x ∷ []) e)
  next_from n (y ∷ xs) (suc i) x s =
      let e : (n + 1) + i ≡ n + suc i = omega arith in
      ap (λ ys. f n y ∷ ys) (next_from (n + 1) xs i x (record { there = omega (arith, s.there); is = s.is }))
      ∙ ap (λ k. f n y ∷ (counted (n + 1) (take i xs) ++ f k x ∷ [])) e

  pub next_counted : (xs : List X) (i : ℕ) (x : X) → StandsAt xs i x → counted 0 (take (i + 1) xs) ≡ counted 0 (take i xs) ++ f i x ∷ []
  next_counted xs i x s =
      let e : 0 + i ≡ i = omega arith in
      rw add-one (next_from 0 xs i x s ∙ ap (λ k. counted 0 (take i xs) ++ f k x ∷ []) e)

  at_from : (n : ℕ) (xs : List X) (i : ℕ) (x : X) → StandsAt xs i x → slice_get (counted n xs) i ≡ Some (f (n + i) x)
  at_from n [] i x s = absurd (omega (arith, s.there))
  at_from n (y ∷ xs) zero x s = (let e : n ≡ n + 0 = omega arith in ap (λ z. Some (f n z)) (sym s.is) ∙ ap (λ k. Some (f k x)) e)
  at_from n (y ∷ xs) (suc i) x s =
      let e : (n + 1) + i ≡ n + suc i = omega arith in
      at_from (n + 1) xs i x (record { there = omega (arith, s.there); is = s.is }) ∙ ap (λ k. Some (f k x)) e

  pub counted_at : (xs : List X) (i : ℕ) (x : X) → StandsAt xs i x → slice_get (counted 0 xs) i ≡ Some (f i x)
  counted_at xs i x s =
      let e : 0 + i ≡ i = omega arith in
      at_from 0 xs i x s ∙ ap (λ k. Some (f k x)) e

pub concat_more : (ids : List (List ℕ)) (id : List ℕ) → concat (ids ++ id ∷ []) ≡ concat ids ++ id
concat_more [] id = append-nil id
concat_more (x ∷ ids) id = ap (λ rest. x ++ rest) (concat_more ids id) ∙ sym (append_assoc x (concat ids) id)
