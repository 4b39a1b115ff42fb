-- What is looked for and not found, one place after the other; members of lists.
use Rattle.std.proofs.Common.{◌≡◌, ℕ, zero, suc, ◌+◌, ◌<◌, ◌≤◌, List, [], ◌∷◌, length, get_or, take, Some, None, refl, sym, ◌∙◌, ap, subst, inl, inr, arith}
use Rattle.std.specs.Prelude.{◌⊎◌, slice_get, Contains, map, option_map}
use Rattle.std.proofs.lemmas.Option.{slice_get_within, get_or_from_slice_get, slice_get-get_or, slice_get-map}
use Rattle.std.proofs.lemmas.Bool.{cases_lt}
use Rattle.std.proofs.lemmas.List.{length-take, length-map}
use Rattle.wire.specs.Tables.{HoldsNot, Cause}
use Rattle.tx_check.specs.FirstPlaces.{NoneBelow}
use Rattle.wire.specs.Lists.{StandsAt, got, one_there}

-- it holds of none of so many at the front
abbrev pub NotBelow : {X : Type 0} → (X → Type 0) → List X → ℕ → Type 0
NotBelow {X} P xs n = (k : ℕ) (x : X) → k < n → slice_get xs k ≡ Some x → P x → ⊥

module _ {X : Type 0} (P : X → Type 0) where
  pub not_at_start : (xs : List X) → NotBelow P xs 0
  not_at_start xs k x l e h = absurd (omega (arith, l))

  next_not : (xs : List X) (i k : ℕ) (x y : X) → NotBelow P xs i → StandsAt xs i x → (P x → ⊥) → slice_get xs k ≡ Some y → (k < i) ⊎ (i ≡ k) → P y → ⊥
  next_not xs i k x y none s not e (inl less) h = none k y less e h
  next_not xs i k x y none s not e (inr same) h =
      let there : slice_get xs i ≡ Some y = ap (slice_get xs) same ∙ e in
      not (subst P (one_there xs i x y (got xs i x s) there) h)

  pub not_more : (xs : List X) (i : ℕ) (x : X) → NotBelow P xs i → StandsAt xs i x → (P x → ⊥) → NotBelow P xs (i + 1)
  not_more xs i x none s not k y l e h =
      next_not xs i k x y none s not e (elim (cases_lt k i) [
        | inl less ↦ inl less
        | inr le ↦ inr (omega arith)
      ]) h

  pub not_anywhere : (xs : List X) (n : ℕ) → length xs ≤ n → NotBelow P xs n → (k : ℕ) (x : X) → slice_get xs k ≡ Some x → P x → ⊥
  not_anywhere xs n past none k x e h =
      let within : k < length xs = slice_get_within xs k x e in
      let below : k < n = omega arith in
      none k x below e h

  pub not_along : {xs slice : List X} → slice ≡ xs → (n : ℕ) → length slice ≤ n → NotBelow P slice n → (k : ℕ) (x : X) → slice_get xs k ≡ Some x → P x → ⊥
  not_along {xs} {slice} same n past none k x e h = not_anywhere slice n past none k x (ap (λ (zs : List X). slice_get zs k) same ∙ e) h

pub got_along : {X : Type 0} {xs slice : List X} {i : ℕ} {x : X} → slice ≡ xs → StandsAt slice i x → slice_get xs i ≡ Some x
got_along {X} {xs} {slice} {i} {x} same s = ap (λ (zs : List X). slice_get zs i) (sym same) ∙ got slice i x s

-- ---- members

pub contains_at : {X : Type 0} (xs : List X) (k : ℕ) (x : X) → slice_get xs k ≡ Some x → Contains xs x
contains_at xs k x e = (k, slice_get_within xs k x e, get_or_from_slice_get xs k x x e)

pub place_of : {X : Type 0} (xs : List X) (x : X) → Contains xs x → (k : ℕ) × (slice_get xs k ≡ Some x)
place_of xs x h = (h.0, slice_get-get_or xs h.0 x h.1 ∙ ap (λ (y : _). Some y) h.2)

-- none of the elements is this one
pub not_contained : {X : Type 0} (xs : List X) (x : X) (n : ℕ) → length xs ≤ n → NotBelow (λ y. y ≡ x) xs n → Contains xs x → ⊥
not_contained xs x n past none h =
    let at = place_of xs x h in
    not_anywhere (λ y. y ≡ x) xs n past none at.0 x at.1 refl

-- one of them is
pub contained : {X : Type 0} (xs : List X) (i : ℕ) (x y : X) → StandsAt xs i y → y ≡ x → Contains xs x
contained xs i x y s e = contains_at xs i x (got xs i y s ∙ ap (λ (z : _). Some z) e)

module _ {X Y : Type 0} (f : X → Y) where
  pub map_at : (xs : List X) (k : ℕ) (x : X) → slice_get xs k ≡ Some x → slice_get (map f xs) k ≡ Some (f x)
  map_at xs k x e = slice_get-map f xs k ∙ ap (option_map f) e

  pub from_map : (xs : List X) (k : ℕ) (y : Y) → slice_get (map f xs) k ≡ Some y → (x : X) × (slice_get xs k ≡ Some x) × (f x ≡ y)
  from_map [] k y e = absurd (nothing e)
    where
      nothing : {Z : Type 0} {z : Z} → None ≡ Some z → ⊥
      nothing e = cc
  from_map (x ∷ xs) zero y e = (x, refl, same e)
    where
      same : {Z : Type 0} {a b : Z} → Some a ≡ Some b → a ≡ b
      same e = cc
  from_map (x ∷ xs) (suc k) y e = from_map xs k y e

  pub in_map : (xs : List X) (i : ℕ) (y : Y) (x : X) → StandsAt xs i x → f x ≡ y → Contains (map f xs) y
  in_map xs i y x s e = contains_at (map f xs) i y (map_at xs i x (got xs i x s) ∙ ap (λ (z : Y). Some z) e)

  pub not_in_map : (xs : List X) (y : Y) (n : ℕ) → length xs ≤ n → NotBelow (λ x. f x ≡ y) xs n → Contains (map f xs) y → ⊥
  not_in_map xs y n past none h =
      let at = place_of (map f xs) y h in
      let from = from_map xs at.0 y at.1 in
      not_anywhere (λ x. f x ≡ y) xs n past none at.0 from.0 from.1 from.2

  -- what is read at the place of one element is what it is mapped to
  pub mapped_read : (xs slice : List X) (ys : List Y) (i : ℕ) (x : X) (d : Y) → slice ≡ xs → ys ≡ map f xs → StandsAt slice i x → get_or ys i d ≡ f x
  mapped_read xs slice ys i x d same e s =
      get_or_from_slice_get ys i (f x) d (ap (λ (zs : List Y). slice_get zs i) e ∙ map_at xs i x (got_along same s))

slice_get_take : {Y : Type 0} (n : ℕ) (ys : List Y) (i : ℕ) → i < n → slice_get (take n ys) i ≡ slice_get ys i
slice_get_take zero ys i l = absurd (omega (arith, l))
slice_get_take (suc n) [] i l = refl
slice_get_take (suc n) (y ∷ ys) zero l = refl
slice_get_take (suc n) (y ∷ ys) (suc i) l = slice_get_take n ys i (omega (arith, l))

-- what stands in a list at one of its first places stands there in its front
pub take_has : {X : Type 0} (k : ℕ) (xs : List X) (j : ℕ) (x : X) → j < k → slice_get xs j ≡ Some x → slice_get (take k xs) j ≡ Some x
take_has k xs j x less e = slice_get_take k xs j less ∙ e

-- what stands in the front of a list stands there in the list
pub get_in_take : {X : Type 0} (k : ℕ) (xs : List X) (j : ℕ) (x : X) → slice_get (take k xs) j ≡ Some x → (j < k) × (slice_get xs j ≡ Some x)
get_in_take k xs j x e =
    let within : j < length (take k xs) = slice_get_within (take k xs) j x e in
    let short : length (take k xs) ≤ k = simp length-take (omega arith) in
    let less : j < k = omega arith in
    (less, sym (slice_get_take k xs j less) ∙ e)

-- a cause that holds of none of the values at the front does not hold of one that is among them
pub known : {R X Y : Type 0} (cause : Y → Cause R) (f : X → Y) (xs slice : List X) (k : ℕ) (y : Y) → slice ≡ xs → NoneBelow (λ n z. cause z) (map f xs) k → Contains (map f (take k slice)) y → HoldsNot (cause y)
known {R} {X} {Y} cause f xs slice k y same none h =
    let at = place_of (map f (take k slice)) y h in
    let from = from_map f (take k slice) at.0 y at.1 in
    let there = get_in_take k slice at.0 from.0 from.1 in
    let in_xs : slice_get xs at.0 ≡ Some from.0 = ap (λ (zs : List X). slice_get zs at.0) (sym same) ∙ there.1 in
    subst (λ (z : Y). HoldsNot (cause z)) from.2 (none at.0 (f from.0) there.0 (map_at f xs at.0 from.0 in_xs))

-- along a slice, by what each element is mapped to
pub map_along : {X Y : Type 0} {xs slice : List X} {i : ℕ} {x : X} {y : Y} (f : X → Y) → slice ≡ xs → StandsAt slice i x → y ≡ f x → slice_get (map f xs) i ≡ Some y
map_along {X} {Y} {xs} {slice} {i} {x} {y} f same s e = map_at f xs i x (got_along same s) ∙ ap (λ (z : Y). Some z) (sym e)

pub map_long : {X Y : Type 0} {xs slice : List X} (f : X → Y) (n : ℕ) → slice ≡ xs → length slice ≤ n → length (map f xs) ≤ n
map_long {X} {Y} {xs} {slice} f n same l = rw length-map (subst (λ (zs : List X). length zs ≤ n) same l)
