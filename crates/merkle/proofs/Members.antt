-- Members of lists, and of what a test keeps of them.
use Rattle.std.proofs.Common.{◌≡◌, ℕ, zero, suc, ◌<◌, Bool, true, false, cond, List, [], ◌∷◌, length, refl, inl, inr, sym, ◌∙◌, ap, subst, arith}
use Rattle.std.specs.Prelude.{◌⊎◌, Contains, slice_index_or}
use Rattle.std.specs.List.{AllByRecursion, filter}
use Rattle.std.proofs.lemmas.List.Elements.{All-contains, All-contains_itself, All-filter, filter_passes}

module _ {X : Type 0} where
  pub in_head : (x : X) (xs : List X) → Contains (x ∷ xs) x
  in_head x xs = (0, omega arith, refl)

  pub in_tail : (x y : X) (xs : List X) → Contains xs y → Contains (x ∷ xs) y
  in_tail x y xs c = (suc c.0, omega (arith, c.1), c.2)

  pub in_nothing : (y : X) → Contains [] y → ⊥
  in_nothing y c = omega (arith, c.1)

  pub in_cases : (x y : X) (xs : List X) → Contains (x ∷ xs) y → (x ≡ y) ⊎ Contains xs y
  in_cases x y xs c = at_place c.0 c.1 c.2
    where
      at_place : (k : ℕ) → k < length (x ∷ xs) → slice_index_or (x ∷ xs) k y ≡ y → (x ≡ y) ⊎ Contains xs y
      at_place zero l e = inl e
      at_place (suc k) l e = inr (k, omega (arith, l), e)

  pub zipped : (P Q : X → Type 0) (ys : List X) → AllByRecursion P ys → ((y : X) → Contains ys y → P y → Q y) → AllByRecursion Q ys
  zipped P Q [] all f = tt
  zipped P Q (y ∷ ys) all f = (f y (in_head y ys) all.0, zipped P Q ys all.1 (λ z c. f z (in_tail y z ys c)))

  -- ---- what a test keeps

  module _ (p : X → Bool) where
    pub in_all : (xs : List X) (y : X) → Contains (filter p xs) y → Contains xs y
    in_all xs y c = All-contains (Contains xs) (filter p xs) y (All-filter p (Contains xs) xs (All-contains_itself xs)) c

    pub passes : (xs : List X) (y : X) → Contains (filter p xs) y → p y ≡ true
    passes xs y c = All-contains (λ x. p x ≡ true) (filter p xs) y (filter_passes p xs) c

    keeps_head : (x y : X) (xs : List X) → x ≡ y → p y ≡ true → Contains (filter p (x ∷ xs)) y
    keeps_head x y xs e h =
        let kept : p x ≡ true = ap p e ∙ h in
        subst (λ (b : Bool). Contains (cond b (x ∷ filter p xs) (filter p xs)) y) (sym kept)
        (subst (λ (z : X). Contains (z ∷ filter p xs) y) (sym e) (in_head y (filter p xs)))

    keeps_tail : (b : Bool) (x y : X) (kept : List X) → Contains kept y → Contains (cond b (x ∷ kept) kept) y
    keeps_tail true x y kept c = in_tail x y kept c
    keeps_tail false x y kept c = c

    pub keeps : (xs : List X) (y : X) → Contains xs y → p y ≡ true → Contains (filter p xs) y
    keeps [] y c h = absurd (in_nothing y c)
    keeps (x ∷ xs) y c h = elim (in_cases x y xs c) [
      | inl e ↦ keeps_head x y xs e h
      | inr d ↦ keeps_tail (p x) x y (filter p xs) (keeps xs y d h)
    ]
