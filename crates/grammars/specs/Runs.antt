-- The longest front of a text whose bytes pass a test, and what is after it. Laws with their proofs.
use Rattle.std.proofs.Common.{◌≡◌, ◌≤◌, ◌+◌, ℕ, zero, suc, Bool, true, false, List, [], ◌∷◌, ◌++◌}
use Rattle.std.proofs.Common.{inl, inr, length, take, drop, refl, ap, ◌∙◌, arith}
use Rattle.std.specs.List.{list_all, prefix_len}
use Rattle.grammars.specs.Tokens.{StopsAt}
use Rattle.std.proofs.lemmas.Bool.{cases_Bool, cond-true, cond-false, and_parts, and_from}

one_more : (n : ℕ) → 1 + n ≡ suc n
one_more n = omega arith

pub prefix_yes : (p : ℕ → Bool) (b : ℕ) (rest : List ℕ) → p b ≡ true → prefix_len p (b ∷ rest) ≡ suc (prefix_len p rest)
prefix_yes p b rest e = cond-true _ _ _ e ∙ one_more (prefix_len p rest)

pub prefix_no : (p : ℕ → Bool) (b : ℕ) (rest : List ℕ) → p b ≡ false → prefix_len p (b ∷ rest) ≡ 0
prefix_no p b rest e = cond-false _ _ _ e

pub run_passes : (p : ℕ → Bool) (xs : List ℕ) → list_all p (take (prefix_len p xs) xs) ≡ true
run_passes p [] = refl
run_passes p (b ∷ rest) =
    elim (cases_Bool (p b)) [
      | inl e ↦ ap (λ n. list_all p (take n (b ∷ rest))) (prefix_yes p b rest e) ∙ and_from _ _ e (run_passes p rest)
      | inr e ↦ ap (λ n. list_all p (take n (b ∷ rest))) (prefix_no p b rest e)
    ]

pub run_stops : (p : ℕ → Bool) (xs : List ℕ) → StopsAt p (drop (prefix_len p xs) xs)
run_stops p [] = tt
run_stops p (b ∷ rest) =
    elim (cases_Bool (p b)) [
      | inl e ↦ rw (prefix_yes p b rest e) (run_stops p rest)
      | inr e ↦ rw (prefix_no p b rest e) e
    ]

pub run_over : (p : ℕ → Bool) (xs ys : List ℕ) → list_all p xs ≡ true
    → prefix_len p (xs ++ ys) ≡ length xs + prefix_len p ys
run_over p [] ys e = omega arith
run_over p (b ∷ xs) ys e =
    let parts = and_parts (p b) (list_all p xs) e in
    let more : prefix_len p (xs ++ ys) ≡ length xs + prefix_len p ys = run_over p xs ys parts.1 in
    prefix_yes p b (xs ++ ys) parts.0 ∙ omega (arith, more)

pub run_ends : (p : ℕ → Bool) (ys : List ℕ) → StopsAt p ys → prefix_len p ys ≡ 0
run_ends p [] h = refl
run_ends p (b ∷ ys) h = prefix_no p b ys h

pub all_front : (p : ℕ → Bool) (n m : ℕ) (xs : List ℕ) → n ≤ m → list_all p (take m xs) ≡ true
    → list_all p (take n xs) ≡ true
all_front p zero m xs h e = refl
all_front p (suc n) zero xs h e = absurd (omega arith)
all_front p (suc n) (suc m) [] h e = refl
all_front p (suc n) (suc m) (b ∷ xs) h e =
    let parts = and_parts (p b) (list_all p (take m xs)) e in
    and_from _ _ parts.0 (all_front p n m xs (omega arith) parts.1)
