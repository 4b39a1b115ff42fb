-- What is decided: equal bytes and numbers, what lists have among their members, and what is put together of these.
-- Laws with their proofs.
use Rattle.std.specs.Prelude.{◌≡◌, ◌≢◌, ◌⊎◌, ◌<◌, ◌≤◌, ◌==◌, ℕ, zero, suc, Bool, true, false, not, List, [], ◌∷◌}
use Rattle.std.specs.Prelude.{IsTrue}
use Rattle.std.specs.Prelude.{bytes_eq, Contains, refl}
use Rattle.std.specs.Bool.{Decides}
use Rattle.std.proofs.Common.{sym, ap, ◌∙◌, inl, inr, arith}
use Rattle.std.proofs.lemmas.Bool.{cases_lt}
use Rattle.std.proofs.lemmas.Bool.Decides.{Decides-eqb}
use Rattle.std.proofs.lemmas.Slice.Eq.{bytes_eq-Decides}

-- a test that failed did not pass
pub failed : IsTrue false → ⊥
failed e = cc

abbrev pub Decided : Type 0 → Type 0
Decided P = P ⊎ (P → ⊥)

decided_by : (P : Type 0) (r : Bool) → Decides r P → Decided P
decided_by P true d = inl (d.0 refl)
decided_by P false d = inr (λ p. failed (d.1 p))

pub bytes_decided : (a b : List ℕ) → Decided (a ≡ b)
bytes_decided a b = decided_by (a ≡ b) (bytes_eq a b) (bytes_eq-Decides a b)

-- what a test of two strings of bytes says
pub same_bytes : (a b : List ℕ) (t : Bool) → t ≡ bytes_eq a b → t ≡ true → a ≡ b
same_bytes a b t is e = (bytes_eq-Decides a b).0 (sym is ∙ e)

pub other_bytes : (a b : List ℕ) (t : Bool) → t ≡ bytes_eq a b → t ≡ false → a ≢ b
other_bytes a b t is e same = failed (sym e ∙ is ∙ (bytes_eq-Decides a b).1 same)

-- what a test that two strings of bytes differ says
pub others_where_not : (a b : List ℕ) (t : Bool) → t ≡ not (bytes_eq a b) → t ≡ true → a ≢ b
others_where_not a b t is e same = failed (sym (is ∙ ap not ((bytes_eq-Decides a b).1 same)) ∙ e)

not_false : (r : Bool) → not r ≡ false → r ≡ true
not_false true e = refl
not_false false e = absurd (failed (sym e))

pub same_where_not : (a b : List ℕ) (t : Bool) → t ≡ not (bytes_eq a b) → t ≡ false → a ≡ b
same_where_not a b t is e = (bytes_eq-Decides a b).0 (not_false (bytes_eq a b) (sym is ∙ e))

-- ---- what is put together of what is decided

pub nat_decided : (m n : ℕ) → Decided (m ≡ n)
nat_decided m n = decided_by (m ≡ n) (m == n) (Decides-eqb m n)

pub lt_decided : (m n : ℕ) → Decided (m < n)
lt_decided m n = elim (cases_lt m n) [
  | inl less ↦ inl less
  | inr le ↦ inr (λ less. absurd (omega arith))
]

pub le_decided : (m n : ℕ) → Decided (m ≤ n)
le_decided m n = elim (cases_lt n m) [
  | inl less ↦ inr (λ le. absurd (omega arith))
  | inr le ↦ inl le
]

pub nil_decided : {X : Type 0} (xs : List X) → Decided (xs ≡ [])
nil_decided [] = inl refl
nil_decided (x ∷ xs) = inr (λ e. cc)

pub not_decided : {P : Type 0} → Decided P → Decided (P → ⊥)
not_decided (inl p) = inr (λ n. n p)
not_decided (inr n) = inl n

pub both_decided : {P Q : Type 0} → Decided P → Decided Q → Decided (P × Q)
both_decided (inl p) (inl q) = inl (p, q)
both_decided (inl p) (inr n) = inr (λ h. n h.1)
both_decided (inr n) q = inr (λ h. n h.0)

neither : {P Q : Type 0} → (P → ⊥) → (Q → ⊥) → P ⊎ Q → ⊥
neither n m (inl p) = n p
neither n m (inr q) = m q

pub or_decided : {P Q : Type 0} → Decided P → Decided Q → Decided (P ⊎ Q)
or_decided (inl p) q = inl (inl p)
or_decided (inr n) (inl q) = inl (inr q)
or_decided (inr n) (inr m) = inr (neither n m)

pub stable : {P : Type 0} → Decided P → ((P → ⊥) → ⊥) → P
stable (inl p) h = p
stable (inr n) h = absurd (h n)

-- ---- members

head_differs : {X : Type 0} (x y : X) (xs : List X) → (y ≡ x → ⊥) → (Contains xs x → ⊥) → Contains (y ∷ xs) x → ⊥
head_differs x y xs n none (zero, l, e) = n e
head_differs x y xs n none (suc k, l, e) = none (k, omega (arith, l), e)

later_member : {X : Type 0} (x y : X) (xs : List X) → Contains xs x → Contains (y ∷ xs) x
later_member x y xs h = (suc h.0, omega (arith, h.1), h.2)

pub contains_decided : {X : Type 0} → ((a b : X) → Decided (a ≡ b)) → (xs : List X) (x : X) → Decided (Contains xs x)
contains_decided same [] x = inr (λ h. absurd (omega (arith, h.1)))
contains_decided same (y ∷ xs) x = elim (same y x) [
  | inl e ↦ inl (0, omega arith, e)
  | inr n ↦ (elim (contains_decided same xs x) [
    | inl h ↦ inl (later_member x y xs h)
    | inr none ↦ inr (head_differs x y xs n none)
  ])
]
