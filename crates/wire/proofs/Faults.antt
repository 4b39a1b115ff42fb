-- When each fault of a number comes.
use Rattle.std.proofs.Common.{◌≡◌, ℕ, zero, suc, ◌+◌, ◌-◌, ◌*◌, ◌≤◌, ◌<◌, Bool, true, false, cond, eqb, List, [], ◌∷◌, length, get_or, Ok, Err, Some, refl, sym, ap, ◌∙◌, inl, inr, arith}
use Rattle.std.specs.Prelude.{slice_get, ◌⊎◌}
use Rattle.std.proofs.lemmas.Bool.{cases_lt, eqb-true}
use Rattle.wire.specs.declared.fault.WireFault.{WireFault}
use Rattle.wire.specs.declared.fault.WireFault.TheVariants.{Short, NotShortest, TooBig}
use Rattle.wire.specs.Reading.{Read, low_group, groups_at, HighFront}
use Rattle.wire.proofs.Groups.{read, failed, same_read, low_group-ok, groups_at-nil, groups_at-low, groups_at-last, groups_at-high}

-- ---- high bytes at the front

front_first : (n b : ℕ) (rest : List ℕ) → HighFront (suc n) (b ∷ rest) → 128 ≤ b
front_first n b rest h = h.1 0 (omega arith)

front_rest : (n b : ℕ) (rest : List ℕ) → HighFront (suc n) (b ∷ rest) → HighFront n rest
front_rest n b rest h = (omega (arith, h.0), λ i lt. h.1 (suc i) (omega arith))

each_more : (n b : ℕ) (rest : List ℕ) → 128 ≤ b → ((i : ℕ) → i < n → 128 ≤ get_or rest i 0) → (i : ℕ) → i < suc n → 128 ≤ get_or (b ∷ rest) i 0
each_more n b rest high each zero lt = high
each_more n b rest high each (suc i) lt = each i (omega arith)

front_more : (n b : ℕ) (rest : List ℕ) → 128 ≤ b → HighFront n rest → HighFront (suc n) (b ∷ rest)
front_more n b rest high h = (omega (arith, h.0), each_more n b rest high h.1)

front_none : (bytes : List ℕ) → HighFront 0 bytes
front_none bytes = (omega arith, λ i lt. absurd (omega arith))

-- ---- what a fault after a high byte is

low_err : {A : Type 0} (t : Bool) (e : WireFault) (x : A) (rest : List ℕ) → cond t (failed NotShortest) (read x rest) ≡ failed e → (t ≡ true) × (NotShortest ≡ e)
low_err true e x rest h = (refl, cc)
low_err false e x rest h = absurd cc

low_group-err : (b : ℕ) (e : WireFault) (r : Read ℕ) → low_group b r ≡ Err e → (r ≡ Err e) ⊎ ((rest : List ℕ) × (r ≡ Ok (0, rest)) × (NotShortest ≡ e))
low_group-err b e (Ok x) h =
    let parts = low_err (eqb x.0 0) e (b - 128 + 128 * x.0) x.1 h in
    inr (x.1, ap (λ (n : ℕ). read n x.1) (eqb-true x.0 0 parts.0), parts.1)
low_group-err b e (Err f) h = inl h

-- a fault other than NotShortest stands after the high byte
passes : (b : ℕ) (e : WireFault) (r : Read ℕ) → (NotShortest ≡ e → ⊥) → low_group b r ≡ Err e → r ≡ Err e
passes b e r other h =
    elim (low_group-err b e r h) [
      | inl same ↦ same
      | inr zero_read ↦ absurd (other zero_read.2)
    ]

-- zero is read from its one byte alone
zero_read : (k : ℕ) (bytes rest : List ℕ) → groups_at k bytes ≡ Ok (0, rest) → bytes ≡ 0 ∷ rest
zero_read k [] rest e = absurd (let nil = groups_at-nil k in cc)
zero_read zero (b ∷ bytes) rest e =
    elim (cases_lt b 128) [
      | inl lt ↦ (let same = same_read b 0 bytes rest (sym (groups_at-low zero b bytes lt) ∙ e) in ap (λ (x : ℕ). x ∷ bytes) same.0 ∙ ap (λ (s : List ℕ). 0 ∷ s) same.1)
      | inr le ↦ absurd (let last = groups_at-last b bytes le in cc)
    ]
zero_read (suc k) (b ∷ bytes) rest e =
    elim (cases_lt b 128) [
      | inl lt ↦ (let same = same_read b 0 bytes rest (sym (groups_at-low (suc k) b bytes lt) ∙ e) in ap (λ (x : ℕ). x ∷ bytes) same.0 ∙ ap (λ (s : List ℕ). 0 ∷ s) same.1)
      | inr le ↦ (let parts = low_group-ok b 0 (groups_at k bytes) rest (sym (groups_at-high k b bytes le) ∙ e) in let some : 0 < parts.0 = parts.2 in let value : b - 128 + 128 * parts.0 ≡ 0 = parts.3 in absurd (omega arith))
    ]

-- ---- TooBig

pub too_big_is : (k : ℕ) (bytes : List ℕ) → groups_at k bytes ≡ Err TooBig → HighFront (suc k) bytes
too_big_is k [] e = absurd (let nil = groups_at-nil k in cc)
too_big_is zero (b ∷ bytes) e =
    elim (cases_lt b 128) [
      | inl lt ↦ absurd (let low = groups_at-low zero b bytes lt in cc)
      | inr le ↦ front_more 0 b bytes le (front_none bytes)
    ]
too_big_is (suc k) (b ∷ bytes) e =
    elim (cases_lt b 128) [
      | inl lt ↦ absurd (let low = groups_at-low (suc k) b bytes lt in cc)
      | inr le ↦ front_more (suc k) b bytes le (too_big_is k bytes (passes b TooBig (groups_at k bytes) (λ h. cc) (sym (groups_at-high k b bytes le) ∙ e)))
    ]

pub too_big_again : (k : ℕ) (bytes : List ℕ) → HighFront (suc k) bytes → groups_at k bytes ≡ Err TooBig
too_big_again k [] h = absurd (omega (arith, h.0))
too_big_again zero (b ∷ bytes) h = groups_at-last b bytes (front_first 0 b bytes h)
too_big_again (suc k) (b ∷ bytes) h =
    groups_at-high k b bytes (front_first (suc k) b bytes h) ∙ ap (λ (r : Read ℕ). low_group b r) (too_big_again k bytes (front_rest (suc k) b bytes h))

-- ---- Short

pub short_is : (k : ℕ) (bytes : List ℕ) → groups_at k bytes ≡ Err Short → (length bytes < suc k) × HighFront (length bytes) bytes
short_is k [] e = (omega arith, front_none [])
short_is zero (b ∷ bytes) e =
    elim (cases_lt b 128) [
      | inl lt ↦ absurd (let low = groups_at-low zero b bytes lt in cc)
      | inr le ↦ absurd (let last = groups_at-last b bytes le in cc)
    ]
short_is (suc k) (b ∷ bytes) e =
    elim (cases_lt b 128) [
      | inl lt ↦ absurd (let low = groups_at-low (suc k) b bytes lt in cc)
      | inr le ↦ (let h = short_is k bytes (passes b Short (groups_at k bytes) (λ h. cc) (sym (groups_at-high k b bytes le) ∙ e)) in (omega (arith, h.0), front_more (length bytes) b bytes le h.1))
    ]

pub short_again : (k : ℕ) (bytes : List ℕ) → length bytes < suc k → HighFront (length bytes) bytes → groups_at k bytes ≡ Err Short
short_again k [] lt h = groups_at-nil k
short_again zero (b ∷ bytes) lt h = absurd (omega arith)
short_again (suc k) (b ∷ bytes) lt h =
    groups_at-high k b bytes (front_first (length bytes) b bytes h) ∙ ap (λ (r : Read ℕ). low_group b r) (short_again k bytes (omega arith) (front_rest (length bytes) b bytes h))

-- ---- NotShortest

abbrev pub EndsInZero : ℕ → ℕ → List ℕ → Type 0
EndsInZero n k bytes = (0 < n) × (n < suc k) × HighFront n bytes × (slice_get bytes n ≡ Some 0)

pub not_shortest_is : (k : ℕ) (bytes : List ℕ) → groups_at k bytes ≡ Err NotShortest → (n : ℕ) × EndsInZero n k bytes
not_shortest_is k [] e = absurd (let nil = groups_at-nil k in cc)
not_shortest_is zero (b ∷ bytes) e =
    elim (cases_lt b 128) [
      | inl lt ↦ absurd (let low = groups_at-low zero b bytes lt in cc)
      | inr le ↦ absurd (let last = groups_at-last b bytes le in cc)
    ]
not_shortest_is (suc k) (b ∷ bytes) e =
    elim (cases_lt b 128) [
      | inl lt ↦ absurd (let low = groups_at-low (suc k) b bytes lt in cc)
      | inr le ↦
          elim (low_group-err b NotShortest (groups_at k bytes) (sym (groups_at-high k b bytes le) ∙ e)) [
            | inl same ↦ (let h = not_shortest_is k bytes same in (suc h.0, (omega arith, omega (arith, h.1.1), front_more h.0 b bytes le h.1.2, h.1.3)))
            | inr none ↦ (1, (omega arith, omega arith, front_more 0 b bytes le (front_none bytes), ap (λ (s : List ℕ). slice_get s 0) (zero_read k bytes none.0 none.1)))
          ]
    ]

first_zero : (bytes : List ℕ) → slice_get bytes 0 ≡ Some 0 → (rest : List ℕ) × (bytes ≡ 0 ∷ rest)
first_zero [] e = absurd cc
first_zero (b ∷ rest) e = (rest, cc)

pub not_shortest_again : (n k : ℕ) (bytes : List ℕ) → EndsInZero n k bytes → groups_at k bytes ≡ Err NotShortest
not_shortest_again zero k bytes h = absurd (omega (arith, h.0))
not_shortest_again (suc n) k [] h = absurd (omega (arith, h.2.0))
not_shortest_again (suc n) zero (b ∷ bytes) h = absurd (omega (arith, h.1))
not_shortest_again (suc zero) (suc k) (b ∷ bytes) h =
    let first = first_zero bytes h.3 in
    let read_zero : groups_at k bytes ≡ Ok (0, first.0) = ap (groups_at k) first.1 ∙ groups_at-low k 0 first.0 (omega arith) in
    groups_at-high k b bytes (front_first 0 b bytes h.2) ∙ ap (λ (r : Read ℕ). low_group b r) read_zero
not_shortest_again (suc (suc n)) (suc k) (b ∷ bytes) h =
    groups_at-high k b bytes (front_first (suc n) b bytes h.2) ∙ ap (λ (r : Read ℕ). low_group b r) (not_shortest_again (suc n) k bytes (omega arith, omega (arith, h.1), front_rest (suc n) b bytes h.2, h.3))
