-- Groups of seven bits: what is spelled is read again, and what is read was spelled so.
use Rattle.std.proofs.Common.{◌≡◌, ℕ, zero, suc, ◌+◌, ◌-◌, ◌*◌, ◌/◌, ◌%◌, ◌^◌, ◌≤◌, ◌<◌, Bool, true, false, cond, eqb, ltb, List, [], ◌∷◌, ◌++◌, Ok, Err, refl, sym, ap, ◌∙◌, inl, inr, arith}
use Rattle.std.proofs.lemmas.Bool.{cases_lt, lt-ltb, le-ltb, ne_eqb, eqb-false, cond-true, cond-false}
use Rattle.wire.specs.declared.fault.WireFault.{WireFault}
use Rattle.wire.specs.declared.fault.WireFault.TheVariants.{Short, NotShortest, TooBig}
use Rattle.wire.specs.Spelling.{AreBytes, limit, groups}
use Rattle.wire.specs.Reading.{Read, low_group, groups_at}

pub limit_some : (k : ℕ) → 128 ≤ limit k
limit_some zero = omega arith
limit_some (suc k) = omega (arith, limit_some k)

limit_at : (j k : ℕ) → k + j ≡ 7 → limit k ≤ 2 ^ 56
limit_at zero k e = let seven : k ≡ 7 = omega arith in rw seven (omega arith)
limit_at (suc j) k e = omega (arith, limit_at j (suc k) (omega arith))

-- of eight bytes and fewer
pub limit_below : (k : ℕ) → k < 8 → limit k ≤ 2 ^ 56
limit_below k h = limit_at (7 - k) k (omega arith)

pub groups-small : (k n : ℕ) → n < 128 → groups k n ≡ n ∷ []
unfolding groups
groups-small zero n h = refl
groups-small (suc k) n h = cond-true (ltb n 128) (n ∷ []) ((128 + n % 128) ∷ groups k (n / 128)) (lt-ltb n 128 h)

pub groups-large : (k n : ℕ) → 128 ≤ n → groups (suc k) n ≡ (128 + n % 128) ∷ groups k (n / 128)
unfolding groups
groups-large k n h = cond-false (ltb n 128) (n ∷ []) ((128 + n % 128) ∷ groups k (n / 128)) (le-ltb n 128 h)

-- one more group changes no number that has its groups
pub groups-more : (k n : ℕ) → n < limit k → groups (suc k) n ≡ groups k n
groups-more zero n h = groups-small 1 n h ∙ sym (groups-small 0 n h)
groups-more (suc k) n h =
    elim (cases_lt n 128) [
      | inl lt ↦ groups-small (suc (suc k)) n lt ∙ sym (groups-small (suc k) n lt)
      | inr le ↦ groups-large (suc k) n le ∙ ap (λ (x : List ℕ). (128 + n % 128) ∷ x) (groups-more k (n / 128) (omega arith)) ∙ sym (groups-large k n le)
    ]

pub groups_at-nil : (k : ℕ) → groups_at k [] ≡ Err Short
unfolding groups_at
groups_at-nil zero = refl
groups_at-nil (suc k) = refl

pub groups_at-low : (k b : ℕ) (rest : List ℕ) → b < 128 → groups_at k (b ∷ rest) ≡ Ok (b, rest)
unfolding groups_at
groups_at-low zero b rest h = cond-true (ltb b 128) (Ok (b, rest)) (Err TooBig) (lt-ltb b 128 h)
groups_at-low (suc k) b rest h = cond-true (ltb b 128) (Ok (b, rest)) (low_group b (groups_at k rest)) (lt-ltb b 128 h)

pub groups_at-last : (b : ℕ) (rest : List ℕ) → 128 ≤ b → groups_at 0 (b ∷ rest) ≡ Err TooBig
unfolding groups_at
groups_at-last b rest h = cond-false (ltb b 128) (Ok (b, rest)) (Err TooBig) (le-ltb b 128 h)

pub groups_at-high : (k b : ℕ) (rest : List ℕ) → 128 ≤ b → groups_at (suc k) (b ∷ rest) ≡ low_group b (groups_at k rest)
unfolding groups_at
groups_at-high k b rest h = cond-false (ltb b 128) (Ok (b, rest)) (low_group b (groups_at k rest)) (le-ltb b 128 h)

abbrev pub read : {A : Type 0} → A → List ℕ → Read A
read x rest = Ok (x, rest)

abbrev pub failed : {A : Type 0} → WireFault → Read A
failed e = Err e

abbrev done : {A : Type 0} → A × List ℕ → Read A
done x = Ok x

ok_is : {A : Type 0} (x y : A × List ℕ) → done x ≡ done y → x ≡ y
ok_is x y e = cc

pub same_read : {A : Type 0} (x y : A) (s t : List ℕ) → read x s ≡ read y t → (x ≡ y) × (s ≡ t)
same_read x y s t e =
    let pair = ok_is (x, s) (y, t) e in
    (ap (λ p. p.0) pair, ap (λ p. p.1) pair)

-- what is spelled is read again
pub groups_again : (k n : ℕ) (rest : List ℕ) → n < limit k → groups_at k (groups k n ++ rest) ≡ Ok (n, rest)
unfolding groups
groups_again zero n rest h = groups_at-low zero n rest h
groups_again (suc k) n rest h =
    elim (cases_lt n 128) [
      | inl lt ↦ rw (groups-small (suc k) n lt) (groups_at-low (suc k) n rest lt)
      | inr le ↦
          let again = groups_again k (n / 128) rest (omega arith) in
          let ne : eqb (n / 128) 0 ≡ false = ne_eqb (n / 128) 0 (λ e. omega arith) in
          let value : 128 + n % 128 - 128 + 128 * (n / 128) ≡ n = omega arith in
          rw (groups-large k n le)
          (groups_at-high k (128 + n % 128) (groups k (n / 128) ++ rest) (omega arith)
          ∙ ap (λ (r : Read ℕ). low_group (128 + n % 128) r) again
          ∙ cond-false (eqb (n / 128) 0) (failed NotShortest) (read (128 + n % 128 - 128 + 128 * (n / 128)) rest) ne
          ∙ ap (λ (x : ℕ). read x rest) value)
    ]

low_ok : (t : Bool) (n high : ℕ) (rest after : List ℕ) → cond t (failed NotShortest) (read high after) ≡ read n rest → (t ≡ false) × (high ≡ n) × (after ≡ rest)
low_ok true n high rest after e = absurd cc
low_ok false n high rest after e =
    let same = same_read high n after rest e in
    (refl, same.0, same.1)

-- a number of two bytes or more is its low group and the number after it
pub low_group-ok : (b n : ℕ) (r : Read ℕ) (rest : List ℕ) → low_group b r ≡ Ok (n, rest) → (high : ℕ) × (r ≡ Ok (high, rest)) × (0 < high) × (b - 128 + 128 * high ≡ n)
low_group-ok b n (Ok x) rest e =
    let parts = low_ok (eqb x.0 0) n (b - 128 + 128 * x.0) rest x.1 e in
    (x.0, ap (λ (after : List ℕ). read x.0 after) parts.2, (let ne = eqb-false x.0 0 parts.0 in omega arith), parts.1)
low_group-ok b n (Err f) rest e = absurd cc

AreBytes-rest : (b : ℕ) (bytes : List ℕ) → AreBytes (b ∷ bytes) → AreBytes bytes
AreBytes-rest b bytes h i = h (suc i)

-- what is read was spelled so
pub groups_spelled : (k : ℕ) (bytes : List ℕ) (n : ℕ) (rest : List ℕ) → AreBytes bytes → groups_at k bytes ≡ Ok (n, rest) → (n < limit k) × (bytes ≡ groups k n ++ rest) × AreBytes rest
groups_spelled k [] n rest fits e = absurd (let nil = groups_at-nil k in cc)
groups_spelled zero (b ∷ bytes) n rest fits e =
    elim (cases_lt b 128) [
      | inl lt ↦
          let same = same_read b n bytes rest (sym (groups_at-low zero b bytes lt) ∙ e) in
          let small : n < 128 = rw same.0 at lt in
          (small, rw (groups-small zero n small) (ap (λ (x : ℕ). x ∷ bytes) same.0 ∙ ap (λ (s : List ℕ). n ∷ s) same.1), rw same.1 at (AreBytes-rest b bytes fits))
      | inr le ↦ absurd (let last = groups_at-last b bytes le in cc)
    ]
groups_spelled (suc k) (b ∷ bytes) n rest fits e =
    elim (cases_lt b 128) [
      | inl lt ↦
          let same = same_read b n bytes rest (sym (groups_at-low (suc k) b bytes lt) ∙ e) in
          let small : n < 128 = rw same.0 at lt in
          (omega (arith, limit_some k), rw (groups-small (suc k) n small) (ap (λ (x : ℕ). x ∷ bytes) same.0 ∙ ap (λ (s : List ℕ). n ∷ s) same.1), rw same.1 at (AreBytes-rest b bytes fits))
      | inr le ↦
          let parts = low_group-ok b n (groups_at k bytes) rest (sym (groups_at-high k b bytes le) ∙ e) in
          let high = parts.0 in
          let some : 0 < high = parts.2 in
          let value : b - 128 + 128 * high ≡ n = parts.3 in
          let below : b < 256 = fits 0 in
          let found = groups_spelled k bytes high rest (AreBytes-rest b bytes fits) parts.1 in
          let small : high < limit k = found.0 in
          let large : 128 ≤ n = omega arith in
          let quotient : n / 128 ≡ high = omega arith in
          let remainder : 128 + n % 128 ≡ b = omega arith in
          (omega arith, rw (groups-large k n large, quotient, remainder) (ap (λ (s : List ℕ). b ∷ s) found.1), found.2)
    ]
