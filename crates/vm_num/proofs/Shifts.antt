-- Shifts, and what is left of a number that is shifted by 63 and more.
use Rattle.std.proofs.Common.{◌≡◌, ◌≢◌, ℕ, zero, suc, ◌*◌, ◌/◌, ◌%◌, ◌<◌, ◌≤◌, ◌^◌, Option, Some, None, ℤ, pos, negsuc, neg_ℤ, ◌<ℤ◌, ◌≤ℤ◌, refl, ap, sym, ◌∙◌, arith, inl, inr}
use Rattle.std.proofs.Math.Nat.{pow-le-pow_right, div-eq_of_lt, div-le_self}
use Rattle.std.proofs.lemmas.Bool.{cases_lt}
use Rattle.std.proofs.lemmas.Bool.Decides.{nat_tests}
use Rattle.std.proofs.lemmas.Int.{ints, clamps, to_z-of_z}
use Rattle.std.proofs.lemmas.Nat.{pow_below, pow_pos}
use Rattle.std.specs.Int.RustNames.{FitsSigned}
use Rattle.std.specs.Int.{w64, cast_signed, cast_unsigned, int_shr, int_min}
use Rattle.vm_num.specs.Item.{exact}
use Rattle.vm_num.specs.Numbers.{exact-fits}
use Rattle.vm_num.specs.Operations.{floor_by, product_of, left_shift_of, right_shift_of}

-- two to a count of so many and more
far : (i k : ℕ) → i ≤ k → 2 ^ i ≤ 2 ^ k
far i k h = pow-le-pow_right (omega arith) h

exact_past : (n : ℕ) → 2 ^ 63 ≤ n → exact (pos n) ≡ None
exact_past n h = grind (arith, nat_tests)

exact_below : (n : ℕ) → 2 ^ 63 ≤ n → exact (negsuc n) ≡ None
exact_below n h = grind (arith, nat_tests)

-- ---- to the right

floor_fits : (a : ℤ) (n : ℕ) → FitsSigned w64 a → FitsSigned w64 (floor_by a n)
floor_fits (pos z) n h = let le : z / n ≤ z = div-le_self z n in omega (arith, ints)
floor_fits (negsuc z) n h = let le : z / n ≤ z = div-le_self z n in omega (arith, ints)

-- nothing but the sign is left
floor_far : (a : ℤ) (k : ℕ) → FitsSigned w64 a → 63 ≤ k → floor_by a (2 ^ k) ≡ floor_by a (2 ^ 63)
floor_far (pos z) k h le =
    let f : 2 ^ 63 ≤ 2 ^ k = far 63 k le in
    let m : z < 2 ^ 63 = omega (arith, ints) in
    ap pos (div-eq_of_lt (omega arith) ∙ sym (div-eq_of_lt m))
floor_far (negsuc z) k h le =
    let f : 2 ^ 63 ≤ 2 ^ k = far 63 k le in
    let m : z < 2 ^ 63 = omega (arith, ints) in
    ap negsuc (div-eq_of_lt (omega arith) ∙ sym (div-eq_of_lt m))

shr_is : (a : ℤ) (k : ℕ) → int_shr a k ≡ floor_by a (2 ^ k)
shr_is (pos z) k = refl
shr_is (negsuc z) k = refl

shifted : (a m : ℤ) (k : ℕ) → FitsSigned w64 a → m ≡ pos k → Some (cast_signed w64 (cast_unsigned w64 (int_shr a (cast_unsigned w64 m)))) ≡ exact (floor_by a (2 ^ k))
shifted a m k h e =
    ap (λ j. Some (cast_signed w64 (cast_unsigned w64 (int_shr a (cast_unsigned w64 j))))) e
    ∙ ap (λ z. Some (cast_signed w64 (cast_unsigned w64 z))) (shr_is a k)
    ∙ ap Some (to_z-of_z w64 _ (floor_fits a (2 ^ k) h))
    ∙ sym (exact-fits _ (floor_fits a (2 ^ k) h))

pub right_shift_is : (a count m : ℤ) → FitsSigned w64 a → pos 0 ≤ℤ count → m ≡ int_min count (pos 63) → Some (cast_signed w64 (cast_unsigned w64 (int_shr a (cast_unsigned w64 m)))) ≡ right_shift_of a count
right_shift_is a (pos k) m h some e =
    elim (cases_lt k 63) [
      | inl lt ↦ let is : m ≡ pos k = omega (arith, ints, clamps, e) in shifted a m k h is
      | inr le ↦ let is : m ≡ pos 63 = omega (arith, ints, clamps, e) in shifted a m 63 h is ∙ ap exact (sym (floor_far a k h le))
    ]
right_shift_is a (negsuc k) m h some e = absurd (omega (arith, ints))

-- ---- to the left

-- two to a count below 63, as the code makes it
power_is : (k : ℕ) → k < 63 → cast_signed w64 ((1 * 2 ^ k) % 2 ^ 64) ≡ pos (2 ^ k)
power_is k h = let b : 2 ^ k < 2 ^ 63 = pow_below k 63 h in omega (arith, ints)

pub left_shift_is : (a count : ℤ) (r : Option ℤ) → FitsSigned w64 a → pos 0 ≤ℤ count → count <ℤ pos 63 → r ≡ product_of (cast_signed w64 (cast_unsigned w64 a)) (cast_signed w64 ((1 * 2 ^ cast_unsigned w64 count) % 2 ^ 64)) → r ≡ left_shift_of a count
left_shift_is a (pos k) r h low high e =
    let lt : k < 63 = omega (arith, ints) in
    e ∙ ap (λ z. product_of z (cast_signed w64 ((1 * 2 ^ k) % 2 ^ 64))) (to_z-of_z w64 a h) ∙ ap (product_of a) (power_is k lt)
left_shift_is a (negsuc k) r h low high e = absurd (omega (arith, ints))

-- a product with a large factor
large : (n p : ℕ) → p ≤ suc n * p
large n p = grind arith

negative_past : (n : ℕ) → 2 ^ 63 < n → exact (neg_ℤ (pos n)) ≡ None
negative_past zero h = absurd (omega arith)
negative_past (suc n) h = exact_below n (omega arith)

left_shift_past : (a : ℤ) (k : ℕ) → a ≢ pos 0 → 63 ≤ k → (a ≡ negsuc 0 → 63 < k) → left_shift_of a (pos k) ≡ None
left_shift_past (pos zero) k some le not = absurd (some refl)
left_shift_past (pos (suc n)) k some le not =
    let f : 2 ^ 63 ≤ 2 ^ k = far 63 k le in
    exact_past (suc n * 2 ^ k) (omega (arith, large n (2 ^ k)))
left_shift_past (negsuc zero) k some le not =
    let f : 2 ^ 64 ≤ 2 ^ k = far 64 k (omega (arith, not refl)) in
    negative_past (1 * 2 ^ k) (omega arith)
left_shift_past (negsuc (suc n)) k some le not =
    let f : 2 ^ 63 ≤ 2 ^ k = far 63 k le in
    negative_past (suc (suc n) * 2 ^ k) (omega (arith, large n (2 ^ k), pow_pos k))

pub left_shift_far : (a count : ℤ) → a ≢ pos 0 → pos 63 ≤ℤ count → (a ≡ negsuc 0 → pos 63 <ℤ count) → None ≡ left_shift_of a count
left_shift_far a (pos k) some le not = sym (left_shift_past a k some (omega (arith, ints)) (λ e. let h : pos 63 <ℤ pos k = not e in omega (arith, ints)))
left_shift_far a (negsuc k) some le not = absurd (omega (arith, ints))
