-- Numbers written as items, and what items are read as. Laws with their proofs.
use Rattle.std.proofs.Common.{◌≡◌, ◌≢◌, ◌↔◌, ℕ, zero, suc, ◌+◌, ◌-◌, ◌<◌, ◌≤◌, ◌^◌, Bool, true, false}
use Rattle.std.proofs.Common.{not, ◌||◌, List, [], ◌∷◌, ◌++◌, length, get_or, replicate, Some, None, ℤ, pos}
use Rattle.std.proofs.Common.{negsuc, IsTrue, refl, sym, ap, subst, inl, inr, ◌∙◌, arith, length-append}
use Rattle.std.proofs.lemmas.List.{length-replicate}
use Rattle.std.proofs.lemmas.List.Folds.{list_any-append}
use Rattle.std.proofs.lemmas.Nat.{le_bytes_8, from_le_bytes-to_le_bytes_8}
use Rattle.std.proofs.lemmas.Int.{ints, to_z-of_z, of_z-to_z}
use Rattle.std.proofs.lemmas.Bool.{lt-leb, le-leb, cases_lt, true≢false}
use Rattle.std.proofs.lemmas.Bool.Decides.{nat_tests}
use Rattle.std.proofs.lemmas.Grind.{common_steps}
use Rattle.std.specs.Prelude.{◌==◌}
use Rattle.std.specs.Int.{w64, to_le_bytes, from_le_bytes, cast_signed, cast_unsigned}
use Rattle.std.specs.Int.RustNames.{FitsSigned}
use Rattle.vm_num.specs.Item.{Item, AreBytes, num, num_bytes, is_true, without_high_zeros, onto, exact}

-- ---- zeros at the end

-- one byte in front makes a list at most one longer
length-onto : (b : ℕ) (bs : List ℕ) → length (onto b bs) ≤ suc (length bs)
length-onto b [] = grind (arith, common_steps, nat_tests)
length-onto b (c ∷ cs) = omega arith

-- nothing is added
pub length-without_high_zeros : (bs : List ℕ) → length (without_high_zeros bs) ≤ length bs
length-without_high_zeros [] = omega arith
length-without_high_zeros (b ∷ bs) = omega (arith, length-onto b (without_high_zeros bs), length-without_high_zeros bs)

-- `onto` where b is not zero
onto-nonzero : (b : ℕ) → b ≢ 0 → onto b [] ≡ b ∷ []
onto-nonzero b h = grind (arith, common_steps, nat_tests)

-- zeros added again give the list back
onto-refilled : (b : ℕ) (bs cs : List ℕ) (k : ℕ)
    → ((j : ℕ) → length cs + j ≡ length bs → cs ++ replicate j 0 ≡ bs)
    → length (onto b cs) + k ≡ suc (length bs)
    → onto b cs ++ replicate k 0 ≡ b ∷ bs
onto-refilled zero bs [] zero same e = absurd (omega arith)
onto-refilled zero bs [] (suc k) same e = ap (λ l. 0 ∷ l) (same k (omega arith))
onto-refilled (suc b) bs [] k same e =
    let is : onto (suc b) [] ≡ suc b ∷ [] = onto-nonzero (suc b) (omega arith) in
    let more : 1 + k ≡ suc (length bs) = rw is at e in
    rw is (ap (λ l. suc b ∷ l) (same k (omega arith)))
onto-refilled b bs (c ∷ cs) k same e = ap (λ l. b ∷ l) (same k (omega arith))

refilled : (bs : List ℕ) (k : ℕ) → length (without_high_zeros bs) + k ≡ length bs
    → without_high_zeros bs ++ replicate k 0 ≡ bs
refilled [] zero e = refl
refilled [] (suc k) e = absurd (omega arith)
refilled (b ∷ bs) k e = onto-refilled b bs (without_high_zeros bs) k (refilled bs) e

-- ---- what an item is read as

-- filled with zeros to 8 bytes
abbrev pub filled : Item → List ℕ
filled b = b ++ replicate (8 - length b) 0

pub length-filled : (b : Item) → length b ≤ 8 → length (filled b) ≡ 8
length-filled b h = simp (length-append, length-replicate) (omega arith)

pub filled-bytes : (b : Item) → AreBytes b → AreBytes (filled b)
filled-bytes b are i = grind (arith, common_steps, are i)

-- the number of its bits
abbrev pub bits_of : Item → ℕ
bits_of b = from_le_bytes w64 (filled b)

-- eight bytes make a number of 64 bits
pub below_top : (bs : List ℕ) → AreBytes bs → from_le_bytes w64 bs < 2 ^ 64
below_top bs are = omega (arith, are 0, are 1, are 2, are 3, are 4, are 5, are 6, are 7)

-- more than 8 bytes are no number
pub num_past : (b : Item) → 8 < length b → num b ≡ None
unfolding num
num_past b h = rw (lt-leb (length b) 8 h)

-- up to 8 bytes are the number of the filled item
pub num_is : (b : Item) → length b ≤ 8 → num b ≡ Some (cast_signed w64 (bits_of b))
unfolding num
num_is b h = rw (le-leb (length b) 8 h)

no_number : (b : Item) → num b ≡ None → 8 < length b
no_number b none = elim (cases_lt 8 (length b)) [
  | inl over ↦ over
  | inr within ↦ absurd (cc (sym (num_is b within) ∙ none))
]

-- an item is no number exactly where it has more than 8 bytes
pub num-none : (b : Item) → (num b ≡ None) ↔ (8 < length b)
num-none b = (no_number b, num_past b)

read_within : (b : Item) (n : ℤ) → num b ≡ Some n → length b ≤ 8
read_within b n is = elim (cases_lt 8 (length b)) [
  | inl over ↦ absurd (cc (sym (num_past b over) ∙ is))
  | inr within ↦ within
]

-- the number that is read, by its bits
pub num-bits : (b : Item) (n : ℤ) → num b ≡ Some n → n ≡ cast_signed w64 (bits_of b)
num-bits b n is = cc (num_is b (read_within b n is), is)

-- what is read is a number of 64 bits
pub num-fits : (b : Item) (n : ℤ) → AreBytes b → num b ≡ Some n → FitsSigned w64 n
num-fits b n are is =
    let top : bits_of b < 2 ^ 64 = below_top (filled b) (filled-bytes b are) in
    omega (arith, ints, top, num-bits b n is)

-- ---- what an item is true as

no_zeros : (k : ℕ) → is_true (replicate k 0) ≡ false
no_zeros zero = refl
no_zeros (suc k) = no_zeros k

or_none : (b : Bool) → (b || false) ≡ b
or_none true = refl
or_none false = refl

-- the zeros that fill an item don't count
true-filled : (b : Item) → is_true (filled b) ≡ is_true b
true-filled b =
    list_any-append (λ x. not (x == 0)) b (replicate (8 - length b) 0)
    ∙ ap (λ r. is_true b || r) (no_zeros (8 - length b))
    ∙ or_none (is_true b)

neither : (x y : Bool) → (x || y) ≡ false → (x ≡ false) × (y ≡ false)
neither true y none = absurd (true≢false none)
neither false y none = (refl, none)

is_zero : (b : ℕ) → not (b == 0) ≡ false → b ≡ 0
is_zero b none = grind (arith, nat_tests)

all_zero : (bs : List ℕ) → is_true bs ≡ false → (i : ℕ) → get_or bs i 0 ≡ 0
all_zero [] none i = refl
all_zero (b ∷ bs) none zero = is_zero b (neither (not (b == 0)) (is_true bs) none).0
all_zero (b ∷ bs) none (suc i) = all_zero bs (neither (not (b == 0)) (is_true bs) none).1 i

-- no bit is set exactly where no byte is other than zero
true-bits : (b : Item) → AreBytes b → length b ≤ 8 → bits_of b ≡ 0 → is_true b ≡ false
true-bits b are within none =
    sym (true-filled b)
    ∙ ap is_true (sym (le_bytes_8 (filled b) 0 (length-filled b within) (filled-bytes b are) (sym none)))

bits-true : (b : Item) → is_true b ≡ false → bits_of b ≡ 0
bits-true b none =
    let z = all_zero (filled b) (true-filled b ∙ none) in
    omega (arith, z 0, z 1, z 2, z 3, z 4, z 5, z 6, z 7)

some_bit : (b : Item) (n : ℤ) → num b ≡ Some n → n ≢ pos 0 → (t : Bool) → is_true b ≡ t → IsTrue t
some_bit b n is some true e = refl
some_bit b n is some false e = absurd (some (num-bits b n is ∙ ap (cast_signed w64) (bits-true b e)))

signed_zero : (m : ℕ) → m < 2 ^ 64 → cast_signed w64 m ≡ pos 0 → m ≡ 0
signed_zero m top is = sym (of_z-to_z w64 m top) ∙ ap (cast_unsigned w64) is

-- an item that is read as a number is true exactly where the number is not 0
pub true-num : (b : Item) (n : ℤ) → AreBytes b → num b ≡ Some n → IsTrue (is_true b) ↔ (n ≢ pos 0)
true-num b n are is = (
  λ yes zero_is.
      let top : bits_of b < 2 ^ 64 = below_top (filled b) (filled-bytes b are) in
      let none : bits_of b ≡ 0 = signed_zero (bits_of b) top (sym (num-bits b n is) ∙ zero_is) in
      cc (sym yes ∙ true-bits b are (read_within b n is) none),
  λ some. some_bit b n is some (is_true b) refl,
)

-- ---- the item of a number

-- it has at most 8 bytes
pub length-num_bytes : (n : ℤ) → length (num_bytes n) ≤ 8
unfolding num_bytes
length-num_bytes n = length-without_high_zeros (to_le_bytes w64 (cast_unsigned w64 n))

-- eight bytes without their high zeros, filled again
filled-trimmed : (bs : List ℕ) → length bs ≡ 8 → filled (without_high_zeros bs) ≡ bs
filled-trimmed bs h = refilled bs _ (omega (arith, length-without_high_zeros bs))

filled-num_bytes : (n : ℤ) → filled (num_bytes n) ≡ to_le_bytes w64 (cast_unsigned w64 n)
unfolding num_bytes
filled-num_bytes n = filled-trimmed (to_le_bytes w64 (cast_unsigned w64 n)) refl

-- a number of 64 bits is read back
pub num-num_bytes : (n : ℤ) → FitsSigned w64 n → num (num_bytes n) ≡ Some n
num-num_bytes n fits =
    let bits = cast_unsigned w64 n in
    let below : bits < 2 ^ 64 = omega (arith, ints) in
    num_is (num_bytes n) (length-num_bytes n)
    ∙ ap (λ l. Some (cast_signed w64 (from_le_bytes w64 l))) (filled-num_bytes n)
    ∙ ap (λ x. Some (cast_signed w64 x)) (from_le_bytes-to_le_bytes_8 bits below)
    ∙ ap Some (to_z-of_z w64 n fits)

-- what is written are bytes
low_bytes : (m : ℕ) → AreBytes (to_le_bytes w64 m)
low_bytes m zero = omega arith
low_bytes m (suc zero) = omega arith
low_bytes m (suc (suc zero)) = omega arith
low_bytes m (suc (suc (suc zero))) = omega arith
low_bytes m (suc (suc (suc (suc zero)))) = omega arith
low_bytes m (suc (suc (suc (suc (suc zero))))) = omega arith
low_bytes m (suc (suc (suc (suc (suc (suc zero)))))) = omega arith
low_bytes m (suc (suc (suc (suc (suc (suc (suc zero))))))) = omega arith
low_bytes m (suc (suc (suc (suc (suc (suc (suc (suc i)))))))) = omega arith

front_byte : (b : ℕ) (bs : List ℕ) → b < 256 → AreBytes bs → AreBytes (b ∷ bs)
front_byte b bs low are zero = low
front_byte b bs low are (suc i) = are i

onto-bytes : (b : ℕ) (bs : List ℕ) → b < 256 → AreBytes bs → AreBytes (onto b bs)
onto-bytes zero [] low are = are
onto-bytes (suc b) [] low are =
    subst AreBytes (sym (onto-nonzero (suc b) (omega arith))) (front_byte (suc b) [] low are)
onto-bytes b (c ∷ cs) low are = front_byte b (c ∷ cs) low are

trimmed-bytes : (bs : List ℕ) → AreBytes bs → AreBytes (without_high_zeros bs)
trimmed-bytes [] are = are
trimmed-bytes (b ∷ bs) are =
    onto-bytes b (without_high_zeros bs) (are 0) (trimmed-bytes bs (λ i. are (suc i)))

pub num_bytes-bytes : (n : ℤ) → AreBytes (num_bytes n)
unfolding num_bytes
num_bytes-bytes n = trimmed-bytes (to_le_bytes w64 (cast_unsigned w64 n)) (low_bytes (cast_unsigned w64 n))

-- it is true exactly where the number is not 0
pub true-num_bytes : (n : ℤ) → FitsSigned w64 n → IsTrue (is_true (num_bytes n)) ↔ (n ≢ pos 0)
true-num_bytes n fits = true-num (num_bytes n) n (num_bytes-bytes n) (num-num_bytes n fits)

-- ---- the numbers of 64 bits

-- a result is a number exactly where it is one of 64 bits
exact-some : (z n : ℤ) → exact z ≡ Some n → (n ≡ z) × FitsSigned w64 z
exact-some (pos k) n is = elim (cases_lt k (2 ^ 63)) [
  | inl less ↦ (grind (arith, nat_tests), omega (arith, ints))
  | inr past ↦ absurd (grind (arith, nat_tests))
]
exact-some (negsuc k) n is = elim (cases_lt k (2 ^ 63)) [
  | inl less ↦ (grind (arith, nat_tests), omega (arith, ints))
  | inr past ↦ absurd (grind (arith, nat_tests))
]

pub exact-fits : (z : ℤ) → FitsSigned w64 z → exact z ≡ Some z
exact-fits (pos n) h = let m : n < 2 ^ 63 = omega (arith, ints) in grind (arith, nat_tests)
exact-fits (negsuc n) h = let m : n < 2 ^ 63 = omega (arith, ints) in grind (arith, nat_tests)

pub exact-number : (z n : ℤ) → (exact z ≡ Some n) ↔ ((n ≡ z) × FitsSigned w64 z)
exact-number z n = (exact-some z n, λ both. exact-fits z both.1 ∙ ap Some (sym both.0))
