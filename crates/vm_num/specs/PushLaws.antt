-- Pushes of numbers, range by range. Laws with their proofs.
use Rattle.std.proofs.Common.{◌≡◌, ℕ, ◌+◌, ◌<◌, ◌≤◌, [], ◌∷◌, ℤ, pos, negsuc, ◌<ℤ◌, refl, arith}
use Rattle.std.proofs.lemmas.Bool.Decides.{nat_tests}
use Rattle.std.proofs.lemmas.Int.{ints}
use Rattle.std.specs.Int.RustNames.{unsigned_abs}
use Rattle.vm_num.specs.Item.{num_bytes}
use Rattle.vm_num.specs.Push.{push_of, push_int_of}

pub push_of_minus_one : push_int_of (negsuc 0) ≡ 79 ∷ []
unfolding push_int_of
push_of_minus_one = refl

pub push_of_zero : push_int_of (pos 0) ≡ 0 ∷ []
unfolding push_int_of
push_of_zero = refl

pub push_of_small : (n : ℕ) → 0 < n → n ≤ 16 → push_int_of (pos n) ≡ (80 + n) ∷ []
unfolding push_int_of
push_of_small n some small = grind (arith, nat_tests)

pub push_of_large : (n : ℕ) → 16 < n → push_int_of (pos n) ≡ push_of (num_bytes (pos n))
unfolding push_int_of
push_of_large n large = grind (arith, nat_tests)

pub push_of_negative : (n : ℕ) → 0 < n → push_int_of (negsuc n) ≡ push_of (num_bytes (negsuc n))
unfolding push_int_of
push_of_negative n some = grind (arith, nat_tests)

pub push_above : (z : ℤ) → pos 16 <ℤ z → push_int_of z ≡ push_of (num_bytes z)
push_above (pos n) h = push_of_large n (omega (arith, ints))
push_above (negsuc n) h = absurd (omega (arith, ints))

pub push_below : (z : ℤ) → z <ℤ negsuc 0 → push_int_of z ≡ push_of (num_bytes z)
push_below (pos n) h = absurd (omega (arith, ints))
push_below (negsuc n) h = push_of_negative n (omega (arith, ints))

pub push_within : (z : ℤ) → pos 0 <ℤ z → z <ℤ pos 17 → push_int_of z ≡ (80 + unsigned_abs z) ∷ []
push_within (pos n) low high = push_of_small n (omega (arith, ints)) (omega (arith, ints))
push_within (negsuc n) low high = absurd (omega (arith, ints))
