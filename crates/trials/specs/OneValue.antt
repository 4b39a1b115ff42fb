-- A hash of one value.
use Rattle.std.specs.Prelude.{◌≡◌, ◌<◌, ℕ, List, length, replicate, slice_index, refl}
use Rattle.std.proofs.Common.{arith, zero, suc, [], ◌∷◌, get_or}

abbrev pub one_value : List ℕ
one_value = replicate 32 7

pub one_value_length : length one_value ≡ 32
one_value_length = refl

below : (n i : ℕ) → get_or (replicate n 7) i 0 < 256
below zero i = omega arith
below (suc n) zero = omega arith
below (suc n) (suc i) = below n i

pub one_value_bytes : (i : ℕ) → slice_index one_value i < 256
one_value_bytes i = below 32 i
