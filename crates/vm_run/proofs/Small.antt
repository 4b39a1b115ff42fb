-- The items of the numbers from 1 to 16.
use Rattle.std.proofs.Common.{◌≡◌, ℕ, ◌/◌, ◌%◌, ◌<◌, ◌≤◌, [], ◌∷◌, pos, refl, arith}
use Rattle.std.proofs.lemmas.Bool.{ne_eqb}
use Rattle.vm_num.specs.Item.{num_bytes}

pub small : (n : ℕ) → 0 < n → n ≤ 16 → num_bytes (pos n) ≡ n ∷ []
unfolding num_bytes
small n some few =
    let b0 : n % 256 ≡ n = omega arith in
    let b1 : n / 256 ≡ 0 = omega arith in
    let b2 : n / 65536 ≡ 0 = omega arith in
    let b3 : n / 16777216 ≡ 0 = omega arith in
    let b4 : n / 4294967296 ≡ 0 = omega arith in
    let b5 : n / 1099511627776 ≡ 0 = omega arith in
    let b6 : n / 281474976710656 ≡ 0 = omega arith in
    let b7 : n / 72057594037927936 ≡ 0 = omega arith in
    rw (b0, b1, b2, b3, b4, b5, b6, b7, ne_eqb n 0 (omega arith)) refl
