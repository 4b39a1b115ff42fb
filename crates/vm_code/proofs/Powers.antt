-- How large a number of a few bytes is.
use Rattle.std.proofs.Common.{ℕ, zero, suc, ◌^◌, ◌<◌, ◌≤◌, arith}

pub three_bytes : (x n : ℕ) → x < 256 ^ n → n ≤ 3 → x < 2 ^ 24
three_bytes x zero lt le = omega arith
three_bytes x (suc zero) lt le = omega arith
three_bytes x (suc (suc zero)) lt le = omega arith
three_bytes x (suc (suc (suc zero))) lt le = omega arith
three_bytes x (suc (suc (suc (suc n)))) lt le = absurd (omega arith)

pub four_bytes : (x n : ℕ) → x < 256 ^ n → n ≤ 4 → x < 2 ^ 32
four_bytes x zero lt le = omega arith
four_bytes x (suc zero) lt le = omega arith
four_bytes x (suc (suc zero)) lt le = omega arith
four_bytes x (suc (suc (suc zero))) lt le = omega arith
four_bytes x (suc (suc (suc (suc zero)))) lt le = omega arith
four_bytes x (suc (suc (suc (suc (suc n))))) lt le = absurd (omega arith)
