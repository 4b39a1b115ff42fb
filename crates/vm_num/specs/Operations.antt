-- Products, quotients and shifts of numbers: exact, and then none where that is no number of 64 bits.
use Rattle.std.specs.Prelude.{ℕ, ◌^◌, Option, None, if◌then◌else◌, ℤ, pos, negsuc, ◌*ℤ◌, int_div, int_rem}
use Rattle.std.specs.Int.{int_div_euclid}
use Rattle.std.specs.Ordering.{int_eq}
use Rattle.vm_num.specs.Item.{exact}

abbrev pub product_of : ℤ → ℤ → Option ℤ
product_of a b = exact (a *ℤ b)

-- toward zero; none by 0
abbrev pub quotient_of : ℤ → ℤ → Option ℤ
quotient_of a b = if int_eq b (pos 0) then None else exact (int_div a b)

-- a less the quotient times b; none by 0
abbrev pub remainder_of : ℤ → ℤ → Option ℤ
remainder_of a b = if int_eq b (pos 0) then None else exact (int_rem a b)

-- a times 2 to the count; none at a negative count
abbrev pub left_shift_of : ℤ → ℤ → Option ℤ
left_shift_of a (pos count) = exact (a *ℤ pos (2 ^ count))
left_shift_of a (negsuc count) = None

-- z by n, rounded down: the quotient whose remainder is not negative
abbrev pub floor_by : ℤ → ℕ → ℤ
floor_by z n = int_div_euclid z (pos n)

-- a by 2 to the count, rounded down; none at a negative count
abbrev pub right_shift_of : ℤ → ℤ → Option ℤ
right_shift_of a (pos count) = exact (floor_by a (2 ^ count))
right_shift_of a (negsuc count) = None
