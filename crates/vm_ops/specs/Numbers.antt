-- The lines of the code table that take numbers, the deepest first.
use Rattle.std.specs.Prelude.{◌≢◌, ◌≤◌, ℕ, ◌&&◌, not, [], ◌∷◌, Option, Ok, Err, if◌then◌else◌, nat_le, ℤ, pos, neg_ℤ}
use Rattle.std.specs.Prelude.{int_lt, int_le, unsigned_abs}
use Rattle.std.specs.Ordering.{int_eq}
use Rattle.std.specs.Int.{int_min, int_max}
use Rattle.vm_num.specs.Item.{exact, num_bytes, sum_of, difference_of}
use Rattle.vm_num.specs.Operations.{product_of, quotient_of, remainder_of, floor_by, left_shift_of, right_shift_of}
use Rattle.vm_num.specs.declared.failure.Failure.TheVariants.{BadOpcode, BadValue, DivZero}
use Rattle.vm_ops.specs.Results.{ItemResult, number_item, truth_item, entry_at}

-- the codes of these lines: 8b to 99, 9c, and 9e to a5
pub record IsNumberCode (code : ℕ) : Type 0 where
  pub from_1add : 0x8b ≤ code
  pub no_booland : code ≢ 0x9a
  pub no_boolor : code ≢ 0x9b
  pub no_numequalverify : code ≢ 0x9d
  pub to_within : code ≤ 0xa5

-- by a divisor, and by a count
abbrev pub by_divisor : ℤ → Option ℤ → ItemResult
by_divisor divisor n = if int_eq divisor (pos 0) then Err DivZero else number_item n

abbrev pub by_count : ℤ → Option ℤ → ItemResult
by_count count n = if int_lt count (pos 0) then Err BadValue else number_item n

-- 1ADD, 1SUB, 2MUL, 2DIV, NEGATE, ABS, NOT, 0NOTEQUAL
unfoldable pub one_number_result : ℕ → ℤ → ItemResult
one_number_result code a = entry_at (Err BadOpcode) (
    (0x8b, number_item (sum_of a (pos 1)))
    ∷ (0x8c, number_item (difference_of a (pos 1)))
    ∷ (0x8d, number_item (product_of a (pos 2)))
    ∷ (0x8e, number_item (exact (floor_by a 2)))
    ∷ (0x8f, number_item (exact (neg_ℤ a)))
    ∷ (0x90, number_item (exact (pos (unsigned_abs a))))
    ∷ (0x91, Ok (truth_item (int_eq a (pos 0))))
    ∷ (0x92, Ok (truth_item (not (int_eq a (pos 0)))))
    ∷ []) code

-- ADD, SUB, MUL, DIV, MOD, LSHIFT, RSHIFT
unfoldable pub arithmetic_result : ℕ → ℤ → ℤ → ItemResult
arithmetic_result code a b = entry_at (Err BadOpcode) (
    (0x93, number_item (sum_of a b))
    ∷ (0x94, number_item (difference_of a b))
    ∷ (0x95, number_item (product_of a b))
    ∷ (0x96, by_divisor b (quotient_of a b))
    ∷ (0x97, by_divisor b (remainder_of a b))
    ∷ (0x98, by_count b (left_shift_of a b))
    ∷ (0x99, by_count b (right_shift_of a b))
    ∷ []) code

-- NUMEQUAL, NUMNOTEQUAL, LESSTHAN, GREATERTHAN, LESSTHANOREQUAL, GREATERTHANOREQUAL, MIN, MAX, and WITHIN, whose b is
-- the least that is in and c the least past it
unfoldable pub comparison_result : ℕ → ℤ → ℤ → ℤ → ItemResult
comparison_result code a b c = entry_at (Err BadOpcode) (
    (0x9c, Ok (truth_item (int_eq a b)))
    ∷ (0x9e, Ok (truth_item (not (int_eq a b))))
    ∷ (0x9f, Ok (truth_item (int_lt a b)))
    ∷ (0xa0, Ok (truth_item (int_lt b a)))
    ∷ (0xa1, Ok (truth_item (int_le a b)))
    ∷ (0xa2, Ok (truth_item (int_le b a)))
    ∷ (0xa3, Ok (num_bytes (int_min a b)))
    ∷ (0xa4, Ok (num_bytes (int_max a b)))
    ∷ (0xa5, Ok (truth_item (int_le b a && int_lt a c)))
    ∷ []) code

-- the line of a code, on as many of the numbers as it takes
abbrev pub number_result : ℕ → ℤ → ℤ → ℤ → ItemResult
number_result code a b c =
    if nat_le code 0x92 then one_number_result code a
    else (if nat_le code 0x99 then arithmetic_result code a b
    else comparison_result code a b c)

-- how many numbers it takes
abbrev pub number_count : ℕ → ℕ
number_count code = if nat_le code 0x92 then 1 else (if nat_le code 0xa4 then 2 else 3)

-- its base cost: 8 for MUL, DIV, MOD, LSHIFT and RSHIFT, else 2
abbrev pub number_base : ℕ → ℕ
number_base code = if nat_le 0x95 code && nat_le code 0x99 then 8 else 2
