-- Items of the machine's stacks, and what they are read as.
use Rattle.std.specs.Prelude.{ℕ, ◌+◌, ◌-◌, ◌<◌, ◌^◌, ◌==◌, Bool, List, [], ◌∷◌, ◌++◌, length, Option, Some, None}
use Rattle.std.specs.Prelude.{if◌then◌else◌, nat_le, nat_lt, sum_by, not, replicate, ℤ, pos, negsuc, ◌+ℤ◌, ◌-ℤ◌}
use Rattle.std.specs.Prelude.{slice_index}
use Rattle.std.specs.List.{list_any}
use Rattle.std.specs.Int.{w64, to_le_bytes, from_le_bytes, cast_signed, cast_unsigned}

-- a string of bytes
abbrev pub Item : Type 0
Item = List ℕ

-- each is below 256
abbrev pub AreBytes : List ℕ → Type 0
AreBytes bytes = (i : ℕ) → slice_index bytes i < 256

-- what an item on a stack costs
abbrev pub cost : Item → ℕ
cost item = 8 + length item

-- what all items of a list cost
abbrev pub total_cost : List Item → ℕ
total_cost items = sum_by cost items

-- the item as a number: filled with zero bytes to 8, read little-endian, in two's complement; none past 8 bytes
unfoldable pub num : Item → Option ℤ
num b =
    if nat_le (length b) 8 then Some (cast_signed w64 (from_le_bytes w64 (b ++ replicate (8 - length b) 0))) else None

-- b in front, but where it is zero and nothing follows
abbrev pub onto : ℕ → List ℕ → List ℕ
onto b [] = if b == 0 then [] else b ∷ []
onto b (c ∷ cs) = b ∷ c ∷ cs

-- without the zeros at the end
abbrev pub without_high_zeros : List ℕ → List ℕ
without_high_zeros [] = []
without_high_zeros (b ∷ bs) = onto b (without_high_zeros bs)

-- the 8 bytes of a number in two's complement, the lowest first, with its high zero bytes dropped
unfoldable pub num_bytes : ℤ → Item
num_bytes n = without_high_zeros (to_le_bytes w64 (cast_unsigned w64 n))

-- it has a byte other than zero
abbrev pub is_true : Item → Bool
is_true b = list_any (λ x. not (x == 0)) b

-- a number where it is one of 64 bits
abbrev pub exact : ℤ → Option ℤ
exact (pos n) = if nat_lt n (2 ^ 63) then Some (pos n) else None
exact (negsuc n) = if nat_lt n (2 ^ 63) then Some (negsuc n) else None

abbrev pub sum_of : ℤ → ℤ → Option ℤ
sum_of a b = exact (a +ℤ b)

abbrev pub difference_of : ℤ → ℤ → Option ℤ
difference_of a b = exact (a -ℤ b)
