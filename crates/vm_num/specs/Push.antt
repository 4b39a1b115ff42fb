-- The pushes that a program is written with.
use Rattle.std.specs.Prelude.{ℕ, ◌+◌, ◌^◌, ◌==◌, List, [], ◌∷◌, ◌++◌, length, if◌then◌else◌, nat_le, nat_lt, ℤ, pos}
use Rattle.std.specs.Prelude.{negsuc}
use Rattle.std.specs.Int.{w16, w32, to_le_bytes}
use Rattle.vm_num.specs.Item.{Item, num_bytes}

-- the push of an item: FALSE for none of a byte, else the data codes up to 75 bytes, else PUSHDATA1, PUSHDATA2
-- or PUSHDATA4 with the length little-endian
unfoldable pub push_of : Item → List ℕ
push_of item =
    if length item == 0 then 0 ∷ []
    else (if nat_le (length item) 75 then length item ∷ item
    else (if nat_lt (length item) (2 ^ 8) then 76 ∷ length item ∷ item
    else (if nat_lt (length item) (2 ^ 16) then 77 ∷ to_le_bytes w16 (length item) ++ item
    else 78 ∷ to_le_bytes w32 (length item) ++ item)))

-- the push of a number: FALSE for 0, 1NEGATE for -1, the codes from 1 to 16 for these, else the push of its bytes
unfoldable pub push_int_of : ℤ → List ℕ
push_int_of (pos n) = if n == 0 then 0 ∷ [] else (if nat_le n 16 then (80 + n) ∷ [] else push_of (num_bytes (pos n)))
push_int_of (negsuc n) = if n == 0 then 79 ∷ [] else push_of (num_bytes (negsuc n))
