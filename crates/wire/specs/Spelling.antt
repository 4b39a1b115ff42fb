-- How numbers and strings are spelled in bytes.
use Rattle.std.specs.Prelude.{ℕ, zero, suc, ◌+◌, ◌-◌, ◌*◌, ◌^◌, ◌/◌, ◌%◌, ◌<◌, List, [], ◌∷◌, ◌++◌, length, nat_lt}
use Rattle.std.specs.Prelude.{if◌then◌else◌, slice_index}

-- each is below 256
abbrev pub AreBytes : List ℕ → Type 0
AreBytes bytes = (i : ℕ) → slice_index bytes i < 256

-- the greatest number that is spelled
abbrev pub greatest : ℕ
greatest = 2 ^ 63 - 1

-- the least number that needs more than so many groups and one more
abbrev pub limit : ℕ → ℕ
limit zero = 128
limit (suc more) = 128 * limit more

-- a number as at most so many groups of seven bits and one more, the least significant first
unfoldable pub groups : ℕ → ℕ → List ℕ
groups zero n = n ∷ []
groups (suc more) n = if nat_lt n 128 then n ∷ [] else (128 + n % 128) ∷ groups more (n / 128)

-- a number below 2 ^ 63: nine groups hold it
unfoldable pub varint : ℕ → List ℕ
varint n = groups 8 n

-- the length, and the bytes
unfoldable pub varstring : List ℕ → List ℕ
varstring x = varint (length x) ++ x
