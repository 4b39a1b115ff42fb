-- Ids that are the same up to a bit, which the search for the first bit in which they differ goes by. Only contracts
-- of private functions name it.
use Rattle.std.specs.Prelude.{◌≡◌, ℕ, ◌-◌, ◌/◌, ◌%◌, ◌^◌, List, take, slice_index, Contains}

-- the bits of its byte before a place, as a number; of a byte, `% 256` is the byte
abbrev pub bits_before : (place : ℕ) → List ℕ → ℕ
bits_before place id = slice_index id (place / 8) % 256 / 2 ^ (8 - place % 8)

-- two ids are the same up to this bit: the bytes before its own byte, and the bits before it in that byte
pub record AreSameUpTo (place : ℕ) (a b : List ℕ) : Type 0 where
  pub bytes : take (place / 8) a ≡ take (place / 8) b
  pub high : bits_before place a ≡ bits_before place b

-- each two of these are
abbrev pub AllSameUpTo : (place : ℕ) → List (List ℕ) → Type 0
AllSameUpTo place ids = (a b : List ℕ) → Contains ids a → Contains ids b → AreSameUpTo place a b
