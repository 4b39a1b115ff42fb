-- Strings of bytes (RFC 8554, section 3).
use Rattle.std.specs.Prelude.{ℕ, zero, suc, ◌+◌, ◌*◌, List, [], ◌∷◌, ◌++◌, slice_range}
use Rattle.std.specs.Int.{w16, w32, to_be_bytes}

-- u32str: a number in 4 bytes, the highest first
unfoldable pub u32str : ℕ → List ℕ
u32str n = to_be_bytes w32 n

-- u16str: a number in 2 bytes, the highest first
unfoldable pub u16str : ℕ → List ℕ
u16str n = to_be_bytes w16 n

-- u8str: a number in one byte
abbrev pub u8str : ℕ → List ℕ
u8str n = n ∷ []

-- f 0 ++ f 1 ++ .. ++ f (n - 1)
unfoldable pub joined : (ℕ → List ℕ) → ℕ → List ℕ
joined f zero = []
joined f (suc n) = joined f n ++ f n

-- string i of the strings of 32 bytes that stand one after the other from this place on
abbrev pub string_at : List ℕ → ℕ → ℕ → List ℕ
string_at bytes at i = slice_range bytes (at + 32 * i) (at + 32 * i + 32)
