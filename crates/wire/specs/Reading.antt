-- Reading the spelling with which bytes begin, and the first thing that is wrong with it.
use Rattle.std.specs.Prelude.{◌≡◌, ℕ, zero, suc, ◌+◌, ◌-◌, ◌*◌, ◌≤◌, ◌<◌, List, [], ◌∷◌, length, take, drop}
use Rattle.std.specs.Prelude.{slice_index, slice_get, Some, Result, Ok, Err, nat_lt, ◌==◌, if◌then◌else◌, ◌⊎◌, ◌^◌}
use Rattle.std.specs.Prelude.{◌++◌}
use Rattle.wire.specs.declared.fault.WireFault.{WireFault}
use Rattle.wire.specs.declared.fault.WireFault.TheVariants.{Short, NotShortest, TooBig}
use Rattle.wire.specs.Spelling.{varint}

-- what was read, and the bytes after it
abbrev pub Read : Type 0 → Type 0
Read X = Result (X × List ℕ) WireFault

-- the low group of a number, under a high bit, before the rest of that number, which isn't zero
abbrev pub low_group : ℕ → Read ℕ → Read ℕ
low_group b (Ok high) = if high.0 == 0 then Err NotShortest else Ok (b - 128 + 128 * high.0, high.1)
low_group b (Err e) = Err e

-- a number of at most so many groups and one more
unfoldable pub groups_at : ℕ → List ℕ → Read ℕ
groups_at zero [] = Err Short
groups_at zero (b ∷ rest) = if nat_lt b 128 then Ok (b, rest) else Err TooBig
groups_at (suc more) [] = Err Short
groups_at (suc more) (b ∷ rest) = if nat_lt b 128 then Ok (b, rest) else low_group b (groups_at more rest)

-- the number at the start
unfoldable pub varint_at : List ℕ → Read ℕ
varint_at bytes = groups_at 8 bytes

-- so many bytes, where there are as many
abbrev pub cut_at : ℕ → List ℕ → Read (List ℕ)
cut_at len bytes = if nat_lt (length bytes) len then Err Short else Ok (take len bytes, drop len bytes)

-- a string after its length, which is tested against the most before its bytes are looked for
abbrev pub string_behind : ℕ → Read ℕ → Read (List ℕ)
string_behind most (Ok len) = if nat_lt most len.0 then Err TooBig else cut_at len.0 len.1
string_behind most (Err e) = Err e

-- the string at the start, of at most so many bytes
unfoldable pub varstring_at : ℕ → List ℕ → Read (List ℕ)
varstring_at most bytes = string_behind most (varint_at bytes)

-- the first so many bytes have their high bit set
abbrev pub HighFront : ℕ → List ℕ → Type 0
HighFront n bytes = (n ≤ length bytes) × ((i : ℕ) → i < n → 128 ≤ slice_index bytes i)

-- the first nine bytes have their high bit set
abbrev pub IsTooBig : List ℕ → Type 0
IsTooBig bytes = HighFront 9 bytes

-- bytes with their high bit set, fewer than nine, and then nothing
abbrev pub IsShort : List ℕ → Type 0
IsShort bytes = (length bytes < 9) × HighFront (length bytes) bytes

-- bytes with their high bit set, one to eight of them, and then a zero
abbrev pub IsNotShortest : List ℕ → Type 0
IsNotShortest bytes = (n : ℕ) × (0 < n) × (n < 9) × HighFront n bytes × (slice_get bytes n ≡ Some 0)

-- a length that is too big for any number, or one that passes the most
abbrev pub IsTooBigString : ℕ → List ℕ → Type 0
IsTooBigString most bytes = IsTooBig bytes
    ⊎ ((n : ℕ) × (rest : List ℕ) × (bytes ≡ varint n ++ rest) × (n < 2 ^ 63) × (most < n))

-- a length that is cut short, or one of at most the most with fewer bytes after it
abbrev pub IsShortString : ℕ → List ℕ → Type 0
IsShortString most bytes = IsShort bytes
    ⊎ ((n : ℕ) × (rest : List ℕ) × (bytes ≡ varint n ++ rest) × (n < 2 ^ 63) × (n ≤ most) × (length rest < n))
