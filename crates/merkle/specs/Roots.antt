-- Roots of ids, for any hash as a function of bytes.
use Rattle.std.specs.Prelude.{◌==◌, ℕ, zero, suc, ◌-◌, ◌/◌, ◌%◌, ◌^◌, nat_le, not, Bool, List, [], ◌∷◌, ◌++◌}
use Rattle.std.specs.Prelude.{length, take, drop, slice_index, if◌then◌else◌}
use Rattle.std.specs.List.{filter}
use Rattle.std.specs.List.Sorted.{IsStrictlySortedBy}
use Rattle.std.specs.Ordering.{nat_cmp}
use Rattle.std.specs.Cmp.Lexicographic.{slice_cmp}
use Rattle.keyed.specs.Functions.{Hash}

-- the root of one id: its hash after the byte 00
abbrev pub leaf : Hash → List ℕ → List ℕ
leaf hash id = hash (0 ∷ id)

-- the root of two parts: the hash of their roots after the byte 01
abbrev pub node : Hash → (left right : List ℕ) → List ℕ
node hash left right = hash (1 ∷ (left ++ right))

-- ---- of a list

-- The root of a list of at most 2^depth ids. More than one are split at the greatest power of two below their number.
unfoldable pub root_within : Hash → (depth : ℕ) → List (List ℕ) → List ℕ
root_within hash zero [] = hash []
root_within hash zero (id ∷ ids) = leaf hash id
root_within hash (suc depth) ids =
    if nat_le (length ids) (2 ^ depth) then root_within hash depth ids
    else node hash (root_within hash depth (take (2 ^ depth) ids)) (root_within hash depth (drop (2 ^ depth) ids))

-- the root of a list of ids, in order: a list of n of them is one of at most 2^n
unfoldable pub list_root : Hash → List (List ℕ) → List ℕ
list_root hash ids = root_within hash (length ids) ids

-- ---- of a set

-- the bit of an id at this place, which counts from the high bit of its first byte
unfoldable pub has_bit : (place : ℕ) → List ℕ → Bool
has_bit place id = (slice_index id (place / 8) / 2 ^ (7 - place % 8)) % 2 == 1

-- those without that bit, and those with it
abbrev pub without : (place : ℕ) → List (List ℕ) → List (List ℕ)
without place ids = filter (λ id. not (has_bit place id)) ids

abbrev pub with : (place : ℕ) → List (List ℕ) → List (List ℕ)
with place ids = filter (has_bit place) ids

-- the root of two parts, each of which has its own; where one part is empty it is the other's
abbrev pub of_parts : Hash → (List (List ℕ) → List ℕ) → (left right : List (List ℕ)) → List ℕ
of_parts hash root [] right = root right
of_parts hash root (l ∷ left) [] = root (l ∷ left)
of_parts hash root (l ∷ left) (r ∷ right) = node hash (root (l ∷ left)) (root (r ∷ right))

-- The root of a set whose members agree in all bits but the last so many. It is split at the first of these in which
-- they differ: those without the bit, and those with it.
unfoldable pub root_of_bits : Hash → (bits : ℕ) → List (List ℕ) → List ℕ
root_of_bits hash zero [] = hash []
root_of_bits hash zero (id ∷ ids) = leaf hash id
root_of_bits hash (suc bits) ids =
    of_parts hash (root_of_bits hash bits) (without (255 - bits) ids) (with (255 - bits) ids)

-- the root of a set of ids, which have 256 bits each
unfoldable pub set_root : Hash → List (List ℕ) → List ℕ
set_root hash ids = root_of_bits hash 256 ids

-- ids in strictly increasing order of their bytes
abbrev pub IsIncreasing : List (List ℕ) → Type 0
IsIncreasing ids = IsStrictlySortedBy (slice_cmp nat_cmp) ids
