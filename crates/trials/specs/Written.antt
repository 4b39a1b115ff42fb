-- A hash that is written out for two strings, and for every other is simple enough to be worked out by hand.
use Rattle.std.proofs.Common.{◌≡◌, ℕ, ◌+◌, ◌*◌, ◌%◌, ◌<◌, Bool, true, false, cond, List, [], ◌∷◌, length}
use Rattle.std.proofs.Common.{inl, inr, arith}
use Rattle.std.specs.Prelude.{replicate, fold, slice_index, bytes_eq, if◌then◌else◌}
use Rattle.std.proofs.lemmas.Bool.{cases_lt}
use Rattle.std.proofs.lemmas.List.{get_or-replicate, get_or_past, length-replicate}
use Rattle.std.proofs.lemmas.Nat.{mod_below}

-- the number that a string comes to, from 1 on, byte by byte
abbrev pub folded : List ℕ → ℕ
folded bytes = fold (λ n byte. (n * 5 + byte) % 251) 1 bytes

-- 17 for the first of two strings, 34 for the second, and for every other the number that it comes to
abbrev pub written_byte : (first second bytes : List ℕ) → ℕ
written_byte first second bytes =
    if bytes_eq bytes first then 17 else (if bytes_eq bytes second then 34 else folded bytes)

-- 32 times that byte
abbrev pub written_hash : (first second bytes : List ℕ) → List ℕ
written_hash first second bytes = replicate 32 (written_byte first second bytes)

-- A hash is 32 bytes. (The laws of a trait cite lemmas of this folder alone.)
pub written-length : (first second bytes : List ℕ) → length (written_hash first second bytes) ≡ 32
written-length first second bytes = length-replicate 32 (written_byte first second bytes)

folded-fits : (n : ℕ) (bytes : List ℕ) → n < 256 → fold (λ n byte. (n * 5 + byte) % 251) n bytes < 256
folded-fits n [] small = small
folded-fits n (b ∷ bytes) small =
    folded-fits ((n * 5 + b) % 251) bytes (omega (arith, mod_below (n * 5 + b) 251 (omega arith)))

either-fits : (a b : Bool) (n : ℕ) → n < 256 → cond a 17 (cond b 34 n) < 256
either-fits true b n small = omega arith
either-fits false true n small = omega arith
either-fits false false n small = small

repeated-fits : (n : ℕ) → n < 256 → (i : ℕ) → slice_index (replicate 32 n) i < 256
repeated-fits n small i = elim (cases_lt i 32) [
  | inl there ↦ rw (get_or-replicate 32 i n 0 there) small
  | inr past ↦ rw (get_or_past (replicate 32 n) i 0 past) (omega arith)
]

pub written-fits : (first second bytes : List ℕ) (i : ℕ) → slice_index (written_hash first second bytes) i < 256
written-fits first second bytes i =
    repeated-fits (written_byte first second bytes)
    (either-fits (bytes_eq bytes first) (bytes_eq bytes second) (folded bytes) (folded-fits 1 bytes (omega arith))) i
