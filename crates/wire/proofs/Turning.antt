-- The length of a record, which is written after it, is brought in front of it.
use Rattle.std.proofs.Common.{◌≡◌, ℕ, ◌-◌, List, ◌++◌, length, take, drop, refl, ◌∙◌, ap, append_assoc, length-append, arith}
use Rattle.std.proofs.Math.Seq.{take-append_seam, drop-append_seam}
use Rattle.wire.specs.Spelling.{varint, varstring}

-- what stands after so many bytes, those from this place on, is brought in front of them
abbrev turned : ℕ → ℕ → List ℕ → List ℕ
turned from len bytes = take from bytes ++ (drop len (drop from bytes) ++ take len (drop from bytes))

turned_is : (a b c : List ℕ) → turned (length a) (length b) (a ++ (b ++ c)) ≡ a ++ (c ++ b)
turned_is a b c =
    let front : take (length a) (a ++ (b ++ c)) ≡ a = take-append_seam a (b ++ c) in
    let rest : drop (length a) (a ++ (b ++ c)) ≡ b ++ c = drop-append_seam a (b ++ c) in
    rw (front, rest, take-append_seam b c, drop-append_seam b c) refl

pub framed : (old written bytes held after : List ℕ) (from len : ℕ) → from ≡ length old → len ≡ length written - from
    → written ≡ old ++ held
    → bytes ≡ written ++ varint len
    → after ≡ turned from len bytes
    → after ≡ old ++ varstring held
unfolding varstring
framed old written bytes held after from len from_is len_is written_is bytes_is after_is =
    let held_len : len ≡ length held = omega (arith, ap length written_is, from_is, length-append old held) in
    let both : bytes ≡ (old ++ held) ++ varint (length held) = rw (← written_is, ← held_len) bytes_is in
    let all : bytes ≡ old ++ (held ++ varint (length held)) = both ∙ append_assoc old held (varint (length held)) in
    after_is ∙ rw (from_is, held_len, all) (turned_is old held (varint (length held)))
