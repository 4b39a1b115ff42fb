-- A digest of SHA-256 is 32 bytes. (The laws of a trait cite lemmas of this folder alone.)
use Rattle.std.proofs.Common.{◌≡◌, ℕ, zero, suc, ◌-◌, ◌<◌, List, length, refl, inl, inr, arith}
use Rattle.std.specs.Int.{to_be_bytes, w32}
use Rattle.std.specs.Prelude.{slice_index}
use Rattle.std.proofs.lemmas.Bool.{cases_lt}
use Rattle.std.proofs.lemmas.List.{get_or_append_left, get_or-append_right}
use Rattle.sha2.specs.Sha256.{sha256, digest_bytes, final_hash, initial_hash_256}
use Rattle.sha2.proofs.Facts256.{length-sha256}

pub digest_length : (m : List ℕ) → length (sha256 m) ≡ 32
digest_length m = length-sha256 m

word_bytes : (n i : ℕ) → slice_index (to_be_bytes w32 n) i < 256
word_bytes n zero = omega arith
word_bytes n (suc zero) = omega arith
word_bytes n (suc (suc zero)) = omega arith
word_bytes n (suc (suc (suc zero))) = omega arith
word_bytes n (suc (suc (suc (suc i)))) = omega arith

words_bytes : (h : List ℕ) (n i : ℕ) → slice_index (digest_bytes h n) i < 256
unfolding digest_bytes
words_bytes h zero i = omega arith
words_bytes h (suc n) i =
    elim (cases_lt i (length (digest_bytes h n))) [
      | inl lt ↦ rw (get_or_append_left (digest_bytes h n) (to_be_bytes w32 (slice_index h n)) 0 i lt)
          (words_bytes h n i)
      | inr le ↦ rw
          (get_or-append_right (digest_bytes h n) (to_be_bytes w32 (slice_index h n)) (length (digest_bytes h n)) i 0
          refl le)
          (word_bytes (slice_index h n) (i - length (digest_bytes h n)))
    ]

pub digest_bytes_fit : (m : List ℕ) (i : ℕ) → slice_index (sha256 m) i < 256
unfolding sha256
digest_bytes_fit m i = words_bytes (final_hash initial_hash_256 m) 8 i
