-- A chain that a signature began is gone on with to the end that the public key has.
use Rattle.std.proofs.Common.{◌≡◌, ℕ, zero, suc, ◌+◌, ◌-◌, ◌≤◌, inl, inr, List, length, get_or, refl, ap, ◌∙◌, arith}
use Rattle.std.proofs.lemmas.Bool.{cases_lt}
use Rattle.std.proofs.lemmas.List.{get_or-append_right}
use Rattle.std.proofs.Math.ListN.{get_or-append}
use Rattle.sha2.specs.Sha256.{sha256}
use Rattle.keyed.specs.Digests.{digest_length, digest_bytes_fit}
use Rattle.hash_sigs.specs.Strings.{u16str}
use Rattle.hash_sigs.specs.OneTime.{chain, chain_step, checksum, digits}

pub length-chain : (id : List ℕ) (q i j n : ℕ) (value : List ℕ) → length value ≡ 32 → length (chain id q i j n value) ≡ 32
unfolding chain
length-chain id q i j zero value h = h
length-chain id q i j (suc n) value h = digest_length _

pub chain_on : (id : List ℕ) (q i a n : ℕ) (value : List ℕ) → chain id q i a n (chain id q i 0 a value) ≡ chain id q i 0 (a + n) value
unfolding chain
chain_on id q i a zero value = (let e : a ≡ a + 0 = omega arith in ap (λ k. chain id q i 0 k value) e)
chain_on id q i a (suc n) value =
    let e : suc (a + n) ≡ a + suc n = omega arith in
    let f : a + n ≡ 0 + (a + n) = omega arith in
    ap (λ x. chain_step id q i (a + n) x) (chain_on id q i a n value)
    ∙ ap (λ j. chain_step id q i j (chain id q i 0 (a + n) value)) f
    ∙ ap (λ k. chain id q i 0 k value) e

two_bytes : (n i : ℕ) → get_or (u16str n) i 0 ≤ 255
unfolding u16str
two_bytes n zero = omega arith
two_bytes n (suc zero) = omega arith
two_bytes n (suc (suc i)) = omega arith

-- each digit is a byte
pub digit_fits : (m : List ℕ) (i : ℕ) → get_or (digits (sha256 m)) i 0 ≤ 255
unfolding digits
digit_fits m i =
    let hash = sha256 m in
    let sum = u16str (checksum hash) in
    elim (cases_lt i (length hash)) [
      | inl lt ↦ rw (get_or-append hash sum 0 i lt) (let h = digest_bytes_fit m i in omega arith)
      | inr le ↦ rw (get_or-append_right hash sum (length hash) i 0 refl le) (two_bytes (checksum hash) (i - length hash))
    ]

-- a[i] steps, and then those from a[i] to 254, are the steps 0 to 254
pub chain_whole : (id : List ℕ) (q i a : ℕ) (value : List ℕ) → a ≤ 255 → chain id q i a (255 - a) (chain id q i 0 a value) ≡ chain id q i 0 255 value
chain_whole id q i a value h =
    let e : a + (255 - a) ≡ 255 = omega arith in
    chain_on id q i a (255 - a) value ∙ ap (λ n. chain id q i 0 n value) e
