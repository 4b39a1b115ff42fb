-- One-time signatures (RFC 8554, section 4) of the type LMOTS_SHA256_N32_W8: n = 32, w = 8, p = 34 and ls = 0.
-- Here id is the identifier I of the key pair, and q is the number of the leaf.
use Rattle.std.specs.Prelude.{ℕ, zero, suc, ◌+◌, ◌-◌, List, ◌++◌, slice_index}
use Rattle.std.specs.List.{sum_by}
use Rattle.sha2.specs.Sha256.{sha256}
use Rattle.hash_sigs.specs.Strings.{u32str, u16str, u8str, joined}

-- step j of chain i (4.3, 4.5 and 4.6)
abbrev pub chain_step : List ℕ → ℕ → ℕ → ℕ → List ℕ → List ℕ
chain_step id q i j value = sha256 (id ++ u32str q ++ u16str i ++ u8str j ++ value)

-- so many steps of chain i, the first of them step j
unfoldable pub chain : List ℕ → ℕ → ℕ → ℕ → ℕ → List ℕ → List ℕ
chain id q i j zero value = value
chain id q i j (suc n) value = chain_step id q i (j + n) (chain id q i j n value)

-- the public key K, of the ends of the 34 chains (4.3)
unfoldable pub one_time_key : List ℕ → ℕ → (ℕ → List ℕ) → List ℕ
one_time_key id q ends = sha256 (id ++ u32str q ++ u16str 0x8080 ++ joined ends 34)

-- Q, the hash of a message with the randomizer C (4.5)
abbrev pub message_hash : List ℕ → ℕ → List ℕ → List ℕ → List ℕ
message_hash id q randomizer message = sha256 (id ++ u32str q ++ u16str 0x8181 ++ randomizer ++ message)

-- the checksum of Q (4.4)
abbrev pub checksum : List ℕ → ℕ
checksum hash = sum_by (λ x. 255 - x) hash

-- the digits a: the bytes of Q and then of its checksum (4.5)
unfoldable pub digits : List ℕ → List ℕ
digits hash = hash ++ u16str (checksum hash)

-- the public key that a signature's y comes to, each chain taken from step a[i] to its end (4.6)
unfoldable pub candidate : List ℕ → ℕ → List ℕ → (ℕ → List ℕ) → List ℕ
candidate id q a y = one_time_key id q (λ i. chain id q i (slice_index a i) (255 - slice_index a i) (y i))
