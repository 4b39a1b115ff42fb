-- When a signature is good for a key and a message (RFC 8554, sections 5.3 and 5.4), for the types LMS_SHA256_M32_H5
-- and LMS_SHA256_M32_H10 over LMOTS_SHA256_N32_W8.
-- A public key has the tree's type at 0, the one-time type at 4, I at 8 and T[1] at 24, and 56 bytes. A signature has q
-- at 0, the one-time type at 4, C at 8, y[0] to y[33] from 40 on, the tree's type at 1128 and the path from 1132 on.
use Rattle.std.specs.Prelude.{ℕ, ◌+◌, ◌*◌, ◌^◌, ◌==◌, ◌&&◌, ◌||◌, Bool, List, nat_lt, length, slice_range, bytes_eq}
use Rattle.std.specs.Int.{w32, from_be_bytes}
use Rattle.hash_sigs.specs.Strings.{u32str, string_at}
use Rattle.hash_sigs.specs.OneTime.{message_hash, digits, candidate}
use Rattle.hash_sigs.specs.Tree.{leaf, climbed}

-- q
unfoldable pub leaf_number : List ℕ → ℕ
leaf_number signature = from_be_bytes w32 (slice_range signature 0 4)

-- C
abbrev pub randomizer : List ℕ → List ℕ
randomizer signature = slice_range signature 8 40

-- the one-time public key that the signature comes to
unfoldable pub key_candidate : List ℕ → List ℕ → List ℕ → List ℕ
key_candidate id message signature =
    let q = leaf_number signature in
    let hash = message_hash id q (randomizer signature) message in
    candidate id q (digits hash) (string_at signature 40)

-- the root that the signature comes to, in a tree of this height
unfoldable pub root_candidate : ℕ → List ℕ → List ℕ → List ℕ → List ℕ
root_candidate height id message signature =
    let r = 2 ^ height + leaf_number signature in
    climbed id r (leaf id r (key_candidate id message signature)) (string_at signature 1132) height

-- the key is one of this type
abbrev pub is_key : ℕ → List ℕ → Bool
is_key typecode key =
    (length key == 56)
    && bytes_eq (slice_range key 0 4) (u32str typecode)
    && bytes_eq (slice_range key 4 8) (u32str 4)

-- the signature is one of this type, for a tree of this height
abbrev pub is_signature : ℕ → ℕ → List ℕ → Bool
is_signature typecode height signature =
    (length signature == 1132 + 32 * height)
    && bytes_eq (slice_range signature 4 8) (u32str 4)
    && bytes_eq (slice_range signature 1128 1132) (u32str typecode)
    && nat_lt (leaf_number signature) (2 ^ height)

-- the signature is good for a key of this type, whose tree has this height
unfoldable pub lms_of : ℕ → ℕ → List ℕ → List ℕ → List ℕ → Bool
lms_of typecode height key message signature =
    is_key typecode key
    && is_signature typecode height signature
    && bytes_eq (root_candidate height (slice_range key 8 24) message signature) (slice_range key 24 56)

-- the signature is good for the key and the message: a key of type 5 has height 5, one of type 6 has height 10 (5.1)
unfoldable pub lms : List ℕ → List ℕ → List ℕ → Bool
lms key message signature = lms_of 5 5 key message signature || lms_of 6 10 key message signature
