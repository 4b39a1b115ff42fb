-- The tree of LMS (RFC 8554, section 5): node 1 is the root, nodes 2 r and 2 r + 1 stand below node r, and the leaves
-- of a tree of height h are the nodes 2^h + q.
use Rattle.std.specs.Prelude.{ℕ, zero, suc, ◌/◌, ◌%◌, ◌^◌, ◌==◌, List, ◌++◌, if◌then◌else◌}
use Rattle.sha2.specs.Sha256.{sha256}
use Rattle.hash_sigs.specs.Strings.{u32str, u16str}

-- the value of a leaf, of its one-time public key (5.3)
abbrev pub leaf : List ℕ → ℕ → List ℕ → List ℕ
leaf id r key = sha256 (id ++ u32str r ++ u16str 0x8282 ++ key)

-- the value of another node, of the values of the two below it (5.3)
abbrev pub interior : List ℕ → ℕ → List ℕ → List ℕ → List ℕ
interior id r left right = sha256 (id ++ u32str r ++ u16str 0x8383 ++ left ++ right)

-- the value above node r, of its own and of its sibling's: where r is odd, the sibling stands on the left (5.4.2)
unfoldable pub above : List ℕ → ℕ → List ℕ → List ℕ → List ℕ
above id r value sibling = if r % 2 == 1
    then interior id (r / 2) sibling value
    else interior id (r / 2) value sibling

-- the value so many levels above node r, where path n is the sibling's value n levels above it (5.4.2)
unfoldable pub climbed : List ℕ → ℕ → List ℕ → (ℕ → List ℕ) → ℕ → List ℕ
climbed id r value path zero = value
climbed id r value path (suc n) = above id (r / 2 ^ n) (climbed id r value path n) (path n)
