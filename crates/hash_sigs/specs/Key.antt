-- The key pair that comes from a seed, an identifier I and a height (RFC 8554, sections 4 and 5, and Appendix A), and
-- its signatures.
use Rattle.std.specs.Prelude.{◌≡◌, ℕ, zero, suc, ◌+◌, ◌-◌, ◌*◌, ◌/◌, ◌%◌, ◌^◌, ◌==◌, ◌⊎◌, List, ◌++◌}
use Rattle.std.specs.Prelude.{slice_index, if◌then◌else◌}
use Rattle.sha2.specs.Sha256.{sha256}
use Rattle.hash_sigs.specs.Strings.{u32str, u16str, u8str, joined}
use Rattle.hash_sigs.specs.OneTime.{chain, one_time_key, message_hash, digits}
use Rattle.hash_sigs.specs.Tree.{leaf, interior}

-- what a key was made of: its seed, I, and its tree's height
pub record Origin : Type 0 where
  pub seed : List ℕ
  pub id : List ℕ
  pub height : ℕ

-- a key: what it was made of, and how many signatures it has given
pub record Key : Type 0 where
  pub origin : Origin
  pub used : ℕ

-- the heights of the two types of trees
abbrev pub IsHeight : ℕ → Type 0
IsHeight height = (height ≡ 5) ⊎ (height ≡ 10)

-- the number of the tree's type: LMS_SHA256_M32_H5 is 5, LMS_SHA256_M32_H10 is 6 (5.1)
abbrev pub typecode : ℕ → ℕ
typecode height = if height == 5 then 5 else 6

-- element i of the private key of leaf q (Appendix A)
abbrev pub private_element : Origin → ℕ → ℕ → List ℕ
private_element o q i = sha256 (o.id ++ u32str q ++ u16str i ++ u8str 255 ++ o.seed)

-- the randomizer C of leaf q; the standard leaves its choice open
abbrev pub own_randomizer : Origin → ℕ → List ℕ
own_randomizer o q = sha256 (o.id ++ u32str q ++ u16str 65533 ++ u8str 255 ++ o.seed)

-- chain i of leaf q after so many steps
abbrev pub own_chain : Origin → ℕ → ℕ → ℕ → List ℕ
own_chain o q i steps = chain o.id q i 0 steps (private_element o q i)

-- the one-time public key of leaf q (4.3)
abbrev pub own_one_time_key : Origin → ℕ → List ℕ
own_one_time_key o q = one_time_key o.id q (λ i. own_chain o q i 255)

-- T[r], node r being so many levels above the leaves (5.3)
unfoldable pub node : Origin → ℕ → ℕ → List ℕ
node o zero r = leaf o.id r (own_one_time_key o (r - 2 ^ o.height))
node o (suc level) r = interior o.id r (node o level (2 * r)) (node o level (2 * r + 1))

-- the public key, of 56 bytes (5.3)
unfoldable pub public_key : Origin → List ℕ
public_key o = u32str (typecode o.height) ++ u32str 4 ++ o.id ++ node o o.height 1

-- the other node below the node above this one
abbrev pub sibling : ℕ → ℕ
sibling r = if r % 2 == 1 then r - 1 else r + 1

-- the sibling's value so many levels above leaf q (5.4.1)
unfoldable pub own_path : Origin → ℕ → ℕ → List ℕ
own_path o q level = node o level (sibling ((2 ^ o.height + q) / 2 ^ level))

-- y[i] of the signature of a message: chain i after a[i] steps (4.5)
unfoldable pub own_y : Origin → ℕ → List ℕ → ℕ → List ℕ
own_y o q message i =
    let a = digits (message_hash o.id q (own_randomizer o q) message) in
    own_chain o q i (slice_index a i)

-- the signature of a message with leaf q (4.5 and 5.4)
unfoldable pub signature : Origin → ℕ → List ℕ → List ℕ
signature o q message =
    u32str q ++ u32str 4 ++ own_randomizer o q ++ joined (own_y o q message) 34
    ++ u32str (typecode o.height) ++ joined (own_path o q) o.height
