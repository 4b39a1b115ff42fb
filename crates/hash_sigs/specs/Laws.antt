-- What holds of each key and its signatures.
use Rattle.std.specs.Prelude.{◌≡◌, ◌≢◌, ℕ, ◌^◌, ◌<◌, ◌⊎◌, List, IsTrue, length, slice_range}
use Rattle.hash_sigs.specs.Signature.{leaf_number, lms}
use Rattle.hash_sigs.specs.Key.{Origin, IsHeight, public_key, signature}

-- each signature is good for the public key, whatever its leaf and message are
abbrev pub SignaturesAreGood : Type 0
SignaturesAreGood = (o : Origin) (q : ℕ) (message : List ℕ)
    → IsHeight o.height
    → length o.id ≡ 16
    → q < 2 ^ o.height
    → IsTrue (lms (public_key o) message (signature o q message))

-- a signature's first four bytes are the number of its leaf
abbrev pub SignaturesShowLeaves : Type 0
SignaturesShowLeaves = (o : Origin) (q : ℕ) (message : List ℕ)
    → IsHeight o.height
    → q < 2 ^ o.height
    → leaf_number (signature o q message) ≡ q

-- two signatures with different leaves differ in their first four bytes
abbrev pub LeavesAreApart : Type 0
LeavesAreApart = (o : Origin) (q r : ℕ) (first second : List ℕ)
    → IsHeight o.height
    → q < 2 ^ o.height
    → r < 2 ^ o.height
    → q ≢ r
    → slice_range (signature o q first) 0 4 ≢ slice_range (signature o r second) 0 4

-- a public key has 56 bytes, and a signature 1,292 in a tree of height 5 and 1,452 in one of height 10
abbrev pub Sizes : Type 0
Sizes = (key message signature : List ℕ)
    → IsTrue (lms key message signature)
    → (length key ≡ 56) × ((length signature ≡ 1292) ⊎ (length signature ≡ 1452))
