-- Where a reader of a quorum program stands. Only contracts of private functions name it.
use Rattle.std.specs.Prelude.{◌≡◌, ℕ, ◌+◌, List, ◌++◌, length}
use Rattle.std.specs.List.{flat_map}
use Rattle.vm_num.specs.Push.{push_of}
use Rattle.vote_book.specs.Quorum.{IsQuorum, quorum_of}

-- where the program is that of a quorum, these are the first of its keys, and this is the place after their pushes
abbrev pub AreFirst : (program : List ℕ) → (keys : List (List ℕ)) → (at : ℕ) → Type 0
AreFirst program keys at =
    (all : List (List ℕ)) (m : ℕ)
    → IsQuorum all m
    → program ≡ quorum_of all m
    → (rest : List (List ℕ)) × (all ≡ keys ++ rest) × (at ≡ 1 + length (flat_map push_of keys))

-- the same of all of its keys
abbrev pub AreBehind : (program : List ℕ) → (keys : List (List ℕ)) → (at : ℕ) → Type 0
AreBehind program keys at =
    (all : List (List ℕ)) (m : ℕ)
    → IsQuorum all m
    → program ≡ quorum_of all m
    → (keys ≡ all) × (at ≡ 1 + length (flat_map push_of all))
