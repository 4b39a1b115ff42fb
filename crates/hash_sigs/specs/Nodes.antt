-- A table of the values of a key's tree, by the numbers of the nodes. Only contracts of private functions name it.
use Rattle.std.specs.Prelude.{◌≡◌, ℕ, ◌+◌, ◌*◌, ◌^◌, ◌≤◌, List, [], slice_index_or}
use Rattle.hash_sigs.specs.Key.{Origin, node}

-- node r is so many levels above the leaves, in a tree of this height
pub record InLevel (height level r : ℕ) : Type 0 where
  pub low : 2 ^ height ≤ r * 2 ^ level
  pub high : (r + 1) * 2 ^ level ≤ 2 ^ height * 2

-- the table has the value of each node from this one on
unfoldable pub HasNodes : Origin → List (List ℕ) → ℕ → Type 0
HasNodes o nodes first = (level r : ℕ) → level ≤ o.height → InLevel o.height level r → first ≤ r
    → slice_index_or nodes r [] ≡ node o level r
