-- What roots are, part by part, and that the root of a set is one of its members alone.
use Rattle.std.specs.Prelude.{◌≡◌, ◌↔◌, ℕ, ◌<◌, ◌≤◌, ◌^◌, List, [], ◌∷◌, ◌++◌, length, Contains}
use Rattle.std.specs.List.{All}
use Rattle.merkle.specs.Roots.{leaf, node, list_root, has_bit, without, with, set_root}
use Rattle.keyed.specs.Functions.{Hash}

-- of lists
pub record ListRoots (hash : Hash) : Type 0 where
  pub empty : list_root hash [] ≡ hash []
  pub one : (id : List ℕ) → list_root hash (id ∷ []) ≡ leaf hash id
  -- split at the greatest power of two below the number of ids
  pub more : (left right : List (List ℕ)) (k : ℕ)
      → length left ≡ 2 ^ k
      → 0 < length right
      → length right ≤ 2 ^ k
      → list_root hash (left ++ right) ≡ node hash (list_root hash left) (list_root hash right)

-- the members have the same bits before this place
abbrev pub AgreeBefore : (place : ℕ) → List (List ℕ) → Type 0
AgreeBefore place ids =
    (a b : List ℕ) → Contains ids a → Contains ids b → (k : ℕ) → k < place → has_bit k a ≡ has_bit k b

-- 32 bytes
pub record IsId (id : List ℕ) : Type 0 where
  pub long : length id ≡ 32
  pub bytes : All (λ byte. byte < 256) id

-- two lists have the same members
abbrev pub HaveSameMembers : (xs ys : List (List ℕ)) → Type 0
HaveSameMembers xs ys = (id : List ℕ) → Contains xs id ↔ Contains ys id

-- of sets, given as lists of their members
pub record SetRoots (hash : Hash) : Type 0 where
  pub empty : set_root hash [] ≡ hash []
  pub one : (id : List ℕ) → set_root hash (id ∷ []) ≡ leaf hash id
  -- split at the first bit in which members differ
  pub more : (ids : List (List ℕ)) (place : ℕ)
      → place < 256
      → AgreeBefore place ids
      → 0 < length (without place ids)
      → 0 < length (with place ids)
      → set_root hash ids ≡ node hash (set_root hash (without place ids)) (set_root hash (with place ids))
  -- how the members are listed has no part in it
  pub members : (xs ys : List (List ℕ))
      → All IsId xs
      → HaveSameMembers xs ys
      → set_root hash xs ≡ set_root hash ys
