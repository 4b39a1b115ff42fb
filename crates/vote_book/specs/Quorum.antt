-- The program that asks for signatures of a block's id, good for so many of the keys.
use Rattle.std.specs.Prelude.{ℕ, ◌^◌, ◌<◌, ◌≤◌, List, [], ◌∷◌, ◌++◌, length, pos}
use Rattle.std.specs.List.{flat_map, AllByRecursion}
use Rattle.vm_num.specs.Push.{push_of, push_int_of}

abbrev pub IsKey : List ℕ → Type 0
IsKey key = length key < 2 ^ 32

-- from 1 to 16 keys, and at most so many of them asked for
pub record IsQuorum (keys : List (List ℕ)) (m : ℕ) : Type 0 where
  pub few : length keys ≤ 16
  pub each : AllByRecursion IsKey keys
  pub some : 1 ≤ m
  pub at_most : m ≤ length keys

-- what stands after the keys: how many are asked for, how many there are, and CHECKMULTISIG
abbrev pub asking : (m n : ℕ) → List ℕ
asking m n = push_int_of (pos m) ++ (push_int_of (pos n) ++ 0xad ∷ [])

-- BLOCKHASH, the pushes of the keys, and what asks for so many of them
abbrev pub quorum_of : List (List ℕ) → ℕ → List ℕ
quorum_of keys m = 0xaf ∷ flat_map push_of keys ++ asking m (length keys)
