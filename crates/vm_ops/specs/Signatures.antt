-- Signatures of one message by some of several keys (Chain VM 1, CHECKMULTISIG).
use Rattle.std.specs.Prelude.{◌≡◌, ℕ, ◌+◌, ◌<◌, ◌&&◌, ◌||◌, Bool, true, false, List, [], ◌∷◌, length, take, drop}
use Rattle.std.specs.Prelude.{reverse, slice_index_or}
use Rattle.keyed.specs.Functions.{Check}
use Rattle.vm_num.specs.Item.{Item}

-- There are places of keys, each after the one before, at which the signatures, in their order, are good.
pub record MultiGood (check : Check) (keys : List Item) (message : Item) (signatures : List Item) : Type 0 where
  pub place : ℕ → ℕ
  pub increasing : (i : ℕ) → i + 1 < length signatures → place i < place (i + 1)
  pub within : (i : ℕ) → i < length signatures → place i < length keys
  pub good : (i : ℕ)
      → i < length signatures
      → check (slice_index_or keys (place i) []) message (slice_index_or signatures i []) ≡ true

-- The same, found by trying: the first key is of the first signature, or it is of none.
abbrev pub is_multi_good : Check → List Item → Item → List Item → Bool
is_multi_good check keys message [] = true
is_multi_good check [] message (s ∷ signatures) = false
is_multi_good check (k ∷ keys) message (s ∷ signatures) =
    check k message s && is_multi_good check keys message signatures
    || is_multi_good check keys message (s ∷ signatures)

-- In items, the top first: on top so many keys, below them the message, below it so many signatures. Keys and
-- signatures are read from the bottom up.
abbrev pub keys_in : ℕ → List Item → List Item
keys_in n items = reverse (take n items)

abbrev pub message_in : ℕ → List Item → Item
message_in n items = slice_index_or items n []

abbrev pub signatures_in : ℕ → ℕ → List Item → List Item
signatures_in m n items = reverse (take m (drop (n + 1) items))
