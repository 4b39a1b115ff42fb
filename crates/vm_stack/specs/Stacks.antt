-- A data stack and an alt stack, and what their items cost (Chain VM 1).
use Rattle.std.specs.Prelude.{ℕ, ◌+◌, List, [], ◌∷◌, ◌++◌, take, drop, slice_index_or, remove}
use Rattle.vm_num.specs.Item.{Item, total_cost}

-- the items of both stacks, the top of each first
pub record Stacks : Type 0 where
  pub items : List Item
  pub alt : List Item

-- what both stacks hold costs
abbrev pub held_cost : Stacks → ℕ
held_cost s = total_cost s.items + total_cost s.alt

-- the item n below the top, where it is there
abbrev pub item_at : ℕ → List Item → Item
item_at n items = slice_index_or items n []

-- the item n below the top copied onto the top
abbrev pub picked : ℕ → List Item → List Item
picked n items = item_at n items ∷ items

-- the item n below the top moved onto the top
abbrev pub rolled : ℕ → List Item → List Item
rolled n items = item_at n items ∷ remove items n

-- the top item moved to the alt stack
abbrev pub moved_to_alt : Stacks → Stacks
moved_to_alt s = record { items = drop 1 s.items; alt = take 1 s.items ++ s.alt }

-- the top of the alt stack moved back
abbrev pub moved_from_alt : Stacks → Stacks
moved_from_alt s = record { items = take 1 s.alt ++ s.items; alt = drop 1 s.alt }
