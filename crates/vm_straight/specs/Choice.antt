-- Several pieces of straight code, of which an item chooses one by its number: each stands after a guard, which jumps
-- past it unless the item is its number. Public statements name it.
use Rattle.std.specs.Prelude.{◌≡◌, ℕ, ◌+◌, ◌<◌, ◌≤◌, ◌^◌, List, [], ◌∷◌, ◌++◌, length, Some, ℤ, pos, slice_index_or}
use Rattle.std.specs.Int.{w32, to_le_bytes}
use Rattle.keyed.specs.Functions.{Check}
use Rattle.vm_num.specs.Item.{Item, num}
use Rattle.vm_run.specs.declared.context.Context.{Context}
use Rattle.vm_straight.specs.Operations.{Operation, PushNumber, Plain, bytes_of, AllFit, stack_after}
use Rattle.vm_straight.specs.Operations.{items_cost, needed}

-- PICK: a copy of the item under so many others
abbrev pub fetch : (depth : ℕ) → List Operation
fetch depth = PushNumber (pos depth) ∷ Plain 0x79 ∷ []

-- JUMPIF to a place
abbrev pub jump_if : (place : ℕ) → List ℕ
jump_if place = 0x64 ∷ to_le_bytes w32 place

-- NUMNOTEQUAL: whether the item under so many others is another number than this
abbrev pub guard : (depth number : ℕ) → List Operation
guard depth number = fetch depth ++ (PushNumber (pos number) ∷ Plain 0x9e ∷ [])

-- the place after a piece with its guard that begin at a place: JUMPIF has 5 bytes
abbrev pub past : (depth number place : ℕ) → List Operation → ℕ
past depth number place piece = place + length (bytes_of (guard depth number)) + 5 + length (bytes_of piece)

-- the bytes of the pieces with their guards, which begin at a place and are numbered from a number on
abbrev pub choices : (depth number place : ℕ) → List (List Operation) → List ℕ
choices depth number place [] = []
choices depth number place (piece ∷ pieces) =
    bytes_of (guard depth number) ++ (jump_if (past depth number place piece) ++ (bytes_of piece
    ++ choices depth (number + 1) (past depth number place piece) pieces))

-- The item under so many others is this number.
pub record HasNumberAt (items : List Item) (depth : ℕ) (chosen : ℤ) : Type 0 where
  pub within : depth < length items
  pub small : depth < 2 ^ 63
  pub is : num (slice_index_or items depth []) ≡ Some chosen

-- Each piece leaves the items as they were, unless it fails.
abbrev pub AllKeep : Context → Check → List Item → List (List Operation) → Type 0
AllKeep context check items [] = Unit {0}
AllKeep context check items (piece ∷ pieces) =
    (AllFit piece × ((found : List Item) → stack_after context check piece items ≡ Some found → found ≡ items))
    × AllKeep context check items pieces

-- The chosen piece does not fail.
abbrev pub ChosenRuns : Context → Check → List Item → (chosen : ℤ) → (number : ℕ) → List (List Operation) → Type 0
ChosenRuns context check items chosen number [] = Unit {0}
ChosenRuns context check items chosen number (piece ∷ pieces) =
    (chosen ≡ pos number → stack_after context check piece items ≡ Some items)
    × ChosenRuns context check items chosen (number + 1) pieces

-- It does not fail, and needs no more than is due beyond the items and what it leaves.
abbrev pub ChosenNeeds : Context → Check → List Item → (chosen : ℤ) → (due number : ℕ) → List (List Operation) → Type 0
ChosenNeeds context check items chosen due number [] = Unit {0}
ChosenNeeds context check items chosen due number (piece ∷ pieces) =
    (chosen ≡ pos number → (stack_after context check piece items ≡ Some items)
    × ((left : ℕ) → needed context check left piece items ≤ items_cost items + (due + left)))
    × ChosenNeeds context check items chosen due (number + 1) pieces

-- what the guards need beyond the items: 39 for each, and the length of the item that chooses
abbrev pub guards_need : Item → List (List Operation) → ℕ
guards_need selector [] = 0
guards_need selector (piece ∷ pieces) = 39 + length selector + guards_need selector pieces
