-- The wrapped form of a program, its body: it pushes items on top of the arguments, and calls the body on all of them.
-- Public statements name it.
use Rattle.std.specs.Prelude.{ℕ, ◌+◌, List, [], ◌∷◌, ◌++◌, length}
use Rattle.vm_num.specs.Item.{Item}
use Rattle.vm_straight.specs.Operations.{Operation, Push, Plain, bytes_of}

-- the pushes of items, the last first
abbrev pub pushes : List Item → List Operation
pushes [] = []
pushes (item ∷ items) = pushes items ++ (Push item ∷ [])

-- the pushes, DEPTH, which says how many items there are, the push of the body, and 00, which asks for all of the limit
abbrev pub before_call : (body : List ℕ) → (held : List Item) → List Operation
before_call body held = pushes held ++ (Plain 0x74 ∷ Push body ∷ Push [] ∷ [])

-- and CHECKPREDICATE
unfoldable pub wrapped : (body : List ℕ) → (held : List Item) → List ℕ
wrapped body held = bytes_of (before_call body held) ++ (0xc0 ∷ [])

-- what the pushes of items need: a base of 1 and the item's cost each
abbrev pub pushes_need : List Item → ℕ
pushes_need [] = 0
pushes_need (item ∷ items) = 9 + length item + pushes_need items
