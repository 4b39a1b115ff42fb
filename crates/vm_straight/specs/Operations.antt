-- Straight code: pushes and plain instructions, one after the other. What it does to the data stack and what it needs
-- of the limit are functions, which know of no program, place or limit. Public statements name it.
use Rattle.std.specs.Prelude.{◌≡◌, ℕ, ◌+◌, ◌<◌, ◌^◌, true, List, [], ◌∷◌, ◌++◌}
use Rattle.std.specs.Prelude.{length, drop, max, Option, Some, None, ℤ}
use Rattle.keyed.specs.Functions.{Check}
use Rattle.vm_num.specs.Item.{Item, num_bytes}
use Rattle.vm_num.specs.Push.{push_of, push_int_of}
use Rattle.vm_code.specs.Instruction.{plain, is_plain}
use Rattle.vm_run.specs.declared.context.Context.{Context}
use Rattle.vm_run.specs.Lines.{on_data}
use Rattle.vm_run.specs.Row.{Row, Faults, Does, Calls, push_row, row}

-- ---- operations and their bytes

-- the shortest push of an item, that of a number, and an instruction with nothing after its code
pub data Operation : Type 0 where
  Push : Item → Operation
  PushNumber : ℤ → Operation
  Plain : (code : ℕ) → Operation

abbrev pub operation_bytes : Operation → List ℕ
operation_bytes (Push item) = push_of item
operation_bytes (PushNumber n) = push_int_of n
operation_bytes (Plain code) = code ∷ []

abbrev pub bytes_of : List Operation → List ℕ
bytes_of [] = []
bytes_of (operation ∷ operations) = operation_bytes operation ++ bytes_of operations

-- The item of a push has a length that can be written. A code has nothing after it, and its line works on the data
-- stack alone: so it is not TOALTSTACK, FROMALTSTACK or CHECKPREDICATE.
abbrev pub Fits : Operation → Type 0
Fits (Push item) = length item < 2 ^ 32
Fits (PushNumber n) = Unit {0}
Fits (Plain code) = (is_plain code ≡ true) × (on_data code ≡ true)

abbrev pub AllFit : List Operation → Type 0
AllFit [] = Unit {0}
AllFit (operation ∷ operations) = Fits operation × AllFit operations

-- ---- the data stack after it

-- the line of the machine's table, which does not depend on the program's length
abbrev pub line : Context → Check → Operation → List Item → Row
line context check (Push item) items = push_row item
line context check (PushNumber n) items = push_row (num_bytes n)
line context check (Plain code) items = row context check (plain code) 0 items []

-- the data stack after a line, unless it fails
abbrev pub after_line : Row → List Item → Option (List Item)
after_line (Faults kind) items = None
after_line (Does e) items = Some (e.pushed ++ drop e.pops items)
after_line (Calls program asked count) items = None

abbrev pub and_then : Option (List Item) → (List Item → Option (List Item)) → Option (List Item)
and_then None f = None
and_then (Some items) f = f items

-- the data stack after the code, unless an instruction fails for another cause than the limit
abbrev pub stack_after : Context → Check → List Operation → List Item → Option (List Item)
stack_after context check [] items = Some items
stack_after context check (operation ∷ operations) items =
    and_then (after_line (line context check operation items) items) (stack_after context check operations)

-- ---- what it needs

-- what items cost, one after the other
abbrev pub items_cost : List Item → ℕ
items_cost [] = 0
items_cost (item ∷ items) = 8 + length item + items_cost items

-- What the limit and the items have to come to together, so that the limit covers each instruction and so much of it is
-- left at the end: before each instruction what is held and its base cost, and after it what is held then.
abbrev pub needed_by : Row → List Item → (List Item → ℕ) → ℕ
needed_by (Faults kind) items rest = items_cost items
needed_by (Does e) items rest = e.base + max (items_cost items) (rest (e.pushed ++ drop e.pops items))
needed_by (Calls program asked count) items rest = items_cost items

abbrev pub needed : Context → Check → (left : ℕ) → List Operation → List Item → ℕ
needed context check left [] items = items_cost items + left
needed context check left (operation ∷ operations) items =
    needed_by (line context check operation items) items (needed context check left operations)
