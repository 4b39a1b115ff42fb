-- Instructions that push an item.
use Rattle.std.specs.Prelude.{◌≡◌, ℕ, ◌≤◌, List, Result, Ok, Err}
use Rattle.vm_num.specs.Item.{Item}
use Rattle.vm_code.specs.Instruction.{Decoded, Misread}
use Rattle.vm_run.specs.Row.{Context, row, push_row}
use Rattle.keyed.specs.Functions.{Check}

-- an instruction of these bytes of data and of this length is read, by a code that pushes its data, 4e at most
abbrev pub ReadsData : Result Decoded Misread → Item → ℕ → Type 0
ReadsData (Ok i) item len = (i.pushed ≡ item) × (i.len ≡ len) × (i.code ≤ 0x4e)
ReadsData (Err why) item len = ⊥

-- an instruction of this length is read, its line of the table pushes this item, and its code, 60 at most, is no jump's
abbrev pub ReadsPush : Result Decoded Misread → Item → ℕ → Type 0
ReadsPush (Ok i) item len =
    (i.len ≡ len)
    × ((context : Context) (check : Check) (size : ℕ) (items alt : List Item)
    → row context check i size items alt ≡ push_row item)
    × (i.code ≤ 0x60)
ReadsPush (Err why) item len = ⊥
