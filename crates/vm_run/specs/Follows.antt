-- What the code did to its machine, against the definitions. Only contracts of private functions name it.
use Rattle.std.specs.Prelude.{◌≡◌, ◌<◌, ◌≤◌, ℕ, ◌+◌, List, [], ◌∷◌, ◌++◌, length, take, drop, Result, Ok, Err}
use Rattle.vm_num.specs.Item.{Item, cost, total_cost}
use Rattle.vm_num.specs.declared.failure.Failure.TheVariants.{RunLimit}
use Rattle.vm_ops.specs.Results.{ItemResult}
use Rattle.vm_ops.specs.Bytes.{bytes_base}
use Rattle.vm_stack.specs.Stacks.{Stacks, item_at}
use Rattle.vm_run.specs.declared.machine.Machine.{Machine}
use Rattle.vm_run.specs.declared.predicate.Opened.{Opened}
use Rattle.vm_run.specs.declared.step.Done.{Done}
use Rattle.vm_run.specs.declared.step.Done.TheVariants.{Moved, Called}
use Rattle.vm_run.specs.declared.fault.StepFault.{StepFault}
use Rattle.vm_run.specs.declared.fault.StepFault.TheVariants.{Failed, NoMemory}
use Rattle.vm_run.specs.Making.{calls}
use Rattle.vm_run.specs.Row.{Row}
use Rattle.vm_run.specs.Run.{Move, Stops, Goes, Opens, row_move}
use Rattle.vm_run.specs.Stretch.{State}

-- a machine as a state of a run
abbrev pub state_of : Machine → State
state_of m = record { place = m.at; items = m.stack.items; alt = m.stack.alt; left = m.left }

abbrev pub base_of : Move → ℕ
base_of (Stops kind) = 0
base_of (Goes place items alt left base) = base
base_of (Opens child place items alt left) = 0

-- what an instruction comes to is what was answered, with the machine as it was left; out of memory is free
abbrev pub Shows : Move → Result (Unit {0}) StepFault → Machine → Type 0
Shows move (Ok done) m = move ≡ Goes m.at m.stack.items m.stack.alt m.left (base_of move)
Shows move (Err (Failed kind)) m = move ≡ Stops kind
Shows move (Err NoMemory) m = Unit {0}

-- what CHECKPREDICATE comes to on a machine that stands after it
abbrev pub call_move : Machine → Move
call_move m = row_move m.at m.stack.items m.stack.alt m.left (calls m.stack.items m.stack.alt)

-- The same of a step from these stacks and this limit. A step that came to CHECKPREDICATE has only moved the machine
-- after it; what the instruction comes to is still to be done there.
abbrev pub Leads : Stacks → ℕ → Move → Result Done StepFault → Machine → Type 0
Leads stack left move (Ok Moved) m = Shows move (Ok tt) m
Leads stack left move (Ok Called) m = (m.stack ≡ stack) × (m.left ≡ left) × (move ≡ call_move m)
Leads stack left move (Err fault) m = Shows move (Err fault) m

-- What CHECKPREDICATE comes to is the child that was opened, at its start and with an empty alt stack, with the machine
-- as it was left. The child's program is the second of the items that were popped for it.
abbrev pub IsOpened : Move → Result Opened StepFault → Machine → Type 0
IsOpened move (Ok o) m =
    (1 < length o.popped.items)
    × (o.child.at ≡ 0)
    × (o.child.stack.alt ≡ [])
    × (move
    ≡ Opens (record { program = item_at 1 o.popped.items; items = o.child.stack.items; limit = o.child.left }) m.at
    m.stack.items m.stack.alt m.left)
IsOpened move (Err fault) m = Shows move (Err fault) m

-- so is a row, on the stacks and the limit of a machine that stands after its instruction
abbrev pub Follows : Machine → Row → Result (Unit {0}) StepFault → Machine → Type 0
Follows before row result after =
    Shows (row_move before.at before.stack.items before.stack.alt before.left row) result after

-- so many items were popped and a base cost was paid, or the limit does not cover the base
abbrev pub Popped : Machine → ℕ → ℕ → Result (Unit {0}) StepFault → Machine → Type 0
Popped before n base (Ok done) after =
    (base ≤ before.left)
    × (after.stack ≡ record before.stack { items = drop n before.stack.items })
    × (after.at ≡ before.at)
    × (after.left + base ≡ before.left + total_cost (take n before.stack.items))
Popped before n base (Err fault) after = (before.left < base) × (fault ≡ Failed RunLimit)

-- an item was paid for and pushed, or the limit does not cover it
abbrev pub Pushed : Machine → Item → Result (Unit {0}) StepFault → Machine → Type 0
Pushed before item (Ok done) after =
    (after.stack ≡ record before.stack { items = item ∷ before.stack.items })
    × (after.at ≡ before.at)
    × (after.left + cost item ≡ before.left)
Pushed before item (Err (Failed kind)) after = (before.left < cost item) × (kind ≡ RunLimit)
Pushed before item (Err NoMemory) after = Unit {0}

-- copies were paid for and pushed, or the limit does not cover them
abbrev pub Copies : Machine → List Item → Result (Unit {0}) StepFault → Machine → Type 0
Copies before copies (Ok done) after =
    (after.stack ≡ record before.stack { items = copies ++ before.stack.items })
    × (after.at ≡ before.at)
    × (after.left + total_cost copies ≡ before.left)
Copies before copies (Err (Failed kind)) after = (before.left < total_cost copies) × (kind ≡ RunLimit)
Copies before copies (Err NoMemory) after = Unit {0}

-- a line of strings gave this item, which costs this to make
abbrev pub Makes : ℕ → Item → Item → ItemResult → Result ℕ StepFault → Item → Type 0
Makes code a b rule (Ok base) item = (rule ≡ Ok item) × (base ≡ bytes_base code a b item)
Makes code a b rule (Err (Failed kind)) item = rule ≡ Err kind
Makes code a b rule (Err NoMemory) item = Unit {0}

-- the same of a row, on the stacks and the limit of a machine that stands after its instruction
abbrev pub LeadsBy : Machine → Row → Result Done StepFault → Machine → Type 0
LeadsBy before row result after =
    Leads before.stack before.left (row_move before.at before.stack.items before.stack.alt before.left row) result after
