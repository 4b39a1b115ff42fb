-- Runs of a program.
use Rattle.std.specs.Prelude.{◌≡◌, ℕ, ◌+◌, ◌-◌, ◌<◌, ◌==◌, Bool, false, List, [], ◌∷◌, ◌++◌, length, take, drop}
use Rattle.std.specs.Prelude.{Option, Some, None, Result, Ok, Err, if◌then◌else◌, nat_lt}
use Rattle.vm_num.specs.Item.{Item, cost, total_cost, is_true}
use Rattle.vm_num.specs.declared.failure.Failure.{Failure}
use Rattle.vm_num.specs.declared.failure.Failure.TheVariants as failures
use Rattle.vm_code.specs.Instruction.{Decoded, Misread, instruction_at}
use Rattle.vm_code.specs.Instruction as misread
use Rattle.vm_ops.specs.Results.{truth_item}
use Rattle.vm_run.specs.Row.{Context, Effect, Row, Faults, Does, Calls, row}
use Rattle.keyed.specs.Functions.{Check}

-- how a run ends: at the program's end, with what is left of the limit, the items of both stacks, and the counts of
-- instructions completed, of what was spent on them and of what was lost in predicates; or in a failure, at a place
pub data Outcome : Type 0 where
  Ended : (left : ℕ) (items alt : List Item) (count spent lost : ℕ) → Outcome
  FailedAt : (kind : Failure) (place count : ℕ) → Outcome

-- an outcome with so many instructions more before it, of these base costs and with this much lost in predicates
abbrev pub later : ℕ → ℕ → ℕ → Outcome → Outcome
later count spent lost (Ended left items alt n m k) = Ended left items alt (n + count) (m + spent) (k + lost)
later count spent lost (FailedAt kind place n) = FailedAt kind place (n + count)

abbrev pub count_of : Outcome → ℕ
count_of (Ended left items alt count spent lost) = count
count_of (FailedAt kind place count) = count

-- ---- one instruction

-- a child: its program, the items that are moved to it, and its limit
pub record Child : Type 0 where
  pub program : List ℕ
  pub items : List Item
  pub limit : ℕ

-- What one instruction comes to: it stops the run; or the run goes on; or it opens a child, and when that has run, the
-- run goes on.
pub data Move : Type 0 where
  Stops : Failure → Move
  Goes : (place : ℕ) (items alt : List Item) (left base : ℕ) → Move
  Opens : (child : Child) (place : ℕ) (items alt : List Item) (left : ℕ) → Move

-- what the items that an effect pops and pushes cost
abbrev pub popped_cost : Effect → List Item → List Item → ℕ
popped_cost e items alt = total_cost (take e.pops items) + total_cost (take e.alt_pops alt)

abbrev pub pushed_cost : Effect → ℕ
pushed_cost e = total_cost e.pushed + total_cost e.alt_pushed

-- after the instruction, or at the place that is jumped to
abbrev pub next_place : ℕ → Option ℕ → ℕ
next_place behind None = behind
next_place behind (Some place) = place

-- The limit covers the base first; what is left of it and the popped items then pay for the pushed ones.
abbrev pub paid : ℕ → List Item → List Item → ℕ → Effect → Move
paid behind items alt limit e =
    if nat_lt limit e.base then Stops failures.RunLimit
    else (if nat_lt (limit - e.base + popped_cost e items alt) (pushed_cost e) then Stops failures.RunLimit
    else Goes (next_place behind e.jump) (e.pushed ++ drop e.pops items) (e.alt_pushed ++ drop e.alt_pops alt)
    (limit - e.base + popped_cost e items alt - pushed_cost e) e.base)

-- what a child gets of what is left, by what is asked for it
abbrev pub child_limit : ℕ → ℕ → ℕ
child_limit asked left = if asked == 0 then left else asked

-- The limit covers the base of 256 first. The child's limit is taken from what is left then and may not pass it, and 0
-- asks for all of it. To the parent 192 come back, and what the three popped items cost.
abbrev pub opened : ℕ → List Item → List Item → ℕ → Item → ℕ → ℕ → Move
opened behind items alt limit program asked count =
    if nat_lt limit 256 then Stops failures.RunLimit
    else (if nat_lt (limit - 256) asked then Stops failures.RunLimit
    else (let given = child_limit asked (limit - 256) in
    Opens (record { program = program; items = take count (drop 3 items); limit = given })
    behind (drop count (drop 3 items)) alt (limit - 256 - given + 192 + total_cost (take 3 items))))

abbrev pub row_move : ℕ → List Item → List Item → ℕ → Row → Move
row_move behind items alt limit (Faults kind) = Stops kind
row_move behind items alt limit (Does e) = paid behind items alt limit e
row_move behind items alt limit (Calls program asked count) = opened behind items alt limit program asked count

abbrev pub failure_of : Misread → Failure
failure_of misread.Short = failures.Short
failure_of misread.BadOpcode = failures.BadOpcode

abbrev pub instruction_move : Context → Check → ℕ → ℕ → List Item → List Item → ℕ → Result Decoded Misread → Move
instruction_move context check size place items alt limit (Err why) = Stops (failure_of why)
instruction_move context check size place items alt limit (Ok i) =
    row_move (place + i.len) items alt limit (row context check i size items alt)

-- the instruction at a place of a program, on these items and with this limit left
unfoldable pub move : Context → Check → List ℕ → ℕ → List Item → List Item → ℕ → Move
move context check program place items alt limit =
    instruction_move context check (length program) place items alt limit (instruction_at program place)

-- ---- what a child leaves to its parent

-- there is a top item, and it is true
abbrev pub top_is_true : List Item → Bool
top_is_true [] = false
top_is_true (t ∷ items) = is_true t

-- a child is good where it ends with a true top item
abbrev pub is_good : Outcome → Bool
is_good (Ended left items alt count spent lost) = top_is_true items
is_good (FailedAt kind place count) = false

-- A good child gives back what is left of its limit and the cost of all that it still holds.
abbrev pub given_back : Outcome → ℕ
given_back (Ended left items alt count spent lost) =
    if top_is_true items then left + (total_cost items + total_cost alt) else 0
given_back (FailedAt kind place count) = 0

-- What it spent and lost counts. Of another child all is lost: its limit, and the cost of the items moved to it.
abbrev pub spent_in : Outcome → ℕ
spent_in (Ended left items alt count spent lost) = if top_is_true items then spent else 0
spent_in (FailedAt kind place count) = 0

abbrev pub lost_in : Child → Outcome → ℕ
lost_in child (Ended left items alt count spent lost) =
    if top_is_true items then lost else child.limit + total_cost child.items
lost_in child (FailedAt kind place count) = child.limit + total_cost child.items

-- its result on the items that stay, and what is left then
abbrev pub with_result : Outcome → List Item → List Item
with_result inner items = truth_item (is_good inner) ∷ items

abbrev pub left_behind : Outcome → ℕ → ℕ
left_behind inner left = left + given_back inner - cost (truth_item (is_good inner))

-- ---- runs

-- the runs of a program, from a place on, with the items of both stacks (the top first) and the limit left there
pub data Run (context : Context) (check : Check) : List ℕ → ℕ → List Item → List Item → ℕ → Outcome → Type 0 where
  -- at the program's end
  at_end :
      {program : List ℕ} {place : ℕ} {items alt : List Item} {limit : ℕ}
      → place ≡ length program
      → Run context check program place items alt limit (Ended limit items alt 0 0 0)
  -- an instruction fails
  fails :
      {program : List ℕ} {place : ℕ} {items alt : List Item} {limit : ℕ} {kind : Failure}
      → place < length program
      → move context check program place items alt limit ≡ Stops kind
      → Run context check program place items alt limit (FailedAt kind place 0)
  -- an instruction completes, and the run goes on after it, or at the place that it jumps to
  goes_on :
      {program : List ℕ} {place : ℕ} {items alt : List Item} {limit : ℕ} {next : ℕ} {items' alt' : List Item}
      {left base : ℕ} {outcome whole : Outcome}
      → place < length program
      → move context check program place items alt limit ≡ Goes next items' alt' left base
      → Run context check program next items' alt' left outcome
      → whole ≡ later 1 base 0 outcome
      → Run context check program place items alt limit whole
  -- an instruction opens a child, which runs from its start on the items moved to it, and then the run goes on
  opens :
      {program : List ℕ} {place : ℕ} {items alt : List Item} {limit : ℕ} {child : Child} {next : ℕ}
      {items' alt' : List Item} {left : ℕ} {inner outcome whole : Outcome}
      → place < length program
      → move context check program place items alt limit ≡ Opens child next items' alt' left
      → Run context check child.program 0 child.items [] child.limit inner
      → Run context check program next (with_result inner items') alt' (left_behind inner left) outcome
      → whole ≡ later (count_of inner + 1) (spent_in inner + 64) (lost_in child inner) outcome
      → Run context check program place items alt limit whole
