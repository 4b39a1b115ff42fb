-- What holds of lines, of moves, of runs and of their parts, for every context, check and program.
use Rattle.std.specs.Prelude.{◌≡◌, ℕ, ◌+◌, ◌-◌, ◌≤◌, ◌<◌, true, false, List, ◌++◌, length, take, drop, Ok, Err}
use Rattle.vm_num.specs.Item.{Item, total_cost}
use Rattle.vm_num.specs.declared.failure.Failure.{Failure}
use Rattle.vm_num.specs.declared.failure.Failure.TheVariants.{RunLimit}
use Rattle.vm_code.specs.Instruction.{Decoded, Misread, instruction_at, is_jump, jump}
use Rattle.vm_run.specs.Effect.{on_one}
use Rattle.vm_run.specs.Lines.{on_data, WorksOnData}
use Rattle.vm_run.specs.Moving.{jump_row, jump_if_row}
use Rattle.vm_run.specs.Row.{Context, Effect, Faults, Does, Calls, row}
use Rattle.keyed.specs.Functions.{Check}
use Rattle.vm_run.specs.Run.{Outcome, later, Stops, Goes, Opens, popped_cost, pushed_cost, next_place, child_limit}
use Rattle.vm_run.specs.Run.{row_move, failure_of, move}
use Rattle.vm_run.specs.Stretch.{State, RunFrom, Steps, Stretch, further, Straight}

-- what is left of the limit and what is on both stacks
abbrev pub held : State → ℕ
held s = s.left + (total_cost s.items + total_cost s.alt)

pub record LineLaws (context : Context) (check : Check) : Type 0 where
  -- an instruction that is no jump has the same line in programs of all lengths
  pub sizes : (i : Decoded) (size size' : ℕ) (items alt : List Item)
      → is_jump i.code ≡ false
      → row context check i size items alt ≡ row context check i size' items alt
  -- the line of a code on the data stack alone leaves the alt stack, does not jump and calls no program
  pub only_data : (i : Decoded) (size : ℕ) (items alt : List Item)
      → on_data i.code ≡ true
      → WorksOnData (row context check i size items alt)
  -- JUMP goes on at its place, and so does JUMPIF where the top item, which it pops, is true
  pub jumps : (place size : ℕ) (items alt : List Item)
      → row context check (jump 0x63 place) size items alt ≡ jump_row 0 place size
  pub jumps_if : (place size : ℕ) (items alt : List Item)
      → row context check (jump 0x64 place) size items alt ≡ on_one (jump_if_row place size) items alt

pub record MoveLaws (context : Context) (check : Check) (program : List ℕ) (place : ℕ) : Type 0 where
  -- the move at a place is that of the line of the instruction there, with the place after the instruction
  pub read : (items alt : List Item) (limit : ℕ) (i : Decoded)
      → instruction_at program place ≡ Ok i
      → move context check program place items alt limit
      ≡ row_move (place + i.len) items alt limit (row context check i (length program) items alt)
  -- where no instruction stands, it stops
  pub misread : (items alt : List Item) (limit : ℕ) (why : Misread)
      → instruction_at program place ≡ Err why
      → move context check program place items alt limit ≡ Stops (failure_of why)

-- of the place after an instruction, the items of both stacks, and the limit
pub record PaymentLaws (behind : ℕ) (items alt : List Item) (limit : ℕ) : Type 0 where
  -- a line that fails stops
  pub fails : (kind : Failure) → row_move behind items alt limit (Faults kind) ≡ Stops kind
  -- an effect stops where the limit does not cover the base
  pub short_of_base : (e : Effect)
      → limit < e.base
      → row_move behind items alt limit (Does e) ≡ Stops RunLimit
  -- or where it and the popped items do not pay for the base and the pushed items
  pub short_of_price : (e : Effect)
      → e.base ≤ limit
      → limit + popped_cost e items alt < e.base + pushed_cost e
      → row_move behind items alt limit (Does e) ≡ Stops RunLimit
  -- else it goes on, with what is left of them
  pub goes : (e : Effect) (left : ℕ)
      → e.base ≤ limit
      → left + e.base + pushed_cost e ≡ limit + popped_cost e items alt
      → row_move behind items alt limit (Does e)
      ≡ Goes (next_place behind e.jump) (e.pushed ++ drop e.pops items) (e.alt_pushed ++ drop e.alt_pops alt)
      left e.base
  -- a call stops where the limit does not cover 256 and what is asked for the child
  pub short_of_call : (program : Item) (asked count : ℕ)
      → limit < 256 + asked
      → row_move behind items alt limit (Calls program asked count) ≡ Stops RunLimit
  -- else it opens the child: 64 are spent, and the popped items and what the child is not given are left
  pub opens : (program : Item) (asked count given left : ℕ)
      → 256 + asked ≤ limit
      → child_limit asked (limit - 256) ≡ given
      → left + given + 64 ≡ limit + total_cost (take 3 items)
      → row_move behind items alt limit (Calls program asked count)
      ≡ Opens (record { program = program; items = take count (drop 3 items); limit = given })
      behind (drop count (drop 3 items)) alt left

pub record StepLaws (context : Context) (check : Check) (program : List ℕ) : Type 0 where
  -- what is spent and lost is taken from the limit and the items together, and is 1 at least for each instruction
  pub costs : {s t : State} {n spent lost : ℕ}
      → Steps context check program s n spent lost t
      → (held t + spent + lost ≡ held s) × (n ≤ spent + lost)
  -- steps lead at most to the program's end
  pub inside : {s t : State} {n spent lost : ℕ}
      → Steps context check program s n spent lost t
      → s.place ≤ length program
      → t.place ≤ length program
  -- steps after steps are steps
  pub joined : {s t end : State} {n n' spent spent' lost lost' : ℕ}
      → Steps context check program s n spent lost t
      → Steps context check program t n' spent' lost' end
      → Steps context check program s (n' + n) (spent' + spent) (lost' + lost) end
  -- steps and then a run are a run
  pub then_run : {s t : State} {n spent lost : ℕ} {outcome : Outcome}
      → Steps context check program s n spent lost t
      → RunFrom context check program t outcome
      → RunFrom context check program s (later n spent lost outcome)

pub record StretchLaws (context : Context) (check : Check) : Type 0 where
  -- the steps of a stretch are steps of each program that holds it at its place
  pub held : (from : ℕ) (code before after : List ℕ)
      → length before ≡ from
      → {s t : State} {n spent lost : ℕ}
      → Stretch context check from code s n spent lost t
      → Steps context check (before ++ code ++ after) s n spent lost t
  -- those of a stretch without jumps are steps of the stretch at any place
  pub anywhere : (from : ℕ) (code : List ℕ) {s t : State} {n spent lost : ℕ}
      → Straight context check code s n spent lost t
      → Stretch context check from code (further from s) n spent lost (further from t)
  -- the steps of a part of a stretch are steps of the stretch
  pub within : (from : ℕ) (code before after : List ℕ) {s t : State} {n spent lost : ℕ}
      → Stretch context check (from + length before) code s n spent lost t
      → Stretch context check from (before ++ code ++ after) s n spent lost t
  -- those of one stretch join
  pub joined : (from : ℕ) (code : List ℕ) {s t end : State} {n n' spent spent' lost lost' : ℕ}
      → Stretch context check from code s n spent lost t
      → Stretch context check from code t n' spent' lost' end
      → Stretch context check from code s (n' + n) (spent' + spent) (lost' + lost) end
