-- Parts of runs: instructions that complete one after the other, in a program, and in a stretch of one.
use Rattle.std.specs.Prelude.{◌≡◌, ℕ, ◌+◌, ◌-◌, ◌<◌, ◌≤◌, false, List, [], length, Ok}
use Rattle.vm_num.specs.Item.{Item}
use Rattle.vm_code.specs.Instruction.{Decoded, instruction_at, is_jump}
use Rattle.vm_run.specs.Row.{Context}
use Rattle.keyed.specs.Functions.{Check}
use Rattle.vm_run.specs.Run.{Outcome, Child, Move, Goes, Opens, instruction_move, move, Run}
use Rattle.vm_run.specs.Run.{count_of, spent_in, lost_in, with_result, left_behind}

-- a place of a program, the items of both stacks (the top first), and what is left of the limit
pub record State : Type 0 where
  pub place : ℕ
  pub items : List Item
  pub alt : List Item
  pub left : ℕ

-- the runs from a state on
abbrev pub RunFrom : Context → Check → List ℕ → State → Outcome → Type 0
RunFrom context check program s outcome = Run context check program s.place s.items s.alt s.left outcome

-- the runs of a child, from its start on the items that are moved to it
abbrev pub RunIn : Context → Check → Child → Outcome → Type 0
RunIn context check child outcome = Run context check child.program 0 child.items [] child.limit outcome

-- An instruction completes: it leads to a state, and counts for so many instructions, of these base costs and with this
-- much lost in predicates.
pub data Completes (context : Context) (check : Check) : Move → State → ℕ → ℕ → ℕ → Type 0 where
  -- it counts for itself alone
  alone : {t : State} {base : ℕ} → Completes context check (Goes t.place t.items t.alt t.left base) t 1 base 0
  -- and for those of the child that it opens
  with_child :
      {child : Child} {place : ℕ} {items alt : List Item} {left : ℕ} {inner : Outcome}
      → RunIn context check child inner
      → Completes context check (Opens child place items alt left)
      (record { place = place; items = with_result inner items; alt = alt; left = left_behind inner left })
      (count_of inner + 1) (spent_in inner + 64) (lost_in child inner)

-- So many completed instructions of a program lead from one state to another, those of children counted, of these base
-- costs together and with this much lost in predicates.
pub data Steps (context : Context) (check : Check) (program : List ℕ) : State → ℕ → ℕ → ℕ → State → Type 0 where
  none : {s : State} → Steps context check program s 0 0 0 s
  and_one :
      {s t end : State} {n m k count spent lost : ℕ}
      → s.place < length program
      → Completes context check (move context check program s.place s.items s.alt s.left) t n m k
      → Steps context check program t count spent lost end
      → Steps context check program s (count + n) (spent + m) (lost + k) end

-- The instruction at a place, in a stretch of code that stands from a place of a program on. It knows of the program
-- only that the stretch is in it.
unfoldable pub stretch_move : Context → Check → ℕ → List ℕ → State → Move
stretch_move context check from code s =
    instruction_move context check (from + length code) s.place s.items s.alt s.left
    (instruction_at code (s.place - from))

-- so many completed instructions, those of children counted and all others in the stretch, lead from a state to another
pub data Stretch (context : Context) (check : Check) (from : ℕ) (code : List ℕ)
    : State → ℕ → ℕ → ℕ → State → Type 0 where
  nothing : {s : State} → Stretch context check from code s 0 0 0 s
  and_then :
      {s t end : State} {n m k count spent lost : ℕ}
      → from ≤ s.place
      → s.place < from + length code
      → Completes context check (stretch_move context check from code s) t n m k
      → Stretch context check from code t count spent lost end
      → Stretch context check from code s (count + n) (spent + m) (lost + k) end

-- a state so many bytes further on
abbrev pub further : ℕ → State → State
further n s = record s { place = n + s.place }

-- So many completed instructions, those of children counted and all others in the code and none a jump, lead from one
-- state to another; places are counted from the code's start. Such a stretch may stand anywhere.
pub data Straight (context : Context) (check : Check) (code : List ℕ) : State → ℕ → ℕ → ℕ → State → Type 0 where
  no_more : {s : State} → Straight context check code s 0 0 0 s
  straight_on :
      {s t end : State} {i : Decoded} {n m k count spent lost : ℕ}
      → instruction_at code s.place ≡ Ok i
      → is_jump i.code ≡ false
      → Completes context check (instruction_move context check (length code) s.place s.items s.alt s.left (Ok i)) t
      n m k
      → Straight context check code t count spent lost end
      → Straight context check code s (count + n) (spent + m) (lost + k) end
