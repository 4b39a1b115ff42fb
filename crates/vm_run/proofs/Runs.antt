-- Laws of runs.
use Rattle.std.proofs.Common.{◌≡◌, ℕ, ◌+◌, ◌-◌, ◌<◌, ◌≤◌, Bool, true, false, cond, List, [], ◌++◌, length, drop, take, reverse, refl, sym, ◌∙◌, ap, subst, arith, Option, Some, None, Result, Ok, Err, inl, inr}
use Rattle.std.proofs.lemmas.Bool.{cases_lt}
use Rattle.std.proofs.lemmas.List.Sums.{sum_by-append, sum_by-cons}
use Rattle.std.proofs.lemmas.List.Sorted.{IsPermutation-reverse, sum_by-IsPermutation}
use Rattle.vm_num.specs.Item.{Item, cost, total_cost}
use Rattle.vm_code.specs.Instruction.{Decoded, Misread, instruction_at}
use Rattle.vm_code.specs.Readings.{within}
use Rattle.vm_run.specs.Row.{Context, Row, Faults, Does, Calls, Effect, row}
use Rattle.keyed.specs.Functions.{Check}
use Rattle.vm_run.specs.Run.{Outcome, Ended, FailedAt, later, count_of, Child, Move, Stops, Goes, Opens, popped_cost, pushed_cost, next_place, paid, opened, row_move, instruction_move, move, top_is_true, is_good, spent_in, lost_in, given_back, with_result, left_behind, Run, at_end, fails, goes_on, opens}
use Rattle.vm_run.specs.Stretch.{State, RunIn, Completes, alone, with_child, Steps, none, and_one}
use Rattle.vm_run.specs.Laws.{held}
use Rattle.vm_ops.specs.Results.{truth_item}
use Rattle.vm_run.specs.Verdict.{RunOn}
use Rattle.vm_run.specs.Making.{calls}
use Rattle.vm_run.specs.Follows.{IsOpened, call_move}
use Rattle.vm_run.specs.declared.predicate.Opened.{Opened}
use Rattle.vm_run.specs.declared.machine.Machine.{Machine}
use Rattle.vm_stack.specs.Stacks.{held_cost}
use Rattle.vm_run.proofs.Fair.{Within, Inside, Fair, row-fair, predicate}
use Rattle.vm_run.specs.Moves.{move-read, short_of_base, short_of_price, covered, cost-split, child_limit-within, short_of_opening, short_of_asked, opening}

-- ---- one outcome

-- what follows on a move
abbrev Behind : Context → Check → List ℕ → ℕ → Move → Outcome → Type 0
Behind context check program at (Stops kind) whole = whole ≡ FailedAt kind at 0
Behind context check program at (Goes place items alt left base) whole =
    (outcome : Outcome) × Run context check program place items alt left outcome × (whole ≡ later 1 base 0 outcome)
Behind context check program at (Opens child place items alt left) whole =
    (inner : Outcome)
    × (outcome : Outcome)
    × RunIn context check child inner
    × Run context check program place (with_result inner items) alt (left_behind inner left) outcome
    × (whole ≡ later (count_of inner + 1) (spent_in inner + 64) (lost_in child inner) outcome)

module _ {context : Context} {check : Check} where
  behind : {program : List ℕ} {place : ℕ} {items alt : List Item} {limit : ℕ} {o : Outcome} {m : Move} → place < length program → move context check program place items alt limit ≡ m → Run context check program place items alt limit o → Behind context check program place m o
  behind before is (at_end end) = absurd (omega arith)
  behind {program} {place} before is (fails {kind = kind} inside stops) = subst (λ (m : Move). Behind context check program place m (FailedAt kind place 0)) (sym stops ∙ is) refl
  behind {program} {place} {o = o} before is (goes_on {outcome = outcome} inside goes rest whole) = subst (λ (m : Move). Behind context check program place m o) (sym goes ∙ is) (outcome, rest, whole)
  behind {program} {place} {o = o} before is (opens {inner = inner} {outcome = outcome} inside opening child rest whole) = subst (λ (m : Move). Behind context check program place m o) (sym opening ∙ is) (inner, outcome, child, rest, whole)

  pub one_outcome : {program : List ℕ} {place : ℕ} {items alt : List Item} {limit : ℕ} {a b : Outcome} → Run context check program place items alt limit a → Run context check program place items alt limit b → a ≡ b
  one_outcome (at_end end) (at_end again) = refl
  one_outcome (at_end end) (fails before stops) = absurd (omega arith)
  one_outcome (at_end end) (goes_on before goes rest whole) = absurd (omega arith)
  one_outcome (at_end end) (opens before opening child rest whole) = absurd (omega arith)
  one_outcome (fails before stops) other = sym (behind before stops other)
  one_outcome (goes_on {base = base} before goes rest whole) other =
      let again = behind before goes other in
      whole ∙ ap (later 1 base 0) (one_outcome rest again.1) ∙ sym again.2
  one_outcome {program} (opens {child = c} {next = next} {items' = items} {alt' = alt} {left = left} {inner = inner} before opening child rest whole) other =
      let again = behind before opening other in
      let same : again.0 ≡ inner = sym (one_outcome child again.2) in
      let ends = one_outcome rest (subst (λ (i : Outcome). Run context check program next (with_result i items) alt (left_behind i left) again.1) same again.3) in
      let counted : Outcome → Outcome → Outcome = λ i o. later (count_of i + 1) (spent_in i + 64) (lost_in c i) o in
      whole ∙ ap (counted inner) ends ∙ ap (λ i. counted i again.1) (sym same) ∙ sym again.4

-- ---- what a completed instruction keeps

-- its base, and what a child gets, is paid out of the limit and the items of both stacks together; the base is 1 at
-- least; and it leads at most to the program's end
abbrev pub Keeps : ℕ → List Item → List Item → ℕ → Move → Type 0
Keeps size items alt limit (Stops kind) = Unit {0}
Keeps size items alt limit (Goes place items' alt' left base) =
    (left + (total_cost items' + total_cost alt') + base ≡ limit + (total_cost items + total_cost alt))
    × (1 ≤ base)
    × (place ≤ size)
Keeps size items alt limit (Opens child place items' alt' left) =
    (left + (total_cost items' + total_cost alt') + (child.limit + total_cost child.items) + 64 ≡ limit + (total_cost items + total_cost alt))
    × (192 ≤ left)
    × (place ≤ size)

-- the items after some that take the place of others
replaced : (n : ℕ) (items pushed : List Item) → total_cost (pushed ++ drop n items) + total_cost (take n items) ≡ total_cost items + total_cost pushed
replaced n items pushed = omega (arith, cost-split n items, sum_by-append cost pushed (drop n items))

leads : (size behind : ℕ) (jump : Option ℕ) → behind ≤ size → Within size jump → next_place behind jump ≤ size
leads size behind None inside within = inside
leads size behind (Some place) inside within = within

paid-keeps : (size behind : ℕ) (items alt : List Item) (limit : ℕ) (e : Effect) → behind ≤ size → Fair (Inside size) (Unit {0}) (Does e) → Keeps size items alt limit (paid behind items alt limit e)
paid-keeps size behind items alt limit e inside fair = elim (cases_lt limit e.base) [
  | inl short ↦ subst (Keeps size items alt limit) (sym (short_of_base behind limit items alt e short)) tt
  | inr covers ↦ elim (cases_lt (limit + popped_cost e items alt) (e.base + pushed_cost e)) [
    | inl short ↦ subst (Keeps size items alt limit) (sym (short_of_price behind limit items alt e covers short)) tt
    | inr enough ↦ subst (Keeps size items alt limit) (sym (covered behind limit items alt e covers (omega arith)))
        (omega (arith, replaced e.pops items e.pushed, replaced e.alt_pops alt e.alt_pushed), fair.0, leads size behind e.jump inside fair.1)
  ]
]

opened-keeps : (size behind : ℕ) (items alt : List Item) (limit : ℕ) (program : Item) (asked count : ℕ) → behind ≤ size → Keeps size items alt limit (opened behind items alt limit program asked count)
opened-keeps size behind items alt limit program asked count inside = elim (cases_lt limit 256) [
  | inl short ↦ subst (Keeps size items alt limit) (sym (short_of_opening behind limit items alt program asked count short)) tt
  | inr covers ↦ elim (cases_lt (limit - 256) asked) [
    | inl short ↦ subst (Keeps size items alt limit) (sym (short_of_asked behind limit items alt program asked count covers short)) tt
    | inr enough ↦
        let granted = child_limit-within asked (limit - 256) enough in
        subst (Keeps size items alt limit) (sym (opening behind limit items alt program asked count covers enough))
        (omega (arith, granted, cost-split 3 items, cost-split count (drop 3 items)), omega arith, inside)
  ]
]

row-keeps : (size behind : ℕ) (items alt : List Item) (limit : ℕ) (rule : Row) → behind ≤ size → Fair (Inside size) (Unit {0}) rule → Keeps size items alt limit (row_move behind items alt limit rule)
row-keeps size behind items alt limit (Faults kind) inside fair = tt
row-keeps size behind items alt limit (Does e) inside fair = paid-keeps size behind items alt limit e inside fair
row-keeps size behind items alt limit (Calls program asked count) inside fair = opened-keeps size behind items alt limit program asked count inside

read-keeps : (context : Context) (check : Check) (size place : ℕ) (items alt : List Item) (limit : ℕ) (read : Result Decoded Misread) → ((i : Decoded) → read ≡ Ok i → place + i.len ≤ size) → Keeps size items alt limit (instruction_move context check size place items alt limit read)
read-keeps context check size place items alt limit (Err why) inside = tt
read-keeps context check size place items alt limit (Ok i) inside =
    row-keeps size (place + i.len) items alt limit (row context check i size items alt) (inside i refl) (row-fair context check i size items alt)

pub move-keeps : (context : Context) (check : Check) (program : List ℕ) (place : ℕ) (items alt : List Item) (limit : ℕ) → Keeps (length program) items alt limit (move context check program place items alt limit)
move-keeps context check program place items alt limit =
    subst (Keeps (length program) items alt limit) (sym (move-read context check program place items alt limit _ refl))
    (read-keeps context check (length program) place items alt limit (instruction_at program place) (λ i is. (within program place i is).1))

-- ---- the run-limit law, and a bound on the instructions that complete

-- What an outcome shows of what its run had at the start: what is left and held, spent and lost is all of it, and each
-- instruction costs 1 at least.
abbrev pub Balanced : ℕ → Outcome → Type 0
Balanced start (Ended left items alt count spent lost) =
    (left + (total_cost items + total_cost alt) + spent + lost ≡ start) × (count ≤ spent + lost)
Balanced start (FailedAt kind place count) = count ≤ start

balanced-later : (start rest n m k : ℕ) (o : Outcome) → rest + m + k ≡ start → n ≤ m + k → Balanced rest o → Balanced start (later n m k o)
balanced-later start rest n m k (Ended left items alt count spent lost) sum least balanced = (omega (arith, balanced.0), omega (arith, balanced.1))
balanced-later start rest n m k (FailedAt kind place count) sum least balanced = omega arith

pub of_child : (child : Child) (inner : Outcome) → Balanced (child.limit + (total_cost child.items + total_cost [])) inner → Balanced (child.limit + total_cost child.items) inner
of_child child inner = subst (λ (n : ℕ). Balanced n inner) (let had : child.limit + (total_cost child.items + total_cost []) ≡ child.limit + total_cost child.items = omega arith in had)

-- what a child had is given back, spent or lost
settled : (child : Child) (inner : Outcome) → Balanced (child.limit + total_cost child.items) inner → (given_back inner + spent_in inner + lost_in child inner ≡ child.limit + total_cost child.items) × (count_of inner ≤ spent_in inner + lost_in child inner)
settled child (Ended left items alt count spent lost) balanced = by (top_is_true items)
  where
    by : (b : Bool) → (cond b (left + (total_cost items + total_cost alt)) 0 + cond b spent 0 + cond b lost (child.limit + total_cost child.items) ≡ child.limit + total_cost child.items) × (count ≤ cond b spent 0 + cond b lost (child.limit + total_cost child.items))
    by true = (omega (arith, balanced.0), balanced.1)
    by false = (omega arith, omega (arith, balanced.0, balanced.1))
settled child (FailedAt kind place count) balanced = (omega arith, omega (arith, balanced))

cost-truth : (b : Bool) → cost (truth_item b) ≤ 9
cost-truth true = omega arith
cost-truth false = omega arith

-- what is left and held after a child, with what it spent and lost, is what there was before it
pub behind-child : (size : ℕ) (items alt : List Item) (limit : ℕ) (child : Child) (place : ℕ) (items' alt' : List Item) (left : ℕ) (inner : Outcome) → Keeps size items alt limit (Opens child place items' alt' left) → Balanced (child.limit + total_cost child.items) inner → (left_behind inner left + (total_cost (with_result inner items') + total_cost alt') + (spent_in inner + 64) + lost_in child inner ≡ limit + (total_cost items + total_cost alt)) × (count_of inner + 1 ≤ spent_in inner + 64 + lost_in child inner)
behind-child size items alt limit child place items' alt' left inner keeps balanced =
    let child_settled = settled child inner balanced in
    let pushed = sum_by-cons cost (truth_item (is_good inner)) items' in (
      omega (arith, keeps.0, keeps.1, child_settled.0, pushed, cost-truth (is_good inner)),
      omega (arith, child_settled.1),
    )

pub balanced : {context : Context} {check : Check} {program : List ℕ} {place : ℕ} {items alt : List Item} {limit : ℕ} {o : Outcome} → Run context check program place items alt limit o → Balanced (limit + (total_cost items + total_cost alt)) o
balanced (at_end end) = (omega arith, omega arith)
balanced (fails before stops) = omega arith
balanced {context} {check} {program} {place} {items} {alt} {limit} (goes_on {base = base} {outcome = outcome} before goes rest whole) =
    let keeps = subst (Keeps (length program) items alt limit) goes (move-keeps context check program place items alt limit) in
    subst (Balanced (limit + (total_cost items + total_cost alt))) (sym whole)
    (balanced-later _ _ 1 base 0 outcome (omega (arith, keeps.0)) (omega (arith, keeps.1)) (balanced rest))
balanced {context} {check} {program} {place} {items} {alt} {limit} (opens {child = child} {next = next} {items' = items'} {alt' = alt'} {left = left} {inner = inner} {outcome = outcome} before opening child_run rest whole) =
    let keeps = subst (Keeps (length program) items alt limit) opening (move-keeps context check program place items alt limit) in
    let sums = behind-child (length program) items alt limit child next items' alt' left inner keeps (of_child child inner (balanced child_run)) in
    subst (Balanced (limit + (total_cost items + total_cost alt))) (sym whole)
    (balanced-later _ _ (count_of inner + 1) (spent_in inner + 64) (lost_in child inner) outcome sums.0 sums.1 (balanced rest))

counted : (start : ℕ) (o : Outcome) → Balanced start o → count_of o ≤ start
counted start (Ended left items alt count spent lost) balanced = omega (arith, balanced.0, balanced.1)
counted start (FailedAt kind place count) balanced = balanced

pub count-bound : {context : Context} {check : Check} {program : List ℕ} {place : ℕ} {items alt : List Item} {limit : ℕ} {o : Outcome} → Run context check program place items alt limit o → count_of o ≤ limit + (total_cost items + total_cost alt)
count-bound run = counted _ _ (balanced run)

-- ---- completed instructions

module _ (context : Context) (check : Check) where
  -- a move that completes keeps the sum, and leads at most to the program's end
  pub completed : (size : ℕ) (s : State) (m : Move) (t : State) (n spent lost : ℕ) → Keeps size s.items s.alt s.left m → Completes context check m t n spent lost → (held t + spent + lost ≡ held s) × (n ≤ spent + lost) × (t.place ≤ size)
  completed size s m t n spent lost keeps alone = (omega (arith, keeps.0), omega (arith, keeps.1), keeps.2)
  completed size s m t n spent lost keeps (with_child {child = child} {place = place} {items = items} {alt = alt} {left = left} {inner = inner} run) =
      let sums = behind-child size s.items s.alt s.left child place items alt left inner keeps (of_child child inner (balanced run)) in
      (sums.0, sums.1, keeps.2)

  pub counts-one : (m : Move) (t : State) (n spent lost : ℕ) → Completes context check m t n spent lost → 1 ≤ n
  counts-one m t n spent lost alone = omega arith
  counts-one m t n spent lost (with_child run) = omega arith

module _ (context : Context) (check : Check) (program : List ℕ) where
  pub at_step : (s t : State) (n m k : ℕ) → Completes context check (move context check program s.place s.items s.alt s.left) t n m k → (held t + m + k ≡ held s) × (n ≤ m + k) × (t.place ≤ length program)
  at_step s t n m k done = completed context check (length program) s (move context check program s.place s.items s.alt s.left) t n m k (move-keeps context check program s.place s.items s.alt s.left) done

  pub steps-cost : {s t : State} {n spent lost : ℕ} → Steps context check program s n spent lost t → (held t + spent + lost ≡ held s) × (n ≤ spent + lost)
  steps-cost none = (omega arith, omega arith)
  steps-cost (and_one {s = s} {t = t} {n = n} {m = m} {k = k} before done rest) =
      let first = at_step s t n m k done in
      let others = steps-cost rest in
      (omega (arith, first.0, others.0), omega (arith, first.1, others.1))

  pub steps-inside : {s t : State} {n spent lost : ℕ} → Steps context check program s n spent lost t → s.place ≤ length program → t.place ≤ length program
  steps-inside none inside = inside
  steps-inside (and_one {s = s} {t = t} {n = n} {m = m} {k = k} before done rest) inside = steps-inside rest (at_step s t n m k done).2

-- ---- the run of a program on its arguments

pub cost-reverse : (items : List Item) → total_cost (reverse items) ≡ total_cost items
cost-reverse items = sum_by-IsPermutation cost items (reverse items) (IsPermutation-reverse items)

pub bounded : (context : Context) (check : Check) (program : List ℕ) (args : List Item) (limit : ℕ) (outcome : Outcome) → total_cost args ≤ limit → RunOn context check program args limit outcome → count_of outcome ≤ limit
bounded context check program args limit outcome covers run = let turned = cost-reverse args in omega (arith, count-bound run)

-- ---- a child that the code opened

module _ (m : Machine) where
  kept : (at : Move) → call_move m ≡ at → Keeps m.at m.stack.items m.stack.alt m.left at
  kept at is =
      subst (Keeps m.at m.stack.items m.stack.alt m.left) is
      (row-keeps m.at m.at m.stack.items m.stack.alt m.left (calls m.stack.items m.stack.alt) (omega arith) (predicate (Inside m.at) (Unit {0}) tt tt m.stack.items m.stack.alt))

  pub falls : (o : Opened) (m' : Machine) → IsOpened (call_move m) (Ok o) m' → m'.left + held_cost m'.stack + (o.child.left + held_cost o.child.stack) < m.left + held_cost m.stack
  falls o m' opened =
      let keeps = kept _ opened.3 in
      let no_alt = ap total_cost opened.2 in
      omega (arith, keeps.0)

  pub repaid : (o : Opened) (m' : Machine) → IsOpened (call_move m) (Ok o) m' → 192 ≤ m'.left
  repaid o m' opened = (kept _ opened.3).1
