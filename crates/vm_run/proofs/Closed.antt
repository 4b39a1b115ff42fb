-- Steps of the code, and children that have run.
use Rattle.std.proofs.Common.{◌≡◌, ℕ, ◌+◌, ◌<◌, ◌≤◌, Bool, true, false, cond, List, [], ◌∷◌, length, Some, Ok, refl, sym, subst, arith}
use Rattle.std.specs.Prelude.{slice_get}
use Rattle.vm_num.specs.Item.{Item}
use Rattle.vm_stack.specs.Stacks.{Stacks, item_at, held_cost}
use Rattle.vm_run.specs.declared.machine.Machine.{Machine}
use Rattle.vm_run.specs.declared.run.End.{End}
use Rattle.vm_run.specs.declared.run.End.TheVariants as ends
use Rattle.vm_run.specs.declared.predicate.Opened.{Opened}
use Rattle.vm_run.specs.declared.step.Done.TheVariants.{Moved, Called}
use Rattle.vm_run.specs.Row.{Context}
use Rattle.keyed.specs.Functions.{Check}
use Rattle.vm_run.specs.Run.{Outcome, Ended, FailedAt, Child, Move, Opens, count_of, spent_in, lost_in, with_result, left_behind, top_is_true, move, Run}
use Rattle.vm_run.specs.Stretch.{State, RunFrom, RunIn, Completes, alone, with_child, Steps, none, and_one}
use Rattle.vm_run.specs.Ends.{Ends, Closed, given_by}
use Rattle.vm_run.specs.Follows.{Leads, IsOpened, state_of, base_of, call_move}
use Rattle.vm_run.proofs.Runs.{balanced, at_step, counts-one}
use Rattle.vm_run.proofs.Stretches.{and_steps}

pub second : (items : List Item) (item : Item) → Some item ≡ slice_get items 1 → item_at 1 items ≡ item
second [] item is = cc
second (a ∷ []) item is = cc
second (a ∷ b ∷ items) item is = cc

module _ (context : Context) (check : Check) where
  -- a child's run, by the machine that it was opened with
  run_in : (child : Machine) (program called : List ℕ) (inner : Outcome) → program ≡ called → child.at ≡ 0 → child.stack.alt ≡ [] → RunFrom context check called (state_of child) inner → RunIn context check (record { program = program; items = child.stack.items; limit = child.left }) inner
  run_in child program called inner is place alt run =
      subst (λ (p : List ℕ). Run context check p 0 child.stack.items [] child.left inner) (sym is)
      (subst (λ (a : List Item). Run context check called 0 child.stack.items a child.left inner) alt
      (subst (λ (n : ℕ). Run context check called n child.stack.items child.stack.alt child.left inner) place run))

  state-is : (m' : Machine) (place left : ℕ) (both : Stacks) → m'.at ≡ place → m'.stack ≡ both → m'.left ≡ left → record { place = place; items = both.items; alt = both.alt; left = left } ≡ state_of m'
  state-is m' place left both at stack rest = rw (at, stack, rest) refl

  -- a machine that took back what a child left, whose run had this outcome, stands after a completed instruction
  behind : (at : Move) (m m' : Machine) (o : Opened) (called : List ℕ) (inner : Outcome) → IsOpened at (Ok o) m → Some called ≡ slice_get o.popped.items 1 → RunFrom context check called (state_of o.child) inner → m'.stack ≡ record m.stack { items = with_result inner m.stack.items } → m'.at ≡ m.at → m'.left ≡ left_behind inner m.left → (n spent lost : ℕ) × Completes context check at (state_of m') n spent lost
  behind at m m' o called inner opened item run stack place left =
      let child : Child = record { program = item_at 1 o.popped.items; items = o.child.stack.items; limit = o.child.left } in
      let ran = run_in o.child (item_at 1 o.popped.items) called inner (second o.popped.items called item) opened.1 opened.2 run in
      let state = state-is m' m.at (left_behind inner m.left) (record m.stack { items = with_result inner m.stack.items }) place stack left in (
        count_of inner + 1,
        spent_in inner + 64,
        lost_in child inner,
        subst (λ (move : Move). Completes context check move (state_of m') (count_of inner + 1) (spent_in inner + 64) (lost_in child inner)) (sym opened.3)
            (subst (λ (s : State). Completes context check (Opens child m.at m.stack.items m.stack.alt m.left) s (count_of inner + 1) (spent_in inner + 64) (lost_in child inner)) state (with_child ran)),
      )

  -- a child gives back no more than it was opened with
  pub given-within : (called : List ℕ) (child child' : Machine) (end : End) → Ends context check called child end child' → given_by end child' ≤ child.left + held_cost child.stack
  given-within called child child' ends.Ended run = by (top_is_true child'.stack.items)
    where
      by : (b : Bool) → cond b (child'.left + held_cost child'.stack) 0 ≤ child.left + held_cost child.stack
      by true = omega (arith, (balanced run.3).0)
      by false = omega arith
  given-within called child child' (ends.Failed kind place) run = omega arith

  closes : (at : Move) (m m' : Machine) (o : Opened) (child : Machine) (called : List ℕ) (end : End) → IsOpened at (Ok o) m → Some called ≡ slice_get o.popped.items 1 → Ends context check called o.child end child → Closed end child m m' → (n spent lost : ℕ) × Completes context check at (state_of m') n spent lost
  closes at m m' o child called ends.Ended opened item run closed =
      behind at m m' o called (Ended child.left child.stack.items child.stack.alt run.0 run.1 run.2) opened item run.3 closed.0 closed.1 closed.2
  closes at m m' o child called (ends.Failed kind place) opened item run closed =
      behind at m m' o called (FailedAt kind place run.0) opened item run.1 closed.0 closed.1 closed.2

  abbrev move_of : List ℕ → Machine → Move
  move_of program m = move context check program m.at m.stack.items m.stack.alt m.left

  -- steps from one machine to another, where less is left and held, and the place is within the program
  abbrev pub Stepped : List ℕ → Machine → Machine → Type 0
  Stepped program m m' =
      ((n spent lost : ℕ) × Steps context check program (state_of m) n spent lost (state_of m'))
      × (m'.left + held_cost m'.stack < m.left + held_cost m.stack)
      × (m'.at ≤ length program)

  stepped : (program : List ℕ) (m m' : Machine) → m.at < length program → (n spent lost : ℕ) × Completes context check (move_of program m) (state_of m') n spent lost → Stepped program m m'
  stepped program m m' before done =
      let sums = at_step context check program (state_of m) (state_of m') done.0 done.1 done.2 done.3 in
      ((_, _, _, and_one before done.3 none), omega (arith, sums.0, sums.1, counts-one context check _ _ done.0 done.1 done.2 done.3), sums.2)

  pub and_stepped : (program : List ℕ) (from m m' : Machine) → (n spent lost : ℕ) × Steps context check program (state_of from) n spent lost (state_of m) → Stepped program m m' → (n spent lost : ℕ) × Steps context check program (state_of from) n spent lost (state_of m')
  and_stepped program from m m' steps step = (_, _, _, and_steps context check program steps.3 step.0.3)

  -- an instruction that is no CHECKPREDICATE
  pub moved : (program : List ℕ) (m m' : Machine) → m.at < length program → Leads m.stack m.left (move_of program m) (Ok Moved) m' → Stepped program m m'
  moved program m m' before leads =
      stepped program m m' before (1, base_of (move_of program m), 0, subst (λ (at : Move). Completes context check at (state_of m') 1 (base_of (move_of program m)) 0) (sym leads) alone)

  -- a CHECKPREDICATE, from which a child was opened, and what became of it closed
  pub closed : (program : List ℕ) (m c p m' : Machine) (o : Opened) (child : Machine) (called : List ℕ) (end : End) → m.at < length program → Leads m.stack m.left (move_of program m) (Ok Called) c → IsOpened (call_move c) (Ok o) p → Some called ≡ slice_get o.popped.items 1 → Ends context check called o.child end child → Closed end child p m' → Stepped program m m'
  closed program m c p m' o child called end before leads opened item run closing =
      let opens : IsOpened (move_of program m) (Ok o) p = subst (λ (at : Move). IsOpened at (Ok o) p) (sym leads.2) opened in
      stepped program m m' before (closes (move_of program m) p m' o child called end opens item run closing)
