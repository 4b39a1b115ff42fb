-- How the code's run ends, against the definitions. Only contracts of private functions name it.
use Rattle.std.specs.Prelude.{◌≡◌, ℕ, ◌+◌, ◌-◌, Bool, false, List, [], ◌∷◌, length, if◌then◌else◌}
use Rattle.vm_run.specs.declared.machine.Machine.{Machine}
use Rattle.vm_run.specs.declared.run.End.{End}
use Rattle.vm_run.specs.declared.run.End.TheVariants.{Failed}
use Rattle.vm_run.specs.declared.run.End.TheVariants as ends
use Rattle.vm_run.specs.Row.{Context}
use Rattle.keyed.specs.Functions.{Check}
use Rattle.vm_num.specs.Item.{Item, cost}
use Rattle.vm_ops.specs.Results.{truth_item}
use Rattle.vm_stack.specs.Stacks.{held_cost}
use Rattle.vm_run.specs.Run.{Outcome, Ended, FailedAt, Run, top_is_true}
use Rattle.vm_run.specs.Stretch.{RunFrom}
use Rattle.vm_run.specs.Follows.{state_of}
use Rattle.vm_run.specs.Verdict.{verdict_of}
use Rattle.vm_run.specs.declared.verdict.Verdict.{Verdict}

-- the run from where a machine stood has the outcome of this end, with the machine as it was left
abbrev pub Ends : Context → Check → List ℕ → Machine → End → Machine → Type 0
Ends context check program before ends.Ended after =
    (count spent lost : ℕ)
    × RunFrom context check program (state_of before)
    (Ended after.left after.stack.items after.stack.alt count spent lost)
Ends context check program before (Failed kind at) after =
    (count : ℕ) × RunFrom context check program (state_of before) (FailedAt kind at count)

-- the verdict is that of every outcome which ends so
abbrev pub VerdictOf : ℕ → End → Machine → Verdict → Type 0
VerdictOf size ends.Ended m verdict =
    (count spent lost : ℕ) → verdict ≡ verdict_of size (Ended m.left m.stack.items m.stack.alt count spent lost)
VerdictOf size (Failed kind at) m verdict = (count : ℕ) → verdict ≡ verdict_of size (FailedAt kind at count)

-- the verdict is that of the run from a program's start on these items, with this much of the limit left
abbrev pub VerdictFrom : Context → Check → List ℕ → List Item → ℕ → Verdict → Type 0
VerdictFrom context check program items left verdict =
    (o : Outcome) × Run context check program 0 items [] left o × (verdict ≡ verdict_of (length program) o)

-- a child that ended so is good
abbrev pub good_end : End → Machine → Bool
good_end ends.Ended child = top_is_true child.stack.items
good_end (Failed kind at) child = false

-- what it gives back
abbrev pub given_by : End → Machine → ℕ
given_by end child = if good_end end child then child.left + held_cost child.stack else 0

-- a machine that took this back, paid for a result and pushed it
abbrev pub Closed : End → Machine → Machine → Machine → Type 0
Closed end child before after =
    let item = truth_item (good_end end child) in
    (after.stack ≡ record before.stack { items = item ∷ before.stack.items })
    × (after.at ≡ before.at)
    × (after.left ≡ before.left + given_by end child - cost item)
