-- The verdict on a program and its arguments.
use Rattle.std.specs.Prelude.{◌≡◌, ℕ, ◌-◌, ◌<◌, ◌≤◌, List, [], length, reverse, if◌then◌else◌}
use Rattle.vm_num.specs.Item.{Item, total_cost}
use Rattle.vm_num.specs.declared.failure.Failure.TheVariants.{RunLimit, FalseResult}
use Rattle.vm_run.specs.declared.verdict.Verdict.{Verdict}
use Rattle.vm_run.specs.declared.verdict.Verdict.TheVariants.{Succeeded, Failed}
use Rattle.vm_run.specs.Row.{Context}
use Rattle.keyed.specs.Functions.{Check}
use Rattle.vm_run.specs.Run.{Outcome, Ended, FailedAt, Run}
pub use Rattle.vm_run.specs.Run.{top_is_true}

-- what an outcome says of a program of this length
abbrev pub verdict_of : ℕ → Outcome → Verdict
verdict_of size (Ended left items alt count spent lost) =
    if top_is_true items then Succeeded left else Failed FalseResult size
verdict_of size (FailedAt kind place count) = Failed kind place

-- the run on arguments that are paid for, the first of them deepest
abbrev pub RunOn : Context → Check → List ℕ → List Item → ℕ → Outcome → Type 0
RunOn context check program args limit outcome =
    Run context check program 0 (reverse args) [] (limit - total_cost args) outcome

-- the verdict under a limit: that the arguments are not covered, or what the run's outcome says
pub data HasVerdict (context : Context) (check : Check) (program : List ℕ) (args : List Item) (limit : ℕ)
    (verdict : Verdict) : Type 0 where
  not_covered :
      limit < total_cost args → verdict ≡ Failed RunLimit 0 → HasVerdict context check program args limit verdict
  covered :
      total_cost args ≤ limit
      → (outcome : Outcome)
      × RunOn context check program args limit outcome
      × (verdict ≡ verdict_of (length program) outcome)
      → HasVerdict context check program args limit verdict
