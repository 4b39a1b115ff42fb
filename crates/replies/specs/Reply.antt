-- The reply of a call: the status, and the steps that it does.
use Rattle.std.specs.Prelude.{ℕ, List, [], ◌∷◌}
use Rattle.outside.specs.Steps.{Step, Print}
use Rattle.replies.specs.Line.{usage_line}
use Rattle.replies.specs.Plan.{End, Done, Refused, Missing, Plan, steps_with}

-- The status, and what is read, written and printed, in order. The printed lines with the number of writes before each,
-- the reads and the writes are `lines_of`, `reads_of` and `writes_of` of the steps.
pub record Reply : Type 0 where
  pub status : ℕ
  pub steps : List Step

abbrev pub status_of : End → ℕ
status_of Done = 0
status_of (Refused line) = 2
status_of Missing = 3

-- a refusal is reported by its line, and a missing file by the status
abbrev pub ended : List Step → End → Reply
ended steps end = record { status = status_of end; steps = steps_with steps end }

abbrev pub reply_of : Plan → Reply
reply_of plan = ended plan.steps plan.end

-- the reply to words outside the grammar
abbrev pub usage_reply : Reply
usage_reply = record { status = 1; steps = Print usage_line ∷ [] }
