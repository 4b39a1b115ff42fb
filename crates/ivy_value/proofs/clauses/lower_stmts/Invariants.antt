-- These are the steps of the statements that were passed.
use Rattle.std.proofs.Common.{◌≡◌, map, drop}
use Rattle.ivy_value.specs.Seen.{names_of}
use Rattle.ivy_value.specs.Steps.{step_of}
use Rattle.ivy_value.specs.Lowered.{gathered, lowered_stmt}
use Rattle.ivy_value.proofs.Gathered.{after}
use Rattle.ivy_value.proofs.clauses.lower_stmts.Given as goal

abbrev pub invariant-loop-stmt : goal.invariant-loop-stmt
invariant-loop-stmt l =
    gathered (map (lowered_stmt (names_of l.names) l.value l.reqs) l.stmts)
    ≡ after (map step_of l.steps) (gathered (map (lowered_stmt (names_of l.names) l.value l.reqs) (drop l.stmt-index l.stmts)))
