-- These are the clauses that were passed.
use Rattle.std.proofs.Common.{◌≡◌, map, drop}
use Rattle.ivy_value.specs.Steps.{clause_of}
use Rattle.ivy_value.specs.Lowered.{gathered, one_clause}
use Rattle.ivy_value.proofs.Gathered.{after}
use Rattle.ivy_value.proofs.clauses.lower_clauses.Given as goal

abbrev pub invariant-loop-clause : goal.invariant-loop-clause
invariant-loop-clause l =
    gathered (map (one_clause l.held l.value) l.clauses)
    ≡ after (map clause_of l.made) (gathered (map (one_clause l.held l.value) (drop l.clause-index l.clauses)))
