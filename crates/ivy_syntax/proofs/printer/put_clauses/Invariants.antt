use Rattle.std.proofs.Common.{◌≡◌, ◌++◌, take}
use Rattle.std.specs.List.{flat_map}
use Rattle.ivy_syntax.specs.Shown.{clause_tokens}
use Rattle.ivy_syntax.specs.Spaced.{spaced}
use Rattle.ivy_syntax.proofs.printer.put_clauses.Given as goal

-- those that were passed were added
abbrev pub invariant-loop-clause : goal.invariant-loop-clause
invariant-loop-clause l = l.text ≡ l.fn.text ++ spaced (flat_map clause_tokens (take l.clause-index l.clauses))
