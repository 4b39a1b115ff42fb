use Rattle.std.proofs.Common.{◌≡◌, take}
use Rattle.ivy_syntax.specs.Sizes.{within_word, total, clause_literals}
use Rattle.ivy_syntax.proofs.sizes.clauses_literals.Given as goal

abbrev pub invariant-loop-clause : goal.invariant-loop-clause
invariant-loop-clause l = l.sum ≡ within_word (total clause_literals (take l.clause-index l.clauses))
