use Rattle.filter_syntax.proofs.Limits.{Limiting}
use Rattle.filter_syntax.proofs.filter.first_past.Given as goal

-- the tokens so far are within the limit
abbrev pub invariant-loop-k : goal.invariant-loop-k
invariant-loop-k l = Limiting l.text l.lexemes l.most l.k l.left
