use Rattle.std.proofs.Common.{◌≡◌, ◌++◌, length}
use Rattle.ivy_syntax.specs.Lexeme.{value_of}
use Rattle.ivy_syntax.proofs.reading.hex_value.Given as goal

-- the bytes so far, and those of the digits that are left
abbrev pub invariant-loop-rest : goal.invariant-loop-rest
invariant-loop-rest l = value_of l.digits ≡ l.value ++ value_of l.rest

abbrev pub decreases-loop-rest : goal.decreases-loop-rest
decreases-loop-rest l = length l.rest
