use Rattle.std.proofs.Common.{◌≡◌, ◌++◌, take}
use Rattle.ivy_syntax.specs.Tokens.{digits_of}
use Rattle.ivy_syntax.proofs.printer.put_digits.Given as goal

-- those that were passed were added
abbrev pub invariant-loop-b : goal.invariant-loop-b
invariant-loop-b l = l.text ≡ l.fn.text ++ digits_of (take l.b-index l.bytes)
