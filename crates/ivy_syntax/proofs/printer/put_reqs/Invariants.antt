use Rattle.std.proofs.Common.{◌≡◌, ◌++◌, map, take}
use Rattle.ivy_syntax.specs.Shown.{separated, req_tokens}
use Rattle.ivy_syntax.specs.Spaced.{spaced}
use Rattle.ivy_syntax.proofs.printer.put_reqs.Given as goal

-- those that were passed were added
abbrev pub invariant-loop-at : goal.invariant-loop-at
invariant-loop-at l = l.text ≡ l.fn.text ++ spaced (separated (map req_tokens (take l.at l.reqs)))
