use Rattle.std.proofs.Common.{◌≡◌, ◌++◌, take}
use Rattle.std.specs.List.{flat_map}
use Rattle.ivy_syntax.specs.Shown.{stmt_tokens}
use Rattle.ivy_syntax.specs.Spaced.{spaced}
use Rattle.ivy_syntax.proofs.printer.put_stmts.Given as goal

-- those that were passed were added
abbrev pub invariant-loop-stmt : goal.invariant-loop-stmt
invariant-loop-stmt l = l.text ≡ l.fn.text ++ spaced (flat_map stmt_tokens (take l.stmt-index l.stmts))
