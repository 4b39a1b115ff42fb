use Rattle.std.proofs.Common.{◌≡◌, ◌++◌, map, take}
use Rattle.ivy_syntax.specs.declared.level.Level.TheVariants.{Or}
use Rattle.ivy_syntax.specs.Shown.{separated, tokens_at}
use Rattle.ivy_syntax.specs.Spaced.{spaced}
use Rattle.ivy_syntax.proofs.printer.+expressions.Given as goal

-- those that were passed were added
abbrev pub invariant-put_exprs-loop-at : goal.invariant-put_exprs-loop-at
invariant-put_exprs-loop-at l = l.text ≡ l.fn.text ++ spaced (separated (map (tokens_at Or) (take l.at l.exprs)))
