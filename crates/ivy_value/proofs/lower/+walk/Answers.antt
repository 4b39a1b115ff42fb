use Rattle.std.proofs.Common.{rules}
use Rattle.ivy_value.proofs.Walks.{no_args, many_args}
use Rattle.ivy_value.proofs.lower.+walk.Goals as goal
use Rattle.ivy_value.proofs.lower.+walk.Goals.{call-then-args-lt1, call-else-args-lt1+else-args-lt2}
use Rattle.ivy_value.proofs.lower.+walk.Goals.{call-then-args-lt2-2, call-else-args-lt2-2+else-args-lt3}

pub call-returns : goal.call-returns
call-returns t c =
    elim c.if-args-lt1.branch [
      | call-then-args-lt1 w ↦ search (rules, no_args)
      | call-else-args-lt1+else-args-lt2 w ↦
          elim c.if-args-lt2-2.branch [
            | call-then-args-lt2-2 v ↦ search (rules, no_args)
            | call-else-args-lt2-2+else-args-lt3 v ↦ search (rules, many_args)
          ]
    ]
