use Rattle.replies.proofs.Ending.{ended-refused, ended-stopped}
use Rattle.replies.proofs.status.close_at.Goals as goal

pub returns-in-Refused : goal.returns-in-Refused
returns-in-Refused g c = λ plan start w. ended-refused plan start (g.O.Outside.io c.args.out.now) c.args.stop c.in-Refused.line (g.O.Outside.io c.print_last.new.out) c.print_last.result c.in-Refused.is w (rw c.as_bytes.ensures.value at c.print_last.ensures)

pub returns-in_default : goal.returns-in_default
returns-in_default g c = λ plan start w. ended-stopped plan start (g.O.Outside.io c.args.out.now) c.args.stop c.status_of_stop.result w c.in_default.not-Refused c.status_of_stop.ensures
