use Rattle.replies.proofs.Ending.{told-all, told-not}
use Rattle.replies.proofs.status.print_last.Goals as goal

pub returns-in-Ok : goal.returns-in-Ok
returns-in-Ok g c = λ steps start same all. told-all steps c.args.line.now start _ _ same all c.args.status c.requires c.in-Ok.ensures

pub returns-in-Err : goal.returns-in-Err
returns-in-Err g c = λ steps start same all. told-not steps c.args.line.now start _ _ same all c.args.status c.status_of_stop.result c.in-Err.stop c.in-Err.ensures c.status_of_stop.ensures
