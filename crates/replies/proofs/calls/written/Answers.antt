use Rattle.replies.specs.Fronts.{step-done, write-stopped}
use Rattle.replies.proofs.calls.written.Goals as goal

pub returns-in-Ok : goal.returns-in-Ok
returns-in-Ok c = λ step before after kind began. step-done c.in-Ok.field-0 step before after (rw c.in-Ok.is at began)

pub returns-in-Err : goal.returns-in-Err
returns-in-Err c = λ step before after kind began. write-stopped step before after c.in-Err.fault c.write_stop.result c.write_stop.ensures (rw c.in-Err.is at began) kind
