use Rattle.std.proofs.Common.{ℕ, refl}
use Rattle.std.specs.Prelude.{Vec}
use Rattle.std.specs.declared.alloc.Global.{Global}
use Rattle.outside.specs.Steps.{Read}
use Rattle.replies.specs.Fronts.{read-stopped}
use Rattle.replies.proofs.calls.read.Goals as goal

pub returns-in-Err-clause-does : goal.returns-in-Err-clause-does
returns-in-Err-clause-does g c = read-stopped (Vec ℕ Global) (Read c.args.name.now c.args.most) _ _ c.in-Err.fault c.read_stop.result c.read_stop.ensures c.in-Err.ensures.did refl
