use Rattle.std.proofs.Common.{[], refl}
use Rattle.replies.proofs.status.usage.Goals as goal

pub returns : goal.returns
returns g c = c.print_last.ensures [] (g.O.Outside.io c.args.out.now) refl refl
