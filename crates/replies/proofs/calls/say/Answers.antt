use Rattle.std.proofs.Common.{refl}
use Rattle.outside.specs.Steps.{Print}
use Rattle.replies.proofs.calls.say.Goals as goal

pub returns : goal.returns
returns g c = c.written.ensures (Print c.args.line.now) _ _ refl c.print.ensures.did
