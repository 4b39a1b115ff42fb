use Rattle.std.proofs.Common.{refl}
use Rattle.outside.specs.Files.{Replace}
use Rattle.outside.specs.Steps.{Write}
use Rattle.replies.proofs.calls.replace.Goals as goal

pub returns : goal.returns
returns g c = c.written.ensures (Write Replace c.args.name.now c.args.bytes.now) _ _ refl c.replace.ensures.did
