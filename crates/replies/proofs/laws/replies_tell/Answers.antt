use Rattle.replies.proofs.Flat.{tell_laws}
use Rattle.replies.proofs.laws.replies_tell.Goals as goal

pub returns : goal.returns
returns c = tell_laws
