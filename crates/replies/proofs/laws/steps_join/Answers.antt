use Rattle.replies.proofs.Flat.{step_laws}
use Rattle.replies.proofs.laws.steps_join.Goals as goal

pub returns : goal.returns
returns c = step_laws
