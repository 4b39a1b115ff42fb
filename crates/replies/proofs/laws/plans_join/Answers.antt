use Rattle.replies.specs.Fronts.{plan_laws}
use Rattle.replies.proofs.laws.plans_join.Goals as goal

pub returns : goal.returns
returns c = plan_laws
