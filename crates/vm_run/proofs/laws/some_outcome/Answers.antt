use Rattle.vm_run.proofs.Outcomes as outcomes
use Rattle.vm_run.proofs.laws.some_outcome.Goals as goal

pub returns : goal.returns
returns c = outcomes.some_outcome
