use Rattle.vm_run.proofs.Outcomes as outcomes
use Rattle.vm_run.proofs.laws.one_verdict.Goals as goal

pub returns-clause-some : goal.returns-clause-some
returns-clause-some c = outcomes.some_verdict

pub returns-clause-one : goal.returns-clause-one
returns-clause-one c = outcomes.one_verdict
