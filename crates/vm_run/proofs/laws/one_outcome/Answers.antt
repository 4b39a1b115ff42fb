use Rattle.vm_run.proofs.Runs as runs
use Rattle.vm_run.proofs.laws.one_outcome.Goals as goal

pub returns : goal.returns
returns c = λ context check program place items alt limit a b one other. runs.one_outcome one other
