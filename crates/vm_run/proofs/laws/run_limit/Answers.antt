use Rattle.vm_run.proofs.Runs.{balanced, count-bound}
use Rattle.vm_run.proofs.laws.run_limit.Goals as goal

pub returns-clause-balance : goal.returns-clause-balance
returns-clause-balance c = λ context check program s left items alt count spent lost run. (balanced run).0

pub returns-clause-bounded : goal.returns-clause-bounded
returns-clause-bounded c = λ context check program s outcome run. count-bound run
