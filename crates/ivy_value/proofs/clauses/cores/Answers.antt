use Rattle.ivy_value.proofs.ClauseCores.{no_cores}
use Rattle.ivy_value.proofs.clauses.cores.Goals as goal

pub loop-contract-init : goal.loop-contract-init
loop-contract-init c = no_cores c.as_slice-contract-items.result.now c.new-made.result c.new-made.ensures
