use Rattle.chain_top.proofs.Growing.{growth_laws}
use Rattle.chain_top.proofs.laws.growing_ledgers.Goals as goal

pub returns : goal.returns
returns c = growth_laws c.known.ensures
