use Rattle.chain_top.proofs.Crashing.{crash_laws}
use Rattle.chain_top.proofs.laws.torn_ledgers.Goals as goal

pub returns : goal.returns
returns c = λ hash check. crash_laws c.moments_join.ensures c.others_stay.ensures c.starts_kept.ensures hash check (c.growing_ledgers.ensures hash check)
