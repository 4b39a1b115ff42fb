use Rattle.tx_check.proofs.ContextIds.{has_ids}
use Rattle.tx_check.proofs.laws.context_ids.Goals as goal

pub returns : goal.returns
returns c = has_ids
