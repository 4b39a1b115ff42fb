use Rattle.ledger_core.proofs.Chains as chains
use Rattle.ledger_core.proofs.Offers as offers
use Rattle.ledger_core.proofs.laws.growing_chains.Goals as goal

pub returns : goal.returns
returns c = λ hash check. record {
  not_empty = chains.not_empty hash check;
  heights = chains.heights hash check;
  grows = chains.grows hash check;
  only = chains.only hash check;
  kept = offers.kept hash check;
}
