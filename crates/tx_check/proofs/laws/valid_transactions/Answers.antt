use Rattle.tx_check.proofs.Facts.{not_refused}
use Rattle.tx_check.proofs.Valid.{facts}
use Rattle.tx_check.proofs.laws.valid_transactions.Goals as goal

pub returns : goal.returns
returns c = λ hash check state time tx. (
  facts c.one_verdict.ensures.some c.one_verdict.ensures.one hash check state time tx,
  not_refused c.one_verdict.ensures.some c.one_verdict.ensures.one hash check state time tx,
)
