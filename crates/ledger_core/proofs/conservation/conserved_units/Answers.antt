use Rattle.ledger_core.proofs.Conserved.{conserves}
use Rattle.ledger_core.proofs.conservation.conserved_units.Goals as goal

pub returns : goal.returns
returns c = λ hash check.
    conserves hash check (c.valid_blocks.ensures hash check)
    (λ state time tx valid. (c.valid_transactions.ensures hash check state time tx).0 valid)
