use Rattle.ledger_core.proofs.Refusals.{Known}
use Rattle.ledger_core.proofs.Valid as valid
use Rattle.ledger_core.proofs.laws.valid_blocks.Goals as goal

pub returns : goal.returns
returns c = λ hash check.
    let known : Known = record { some = c.one_verdict.ensures.some; one = c.one_verdict.ensures.one; txs = c.one_refusal.ensures } in
    record {
      initial = λ block. (valid.initial_from hash block, valid.initial_to hash block);
      next = λ blocks block. (valid.next_from hash check known blocks block, valid.next_to hash check known blocks block);
    }
