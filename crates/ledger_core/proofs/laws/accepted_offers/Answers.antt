use Rattle.ledger_core.proofs.Offers as offers
use Rattle.ledger_core.proofs.Refusals.{Known}
use Rattle.ledger_core.proofs.laws.accepted_offers.Goals as goal

pub returns : goal.returns
returns c = λ hash check.
    let known : Known = record { some = c.one_verdict.ensures.some; one = c.one_verdict.ensures.one; txs = c.one_refusal.ensures } in
    record {
      some = offers.some known hash check;
      one = offers.one known hash check;
      more = offers.more hash check;
    }
