use Rattle.ledger_core.proofs.Refusals as refusals
use Rattle.ledger_core.proofs.laws.one_refusal.Goals as goal

pub returns : goal.returns
returns c = λ hash check.
    let known : refusals.Known = record { some = c.one_verdict.ensures.some; one = c.one_verdict.ensures.one; txs = c.one_refusal.ensures } in
    record {
      some = refusals.some_refusal known hash check;
      one = refusals.one_refusal known hash check;
      unsealed_some = refusals.some_unsealed known hash check;
      unsealed_one = refusals.one_unsealed known hash check;
    }
