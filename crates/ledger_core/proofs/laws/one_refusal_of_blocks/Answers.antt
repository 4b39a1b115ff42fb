use Rattle.ledger_core.specs.Roots.{root_of_none}
use Rattle.ledger_core.proofs.Refusals as refusals
use Rattle.ledger_core.proofs.laws.one_refusal_of_blocks.Goals as goal

pub returns : goal.returns
returns c = λ hash check.
    let known : refusals.Known = record { some = c.one_verdict.ensures.some; one = c.one_verdict.ensures.one; txs = c.one_refusal.ensures } in
    record {
      start = refusals.one_start (root_of_none hash);
      next = λ blocks tip block. refusals.one_refusal_of_blocks known hash check blocks tip.header block;
      unsealed = λ blocks tip block. refusals.one_unsealed_line known hash check blocks tip.header block;
    }
