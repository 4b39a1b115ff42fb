use Rattle.tx_check.proofs.Table as table
use Rattle.tx_check.proofs.laws.one_refusal.Goals as goal

pub returns : goal.returns
returns c = λ hash check. record {
  table = table.one_answer c.one_verdict.ensures.some c.one_verdict.ensures.one hash check;
  some = table.some_refusal c.one_verdict.ensures.some c.one_verdict.ensures.one hash check;
  one = table.one_refusal c.one_verdict.ensures.some c.one_verdict.ensures.one hash check;
}
