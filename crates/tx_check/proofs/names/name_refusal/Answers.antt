use Rattle.tx_check.proofs.Groups.{of_used}
use Rattle.tx_check.proofs.names.name_refusal.Goals as goal

pub returns : goal.returns
returns c = λ hash e.
    of_used hash c.args.tx.now c.in_default.ensures c.in_default-not_set_apart.ensures c.args.named.now e
    c.in_default-spent_twice.ensures c.used_twice.result c.used_twice.ensures
