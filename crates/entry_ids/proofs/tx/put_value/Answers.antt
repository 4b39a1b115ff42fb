use Rattle.std.proofs.Common.{subst}
use Rattle.data_model.specs.Transaction.{IsInput}
use Rattle.entry_ids.proofs.tx.put_value.Goals as goal

pub put_units-requires : goal.put_units-requires
put_units-requires c = (subst IsInput c.in-Issue.is c.requires).amount.small

pub put_units-requires-in-Spend : goal.put_units-requires-in-Spend
put_units-requires-in-Spend c = (subst IsInput c.in-Spend.is c.requires).from.amount.small
