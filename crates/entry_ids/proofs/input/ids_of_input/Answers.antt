use Rattle.std.proofs.Common.{subst}
use Rattle.data_model.specs.Transaction.{IsInput}
use Rattle.entry_ids.proofs.input.ids_of_input.Goals as goal

pub ids_of_issue-requires-clause-amount : goal.ids_of_issue-requires-clause-amount
ids_of_issue-requires-clause-amount g c = (subst IsInput c.in-Issue.is c.requires.input).amount.small

pub ids_of_spend-requires : goal.ids_of_spend-requires
ids_of_spend-requires g c = (subst IsInput c.in-Spend.is c.requires.input).from
