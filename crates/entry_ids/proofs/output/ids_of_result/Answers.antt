use Rattle.std.proofs.Common.{subst}
use Rattle.data_model.specs.Transaction.{IsOutput}
use Rattle.entry_ids.proofs.output.ids_of_result.Goals as goal

pub ids_of_control-requires-clause-amount : goal.ids_of_control-requires-clause-amount
ids_of_control-requires-clause-amount g c = (subst IsOutput c.in-Control.is c.requires.output).amount.small

pub ids_of_retire-requires-clause-amount : goal.ids_of_retire-requires-clause-amount
ids_of_retire-requires-clause-amount g c = (subst IsOutput c.in-Retire.is c.requires.output).amount.small
