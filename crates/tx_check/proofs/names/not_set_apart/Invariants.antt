use Rattle.tx_check.proofs.Everywhere.{NotBelow}
use Rattle.tx_check.specs.Table.{TellsApart}
use Rattle.tx_check.proofs.names.not_set_apart.Given as goal

abbrev pub invariant-loop-input : goal.invariant-loop-input
invariant-loop-input l = NotBelow TellsApart l.inputs l.input-index
