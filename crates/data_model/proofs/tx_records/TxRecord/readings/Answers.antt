use Rattle.wire.specs.Declaring.{named_reader}
use Rattle.data_model.specs.Transaction.{tx_spelling}
use Rattle.data_model.specs.Fitting.{tx_fits}
use Rattle.data_model.proofs.TransactionRecords.{tx_declared}
use Rattle.data_model.proofs.tx_records.TxRecord.readings.Goals as goal

pub returns : goal.returns
unfolding tx_spelling
returns c = named_reader _ _ _ _ tx_fits _ tx_declared c.layout_readings.ensures
