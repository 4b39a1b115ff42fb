use Rattle.wire.specs.Declaring.{named_reader}
use Rattle.data_model.specs.Transaction.{body_spelling}
use Rattle.data_model.specs.Fitting.{body_fits}
use Rattle.data_model.proofs.TransactionRecords.{body_declared}
use Rattle.data_model.proofs.tx_records.OutputBodyRecord.readings.Goals as goal

pub returns : goal.returns
unfolding body_spelling
returns c = named_reader _ _ _ _ body_fits _ body_declared c.layout_readings.ensures
