use Rattle.wire.specs.Declaring.{named_reader}
use Rattle.data_model.specs.Fitting.{input_fits}
use Rattle.data_model.proofs.TransactionRecords.{input_declared}
use Rattle.data_model.proofs.tx_records.InputRecord.readings.Goals as goal

pub returns : goal.returns
returns c = named_reader _ _ _ _ input_fits _ input_declared c.layout_readings.ensures
