use Rattle.wire.specs.Declaring.{named_reader}
use Rattle.data_model.specs.Fitting.{output_fits}
use Rattle.data_model.proofs.TransactionRecords.{output_declared}
use Rattle.data_model.proofs.tx_records.OutputRecord.readings.Goals as goal

pub returns : goal.returns
returns c = named_reader _ _ _ _ output_fits _ output_declared c.layout_readings.ensures
