use Rattle.wire.specs.Declaring.{named_reader}
use Rattle.data_model.specs.Fitting.{retire_fits}
use Rattle.data_model.proofs.TransactionRecords.{retire_declared}
use Rattle.data_model.proofs.tx_records.RetireRecord.readings.Goals as goal

pub returns : goal.returns
returns c = named_reader _ _ _ _ retire_fits _ retire_declared c.layout_readings.ensures
