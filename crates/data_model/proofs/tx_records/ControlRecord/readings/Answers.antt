use Rattle.wire.specs.Declaring.{named_reader}
use Rattle.data_model.specs.Fitting.{control_fits}
use Rattle.data_model.proofs.TransactionRecords.{control_declared}
use Rattle.data_model.proofs.tx_records.ControlRecord.readings.Goals as goal

pub returns : goal.returns
returns c = named_reader _ _ _ _ control_fits _ control_declared c.layout_readings.ensures
