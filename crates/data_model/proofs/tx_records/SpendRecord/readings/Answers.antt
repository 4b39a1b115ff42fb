use Rattle.wire.specs.Declaring.{named_reader}
use Rattle.data_model.specs.Fitting.{spend_fits}
use Rattle.data_model.proofs.TransactionRecords.{spend_declared}
use Rattle.data_model.proofs.tx_records.SpendRecord.readings.Goals as goal

pub returns : goal.returns
returns c = named_reader _ _ _ _ spend_fits _ spend_declared c.layout_readings.ensures
