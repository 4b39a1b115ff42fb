use Rattle.wire.specs.Declaring.{named_reader}
use Rattle.data_model.specs.Fitting.{issue_fits}
use Rattle.data_model.proofs.TransactionRecords.{issue_declared}
use Rattle.data_model.proofs.tx_records.IssueRecord.readings.Goals as goal

pub returns : goal.returns
returns c = named_reader _ _ _ _ issue_fits _ issue_declared c.layout_readings.ensures
