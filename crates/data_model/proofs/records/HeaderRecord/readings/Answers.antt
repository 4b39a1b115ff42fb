use Rattle.data_model.proofs.BlockRecords.{header_reader}
use Rattle.data_model.proofs.records.HeaderRecord.readings.Goals as goal

pub returns : goal.returns
returns c = header_reader c.layout_readings.ensures
