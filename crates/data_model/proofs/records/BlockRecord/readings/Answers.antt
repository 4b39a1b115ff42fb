use Rattle.data_model.proofs.BlockRecords.{block_reader}
use Rattle.data_model.proofs.records.BlockRecord.readings.Goals as goal

pub returns : goal.returns
returns c = block_reader c.layout_readings.ensures
