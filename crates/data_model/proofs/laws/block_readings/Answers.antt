use Rattle.data_model.proofs.BlockRecords.{block_laws}
use Rattle.data_model.proofs.laws.block_readings.Goals as goal

pub returns : goal.returns
returns c = block_laws c.layout_readings.ensures c.record_readings.ensures.spellings c.record_readings-2.ensures.spellings c.record_readings-2.ensures.whole
