use Rattle.wire.proofs.FieldReaders.{text_reader}
use Rattle.wire.proofs.record.BytesRecord.readings.Goals as goal

pub returns : goal.returns
returns c = text_reader 65536
