use Rattle.wire.proofs.Torn.{frame_laws}
use Rattle.wire.proofs.files.file_readings.Goals as goal

pub returns : goal.returns
returns g c = λ most small. frame_laws most small _ _ _ _ c.readings.ensures
