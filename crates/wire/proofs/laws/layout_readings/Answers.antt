use Rattle.wire.proofs.LayoutReaders.{layout_laws}
use Rattle.wire.proofs.laws.layout_readings.Goals as goal

pub returns : goal.returns
returns c = layout_laws
