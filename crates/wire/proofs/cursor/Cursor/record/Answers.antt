use Rattle.std.proofs.Common.{subst}
use Rattle.wire.specs.Spelling.{AreBytes}
use Rattle.wire.proofs.Readers.{goes_forward}
use Rattle.wire.proofs.cursor.Cursor.record.Goals as goal

pub returns-clause-on : goal.returns-clause-on
returns-clause-on g c = goes_forward _ _ _ _ c.readings.ensures c.args.self.now (subst AreBytes c.rest-bytes.ensures.value c.rest-bytes.ensures.bytes) c.read.result c.read.new.cursor c.read.ensures
