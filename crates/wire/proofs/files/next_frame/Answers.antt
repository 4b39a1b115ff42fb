use Rattle.std.proofs.Common.{subst}
use Rattle.wire.specs.Spelling.{AreBytes}
use Rattle.wire.proofs.WholeReaders.{frame_reader}
use Rattle.wire.proofs.WholeFiles.{answered}
use Rattle.wire.proofs.files.next_frame.Goals as goal

pub returns : goal.returns
returns g c =
    let one = frame_reader _ _ _ _ c.readings.ensures c.args.most in
    answered _ _ _ _ one c.args.cursor.now c.frame.new.self (subst AreBytes c.rest-bytes.ensures.value c.rest-bytes.ensures.bytes) c.frame.result c.frame.ensures
