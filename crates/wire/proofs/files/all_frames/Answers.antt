use Rattle.std.proofs.Common.{arith}
use Rattle.wire.proofs.Torn.{frame_passed}
use Rattle.wire.proofs.files.all_frames.Goals as goal

pub loop-cursor-smaller : goal.loop-cursor-smaller
loop-cursor-smaller g c =
    let fewer = frame_passed c.args.most g.T.Record.fits g.T.Record.spelling c.in-Ok.item c.loop-cursor.cursor c.next_frame.new.cursor c.in-Ok.ensures in
    omega (arith, fewer)
