use Rattle.std.proofs.Common.{Ok, Err, arith}
use Rattle.wire.proofs.WholeFiles.{file_gives}
use Rattle.wire.proofs.Torn.{frame_file}
use Rattle.wire.proofs.files.read_frames.Goals as goal

pub returns-clause-only : goal.returns-clause-only
returns-clause-only g c = λ xs h.
    file_gives _ _ _ (frame_file c.args.most _ _ _ _ c.readings.ensures) c.args.bytes.now c.all_frames.result (Ok xs) (λ i. omega (arith, c.type_inv.bytes i)) c.all_frames.ensures.found c.all_frames.ensures.fault h

pub returns-clause-told : goal.returns-clause-told
returns-clause-told g c = λ f h.
    file_gives _ _ _ (frame_file c.args.most _ _ _ _ c.readings.ensures) c.args.bytes.now c.all_frames.result (Err f) (λ i. omega (arith, c.type_inv.bytes i)) c.all_frames.ensures.found c.all_frames.ensures.fault h
