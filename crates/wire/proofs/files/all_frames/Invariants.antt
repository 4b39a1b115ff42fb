use Rattle.std.proofs.Common.{◌≡◌, ◌++◌, length}
use Rattle.std.specs.List.{flat_map, AllByRecursion}
use Rattle.wire.specs.Layout.{FrameFits, frame_spelling}
use Rattle.wire.proofs.files.all_frames.Given as goal

-- the records so far, and the bytes after them
abbrev pub invariant-loop-cursor : goal.invariant-loop-cursor
invariant-loop-cursor g l = record {
  within : AllByRecursion (FrameFits l.most g.T.Record.fits g.T.Record.spelling) l.items;
  spelled : l.fn.bytes ≡ flat_map (frame_spelling g.T.Record.spelling) l.items ++ l.cursor.rest;
  at : l.cursor.at ≡ length (flat_map (frame_spelling g.T.Record.spelling) l.items);
}

abbrev pub decreases-loop-cursor : goal.decreases-loop-cursor
decreases-loop-cursor g l = length l.cursor.rest
