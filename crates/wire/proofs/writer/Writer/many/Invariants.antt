use Rattle.std.proofs.Common.{◌≡◌, ◌++◌, length, take}
use Rattle.std.specs.List.{flat_map}
use Rattle.wire.specs.Spelling.{varint}
use Rattle.wire.proofs.writer.Writer.many.Given as goal

abbrev pub invariant-loop-value : goal.invariant-loop-value
invariant-loop-value g l = l.self ≡ l.fn.self ++ (varint (length l.records) ++ flat_map g.T.Record.spelling (take l.value-index l.records))
