use Rattle.wire.proofs.Writing.{IsWriting}
use Rattle.wire.proofs.numbers.put_varint.Given as goal

abbrev pub invariant-loop-left : goal.invariant-loop-left
invariant-loop-left l = IsWriting l.n l.left l.len l.groups

abbrev pub decreases-loop-left : goal.decreases-loop-left
decreases-loop-left l = l.left
