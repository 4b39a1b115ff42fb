use Rattle.std.proofs.Common.{rules}
use Rattle.wire.specs.Spelling.{varint}
use Rattle.wire.proofs.Writing.{writes, has_written}
use Rattle.wire.proofs.numbers.put_varint.Goals as goal

pub loop-left-preserved : goal.loop-left-preserved
loop-left-preserved c = writes _ _ _ _ c.loop-left-test.true c.loop-left.invariant

pub returns-clause-ok : goal.returns-clause-ok
unfolding varint
returns-clause-ok c = rw (← has_written _ _ _ _ c.loop-left-test.false c.loop-left.invariant) (search rules)
