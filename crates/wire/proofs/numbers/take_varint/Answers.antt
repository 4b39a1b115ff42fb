use Rattle.std.proofs.Common.{arith, drop}
use Rattle.wire.specs.Reading.{varint_at}
use Rattle.wire.specs.declared.fault.WireFault.TheVariants.{Short, NotShortest, TooBig}
use Rattle.wire.proofs.NumberLaws.{is_spelled, is_read, fault_where, varint_too_big, varint_not_shortest, varint_short}
use Rattle.wire.proofs.numbers.take_varint.Goals as goal

pub returns-clause-spelled : goal.returns-clause-spelled
unfolding varint_at
returns-clause-spelled c = is_spelled c.args.b.now c.take_groups.result (λ i. omega (arith, c.type_inv.b i)) c.take_groups.ensures.exact

pub returns-clause-read : goal.returns-clause-read
unfolding varint_at
returns-clause-read c = is_read c.args.b.now c.take_groups.result c.take_groups.ensures.within c.take_groups.ensures.exact

pub returns-clause-too_big : goal.returns-clause-too_big
unfolding varint_at
returns-clause-too_big c = fault_where (λ x. (x.0, drop x.1 c.args.b.now)) TooBig c.take_groups.result (varint_at c.args.b.now) _ c.take_groups.ensures.exact (varint_too_big c.args.b.now)

pub returns-clause-not_shortest : goal.returns-clause-not_shortest
unfolding varint_at
returns-clause-not_shortest c = fault_where (λ x. (x.0, drop x.1 c.args.b.now)) NotShortest c.take_groups.result (varint_at c.args.b.now) _ c.take_groups.ensures.exact (varint_not_shortest c.args.b.now)

pub returns-clause-short : goal.returns-clause-short
unfolding varint_at
returns-clause-short c = fault_where (λ x. (x.0, drop x.1 c.args.b.now)) Short c.take_groups.result (varint_at c.args.b.now) _ c.take_groups.ensures.exact (varint_short c.args.b.now)
