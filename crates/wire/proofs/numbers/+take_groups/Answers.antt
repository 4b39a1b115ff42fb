use Rattle.std.proofs.Common.{arith, ◌-◌}
use Rattle.wire.proofs.Groups.{limit_some, limit_below}
use Rattle.wire.proofs.numbers.+take_groups.Goals as goal

pub returns-then-low-lt128-clause-below : goal.returns-then-low-lt128-clause-below
returns-then-low-lt128-clause-below t c = omega (arith, limit_some c.args.more)

pub overflow_mul-result : goal.overflow_mul-result
overflow_mul-result t c = omega (arith, c.in_ok-high.ensures.below, limit_below (c.args.more - 1) (omega arith))

pub overflow_add-result : goal.overflow_add-result
overflow_add-result t c = omega (arith, c.in_ok-high.ensures.below, limit_below (c.args.more - 1) (omega arith))
