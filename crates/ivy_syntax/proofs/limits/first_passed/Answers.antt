use Rattle.std.proofs.Common.{arith, below_more, None}
use Rattle.ivy_syntax.proofs.CountSteps.{step_counted, step_passed}
use Rattle.ivy_syntax.proofs.limits.first_passed.Goals as goal

pub loop-at-preserved : goal.loop-at-preserved
loop-at-preserved c = record {
  counted = step_counted c.args.lexemes.now c.loop-at.at _ c.loop-at.counts c.note.new.self c.loop-at.invariant.counted
      c.in_ok-note.ensures c.loop-at-test.true (omega arith);
  none = below_more _ _ c.loop-at.invariant.none
      (step_passed c.args.lexemes.now c.loop-at.at _ c.loop-at.counts None c.loop-at.invariant.counted
      c.in_default.ensures c.loop-at-test.true);
}
