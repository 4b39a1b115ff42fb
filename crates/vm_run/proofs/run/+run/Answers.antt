use Rattle.std.proofs.Common.{◌∙◌, ap, arith}
use Rattle.vm_stack.specs.Stacks.{held_cost}
use Rattle.vm_run.specs.Run.{at_end, fails}
use Rattle.vm_run.specs.Stretch.{none}
use Rattle.vm_run.proofs.Stretches.{then_run}
use Rattle.vm_run.proofs.Closed.{given-within, moved, closed, and_stepped}
use Rattle.vm_run.proofs.run.+run.Goals as goal

pub loop-machine-init : goal.loop-machine-init
loop-machine-init g t c = record { place = c.requires.place; within = omega arith; steps = (0, 0, 0, none) }

pub loop-machine-smaller-in-Ok-Moved : goal.loop-machine-smaller-in-Ok-Moved
loop-machine-smaller-in-Ok-Moved g t c =
    let check = g.C.SigCheck.good_of c.args.sigs.now in
    let leads = rw c.in-Ok-Moved.field-0-is at c.in-Ok-Moved.ensures in
    let step = moved c.args.ctx.now check c.args.program.now c.loop-machine.machine c.step.new.self c.loop-machine-test.true leads in
    omega (arith, step.1)

pub loop-machine-preserved-in-Ok-Moved : goal.loop-machine-preserved-in-Ok-Moved
loop-machine-preserved-in-Ok-Moved g t c =
    let at = c.loop-machine.invariant in
    let check = g.C.SigCheck.good_of c.args.sigs.now in
    let leads = rw c.in-Ok-Moved.field-0-is at c.in-Ok-Moved.ensures in
    let step = moved c.args.ctx.now check c.args.program.now c.loop-machine.machine c.step.new.self c.loop-machine-test.true leads in
    record {
      place = step.2;
      within = omega (arith, at.within, step.1);
      steps = and_stepped c.args.ctx.now check c.args.program.now c.args.machine.now c.loop-machine.machine c.step.new.self at.steps step;
    }

pub close-requires-clause-small : goal.close-requires-clause-small
close-requires-clause-small g t c =
    let at = c.loop-machine.invariant in
    let called = rw c.in-Ok-Called.field-0-is at c.in-Ok-Called.ensures in
    let held = ap held_cost called.0 in
    let given = given-within c.args.ctx.now (g.C.SigCheck.good_of c.args.sigs.now) c.in-Some.called.now c.in-Ok.field-0.child c.run.new.machine c.in_ok-end-in-Ok.end c.in_ok-end-in-Ok.ensures in
    omega (arith, at.within, c.requires.small, held, called.1, c.in-Ok.ensures.falls, given)

pub loop-machine-smaller : goal.loop-machine-smaller
loop-machine-smaller g t c =
    let check = g.C.SigCheck.good_of c.args.sigs.now in
    let called = rw c.in-Ok-Called.field-0-is at c.in-Ok-Called.ensures in
    let step = closed c.args.ctx.now check c.args.program.now c.loop-machine.machine c.step.new.self c.open.new.self c.close.new.self c.in-Ok.field-0 c.run.new.machine c.in-Some.called.now c.in_ok-end-in-Ok.end c.loop-machine-test.true called c.in-Ok.ensures.opened c.in-Some.ensures.item c.in_ok-end-in-Ok.ensures c.in_ok-close-in-Ok.ensures in
    omega (arith, step.1)

pub loop-machine-preserved : goal.loop-machine-preserved
loop-machine-preserved g t c =
    let at = c.loop-machine.invariant in
    let check = g.C.SigCheck.good_of c.args.sigs.now in
    let called = rw c.in-Ok-Called.field-0-is at c.in-Ok-Called.ensures in
    let step = closed c.args.ctx.now check c.args.program.now c.loop-machine.machine c.step.new.self c.open.new.self c.close.new.self c.in-Ok.field-0 c.run.new.machine c.in-Some.called.now c.in_ok-end-in-Ok.end c.loop-machine-test.true called c.in-Ok.ensures.opened c.in-Some.ensures.item c.in_ok-end-in-Ok.ensures c.in_ok-close-in-Ok.ensures in
    record {
      place = step.2;
      within = omega (arith, at.within, step.1);
      steps = and_stepped c.args.ctx.now check c.args.program.now c.args.machine.now c.loop-machine.machine c.close.new.self at.steps step;
    }

pub returns-in-Err-Failed : goal.returns-in-Err-Failed
returns-in-Err-Failed g t c =
    let at = c.loop-machine.invariant in
    let check = g.C.SigCheck.good_of c.args.sigs.now in
    let stops = rw c.in-Err-Failed.field-0-is at c.in-Err-Failed.ensures in
    (_, then_run c.args.ctx.now check c.args.program.now at.steps.3 (fails c.loop-machine-test.true stops))

pub returns-in-Err-Failed-open : goal.returns-in-Err-Failed-open
returns-in-Err-Failed-open g t c =
    let at = c.loop-machine.invariant in
    let check = g.C.SigCheck.good_of c.args.sigs.now in
    let called = rw c.in-Ok-Called.field-0-is at c.in-Ok-Called.ensures in
    let stops = rw c.in-Err-Failed-open.field-0-is at c.in-Err-Failed-open.ensures.opened in
    (_, then_run c.args.ctx.now check c.args.program.now at.steps.3 (fails c.loop-machine-test.true (called.2 ∙ stops)))

pub returns : goal.returns
returns g t c =
    let at = c.loop-machine.invariant in
    let check = g.C.SigCheck.good_of c.args.sigs.now in
    let end = at_end (omega (arith, at.place)) in
    (_, _, _, then_run c.args.ctx.now check c.args.program.now at.steps.3 end)
