use Rattle.vm_run.specs.Row.{row}
use Rattle.vm_run.specs.Moves.{move-read}
use Rattle.vm_run.proofs.machine.Machine.step.Goals as goal

pub returns-in-Ok : goal.returns-in-Ok
unfolding row
returns-in-Ok g c =
    let m = c.args.self.now in
    rw (move-read c.args.ctx.now (g.C.SigCheck.good_of c.args.sigs.now) c.args.program.now m.at m.stack.items m.stack.alt m.left _ c.in-Ok.ensures.reads) c.complete.ensures

pub returns-in-Err-Short : goal.returns-in-Err-Short
returns-in-Err-Short g c =
    let m = c.args.self.now in
    move-read c.args.ctx.now (g.C.SigCheck.good_of c.args.sigs.now) c.args.program.now m.at m.stack.items m.stack.alt m.left _ (rw c.in-Err-Short.field-0-is at c.in-Err-Short.ensures.reads)

pub returns-in-Err-BadOpcode : goal.returns-in-Err-BadOpcode
returns-in-Err-BadOpcode g c =
    let m = c.args.self.now in
    move-read c.args.ctx.now (g.C.SigCheck.good_of c.args.sigs.now) c.args.program.now m.at m.stack.items m.stack.alt m.left _ (rw c.in-Err-BadOpcode.field-0-is at c.in-Err-BadOpcode.ensures.reads)
