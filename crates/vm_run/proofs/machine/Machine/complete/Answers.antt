use Rattle.std.proofs.Common.{refl, ap}
use Rattle.vm_code.specs.Seen.{seen}
use Rattle.vm_run.specs.Run.{row_move}
use Rattle.vm_run.proofs.Opened.{rule-calls}
use Rattle.vm_run.proofs.machine.Machine.complete.Goals as goal

pub returns-then-i : goal.returns-then-i
returns-then-i g c =
    let m = c.args.self.now in
    let rule = rule-calls c.args.ctx.now (g.C.SigCheck.good_of c.args.sigs.now) (seen c.args.i.now) c.args.size m.stack.items m.stack.alt c.if-i.true in
    (refl, refl, ap (row_move m.at m.stack.items m.stack.alt m.left) rule)
