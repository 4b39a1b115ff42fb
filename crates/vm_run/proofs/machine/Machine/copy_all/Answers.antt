use Rattle.std.proofs.Common.{◌-◌, arith}
use Rattle.vm_run.proofs.Items.{copy_went, copy_failed}
use Rattle.vm_run.proofs.machine.Machine.copy_all.Goals as goal

pub loop-wanted-preserved : goal.loop-wanted-preserved
loop-wanted-preserved c =
    let at = c.loop-wanted.invariant in
    let went = copy_went c.args.self.now c.loop-wanted.self c.copy.new.self c.args.under c.args.n c.loop-wanted.wanted (c.loop-wanted.wanted - 1) c.requires.there (omega (arith, at.within)) (omega arith) at.stack at.place at.spent c.in-Ok.ensures in
    record { within = omega (arith, at.within); stack = went.0; place = went.1; spent = went.2 }

pub returns-in-Err : goal.returns-in-Err
returns-in-Err c =
    let at = c.loop-wanted.invariant in
    copy_failed c.args.self.now c.loop-wanted.self c.copy.new.self c.args.under c.args.n c.loop-wanted.wanted (c.loop-wanted.wanted - 1) c.requires.there (omega (arith, at.within)) (omega arith) at.stack at.place at.spent c.in-Err.fault c.in-Err.ensures
