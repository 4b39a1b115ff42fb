use Rattle.std.proofs.Common.{◌∙◌}
use Rattle.vm_run.proofs.Wanted.{six, on_six}
use Rattle.vm_run.proofs.introspection.read_wanted.Goals as goal

pub returns-in-Ok : goal.returns-in-Ok
returns-in-Ok c =
    let a = c.in-Some-Some-Some in
    let b = c.in-Some-Some-Some-2 in
    let s = six c.args.stack.now.items a.place.now a.refdata.now a.amount.now b.asset.now b.version.now b.program.now
    a.ensures.item a.ensures'.item a.ensures''.item b.ensures.item b.ensures'.item b.ensures''.item in
    (s.there, λ rule alt. on_six c.args.stack.now.items a.place.now a.refdata.now a.amount.now b.asset.now b.version.now b.program.now s rule alt ∙ c.in-Ok.ensures (λ p n v. rule p a.refdata.now n b.asset.now v b.program.now))

pub returns-in-Err : goal.returns-in-Err
returns-in-Err c =
    let a = c.in-Some-Some-Some in
    let b = c.in-Some-Some-Some-2 in
    let s = six c.args.stack.now.items a.place.now a.refdata.now a.amount.now b.asset.now b.version.now b.program.now
    a.ensures.item a.ensures'.item a.ensures''.item b.ensures.item b.ensures'.item b.ensures''.item in
    λ rule alt. on_six c.args.stack.now.items a.place.now a.refdata.now a.amount.now b.asset.now b.version.now b.program.now s rule alt ∙ c.in-Err.ensures (λ p n v. rule p a.refdata.now n b.asset.now v b.program.now)
