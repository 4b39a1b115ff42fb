use Rattle.std.proofs.Common.{◌≡◌, ap, arith}
use Rattle.vm_num.specs.Item.{total_cost}
use Rattle.vm_run.proofs.Runs.{bounded}
use Rattle.vm_run.proofs.Outcomes.{verdict_on, for_ok}
use Rattle.vm_run.proofs.verdict.verify.Goals as goal

pub returns-then-limit-cost-clause-bounded : goal.returns-then-limit-cost-clause-bounded
returns-then-limit-cost-clause-bounded g c = λ covers outcome run. bounded c.args.ctx.now (g.C.SigCheck.good_of c.args.sigs.now) c.args.program.now c.args.args.now c.args.limit outcome covers run

pub start-requires-clause-small : goal.start-requires-clause-small
start-requires-clause-small g c =
    let args' : total_cost c.as_slice.result.now ≡ total_cost c.args.args.now = ap total_cost c.as_slice.ensures in
    omega arith

pub returns-clause-verdict : goal.returns-clause-verdict
returns-clause-verdict g c =
    let check = g.C.SigCheck.good_of c.args.sigs.now in
    let args' : total_cost c.as_slice.result.now ≡ total_cost c.args.args.now = ap total_cost c.as_slice.ensures in
    for_ok c.start.result (λ verdict says. verdict_on c.args.ctx.now check c.args.program.now c.args.args.now c.args.limit _ verdict (omega arith) (omega arith) says) c.start.ensures

pub returns-clause-bounded : goal.returns-clause-bounded
returns-clause-bounded g c = λ covers outcome run. bounded c.args.ctx.now (g.C.SigCheck.good_of c.args.sigs.now) c.args.program.now c.args.args.now c.args.limit outcome covers run
