use Rattle.std.proofs.Common.{List, ℕ, inr, subst}
use Rattle.replies.specs.Plan.{stop_of}
use Rattle.replies.specs.Recipe.{owe}
use Rattle.replies.specs.Runs.{OwnRuns}
use Rattle.chain_top.specs.Commands.{VerdictOwed}
use Rattle.chain_top.proofs.vm.vm.Goals as goal

pub returns : goal.returns
returns g c =
    let check = g.C.SigCheck.good_of c.args.sigs.now in
    let a = g.O.Outside.io c.args.out.now in
    let e = g.O.Outside.io c.report.new.out in
    let runs = subst (λ (code : List ℕ). OwnRuns (owe (VerdictOwed check c.args.limit code c.in_ok-args.args)) a e (stop_of c.report.result)) c.as_slice.ensures c.report.ensures in
    inr (_, c.in_ok-program.ensures.reads, inr (_, c.in_ok-args.ensures.reads, runs))
