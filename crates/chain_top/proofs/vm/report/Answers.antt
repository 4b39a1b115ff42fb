use Rattle.replies.specs.Recipes.{none_passed}
use Rattle.chain_top.proofs.Sound.{verdict_owed}
use Rattle.chain_top.proofs.vm.report.Goals as goal

pub returns-in_err-verdict : goal.returns-in_err-verdict
returns-in_err-verdict g c =
    let check = g.C.SigCheck.good_of c.args.sigs.now in
    let owed = verdict_owed c.known.ensures check c.args.limit c.args.program.now c.args.args.now in
    (owed.some.0, owed.some.1, none_passed _ _ _ c.from_residual.ensures.1)

pub returns-in_err-line : goal.returns-in_err-line
returns-in_err-line g c =
    let check = g.C.SigCheck.good_of c.args.sigs.now in
    let owed = verdict_owed c.known.ensures check c.args.limit c.args.program.now c.args.args.now in
    (owed.some.0, owed.some.1, none_passed _ _ _ c.from_residual-in_err-line.ensures.1)
