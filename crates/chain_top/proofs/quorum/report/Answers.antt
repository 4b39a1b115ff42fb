use Rattle.replies.specs.Recipes.{none_passed}
use Rattle.chain_top.proofs.quorum.report.Goals as goal

pub returns-in_err-program : goal.returns-in_err-program
returns-in_err-program g c = none_passed _ _ _ c.from_residual.ensures.1

pub returns-in_err-line : goal.returns-in_err-line
returns-in_err-line g c = none_passed _ _ _ c.from_residual-in_err-line.ensures.1
