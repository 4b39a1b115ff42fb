use Rattle.replies.specs.Recipes.{none_passed}
use Rattle.chain_top.proofs.init.start.Goals as goal

pub returns-in_err-id : goal.returns-in_err-id
returns-in_err-id g c = none_passed _ _ _ c.from_residual.ensures.1

pub returns-in_err-line : goal.returns-in_err-line
returns-in_err-line g c = none_passed _ _ _ c.from_residual-in_err-line.ensures.1

pub returns-in_err-frame : goal.returns-in_err-frame
returns-in_err-frame g c = none_passed _ _ _ c.from_residual-in_err-frame.ensures.1
