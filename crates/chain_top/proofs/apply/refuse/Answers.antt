use Rattle.replies.specs.Recipes.{none_passed}
use Rattle.chain_top.proofs.apply.refuse.Goals as goal

pub returns-in_err-line : goal.returns-in_err-line
returns-in_err-line g c = none_passed _ _ _ c.from_residual.ensures.1
