use Rattle.std.proofs.Common.{[], ◌∷◌, refl}
use Rattle.outside.specs.Files.{Replace}
use Rattle.outside.specs.Steps.{Write, Print}
use Rattle.replies.specs.Plan.{stop_of, done}
use Rattle.replies.specs.Fronts.{onward-print, plan_laws}
use Rattle.replies.specs.Recipes.{went_passed}
use Rattle.replies.proofs.calls.replace_and_say.Goals as goal

pub returns-in_err-replace : goal.returns-in_err-replace
returns-in_err-replace g c =
    went_passed _ _ _ _ _ c.from_residual.ensures.1
    (plan_laws.cut (done (Write Replace c.args.name.now c.args.bytes.now ∷ [])) (done (Print c.args.line.now ∷ [])) _ _ _ refl c.in_err-replace.ensures)

pub returns : goal.returns
returns g c = plan_laws.then (done (Write Replace c.args.name.now c.args.bytes.now ∷ [])) (done (Print c.args.line.now ∷ [])) _ _ _ _ (onward-print (Write Replace c.args.name.now c.args.bytes.now ∷ []) c.args.line.now (stop_of c.say.result)) c.in_ok-replace.ensures c.say.ensures
