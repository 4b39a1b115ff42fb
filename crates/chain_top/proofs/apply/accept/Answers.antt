use Rattle.std.proofs.Common.{ℕ, List, [], ◌∷◌, ◌∙◌, refl, subst}
use Rattle.outside.specs.Files.{Append}
use Rattle.outside.specs.Steps.{Write, Print}
use Rattle.replies.specs.Fronts.{onward-print, went-then, went-cut}
use Rattle.replies.specs.Plan.{stop_of, done, Went}
use Rattle.replies.specs.Recipes.{went_passed, none_passed}
use Rattle.command_lines.specs.Line.{accepted_line}
use Rattle.chain_top.proofs.apply.accept.Goals as goal

pub returns-in_err-line : goal.returns-in_err-line
returns-in_err-line g c = none_passed _ _ _ c.from_residual.ensures.1

pub returns-in_err-written : goal.returns-in_err-written
returns-in_err-written g c =
    let write = Write Append c.args.name.now c.args.frame.now in
    went_passed _ _ _ _ _ c.from_residual-in_err-written.ensures.1
    (went-cut (done (write ∷ [])) (done (Print (accepted_line c.args.added.now.height c.args.added.now.id) ∷ [])) _ _ _ refl (c.in_err-written.ensures write _ _ refl c.append_frame.ensures))

pub returns : goal.returns
returns g c =
    let write = Write Append c.args.name.now c.args.frame.now in
    let stop = stop_of c.say.result in
    let line = c.as_bytes.result.now in
    subst (λ (text : List ℕ). Went (done (write ∷ Print text ∷ [])) (g.O.Outside.io c.args.out.now) (g.O.Outside.io c.say.new.out) stop)
    (c.as_bytes.ensures.value ∙ c.in_ok-line.ensures)
    (went-then (done (write ∷ [])) (done (Print line ∷ [])) _ _ _ stop (onward-print (write ∷ []) line stop)
    (c.in_ok-written.ensures write _ _ refl c.append_frame.ensures) c.say.ensures)
