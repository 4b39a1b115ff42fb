-- What definitions see of the walk's own types. Only contracts of private functions name it.
use Rattle.std.specs.Prelude.{List, [], ◌∷◌, Option, Some, None, option_map}
use Rattle.ivy_value.specs.declared.lower.Names as code
use Rattle.ivy_value.specs.declared.lower.Walked.{Walked}
use Rattle.ivy_value.specs.declared.lower.Walked.TheVariants as walked
use Rattle.ivy_value.specs.Term.{term_of}
use Rattle.ivy_value.specs.declared.tree.CoreStep.{CoreStep}
use Rattle.ivy_value.specs.Steps.{Step, step_of}
use Rattle.ivy_value.specs.Lowered.{Names, Lowered, Single, Places}

abbrev pub names_of : code.Names → Names
names_of names = record { held = names.held.now; given = names.given.now }

abbrev pub walked_of : Walked → Lowered
walked_of (walked.Single kind core) = Single kind (term_of core)
walked_of (walked.Places places) = Places places

abbrev pub seen : Option Walked → Option Lowered
seen = option_map walked_of

-- the step, if there is one
abbrev pub steps_in : Option CoreStep → List Step
steps_in None = []
steps_in (Some step) = step_of step ∷ []
