-- In a well-typed clause all names are distinct, so each has one place.
use Rattle.ivy_check.proofs.PlaceLemmas.{parameter_is_placed, parameter_owns, as_many}
use Rattle.ivy_check.proofs.laws.parameter_places.Goals as goal

pub returns : goal.returns
returns c = record {
  named = λ contract clause name type t k. parameter_is_placed contract clause t k name type;
  own = λ contract clause place param t k there. parameter_owns contract clause t k place param there;
  count = as_many;
}
