-- The arguments at the places that were passed.
use Rattle.std.proofs.Common.{◌≡◌, drop}
use Rattle.ivy_value.specs.Term.{arguments_at}
use Rattle.ivy_value.proofs.Gathered.{after}
use Rattle.ivy_value.proofs.evaluation.arguments_at.Given as goal

abbrev pub invariant-loop-place : goal.invariant-loop-place
invariant-loop-place l =
    arguments_at l.at.held.now l.at.given.now l.places
    ≡ after l.items (arguments_at l.at.held.now l.at.given.now (drop l.place-index l.places))
