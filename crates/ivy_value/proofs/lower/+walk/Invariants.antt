-- The members that were passed are parameters, and these are their places.
use Rattle.std.proofs.Common.{◌≡◌, map, drop}
use Rattle.ivy_value.specs.Seen.{names_of}
use Rattle.ivy_value.specs.Lowered.{gathered, place_in, lowered}
use Rattle.ivy_value.proofs.Gathered.{after}
use Rattle.ivy_value.proofs.lower.+walk.Given as goal

abbrev pub invariant-list-loop-e : goal.invariant-list-loop-e
invariant-list-loop-e l =
    gathered (map place_in (map (lowered (names_of l.names)) l.members))
    ≡ after l.places (gathered (map place_in (map (lowered (names_of l.names)) (drop l.e-index l.members))))
