use Rattle.std.proofs.Common.{refl}
use Rattle.std.specs.List.Sorted.{IsStrictlySortedBy}
use Rattle.trials.proofs.roots.roots_of_sets.Goals as goal

pub set_root-requires : goal.set_root-requires
unfolding IsStrictlySortedBy
set_root-requires g c = tt

pub set_root-requires-2 : goal.set_root-requires-2
unfolding IsStrictlySortedBy
set_root-requires-2 g c = (tt, tt)

pub set_root-requires-3 : goal.set_root-requires-3
unfolding IsStrictlySortedBy
set_root-requires-3 g c =
    ((refl, (refl, (refl, (refl, tt)))), ((refl, (refl, (refl, tt))), ((refl, (refl, tt)), ((refl, tt), (tt, tt)))))
