use Rattle.hash_sigs.proofs.Good.{apart, leaf_fits}
use Rattle.hash_sigs.proofs.laws.leaves_are_apart.Goals as goal

pub returns : goal.returns
returns c = λ o q r first second tall lt more. apart o o q r first second (leaf_fits o.height q tall lt) (leaf_fits o.height r tall more)
