use Rattle.hash_sigs.proofs.Good.{shows_leaf, leaf_fits}
use Rattle.hash_sigs.proofs.laws.signatures_show_leaves.Goals as goal

pub returns : goal.returns
returns c = λ o q message tall lt. shows_leaf o q message (leaf_fits o.height q tall lt)
