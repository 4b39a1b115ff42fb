use Rattle.outside.proofs.Moments.{moments_join_lem}
use Rattle.outside.proofs.laws.moments_join.Goals as goal

pub returns : goal.returns
returns c = moments_join_lem
