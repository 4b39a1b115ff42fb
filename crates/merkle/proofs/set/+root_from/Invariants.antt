use Rattle.std.proofs.Common.{◌-◌}
use Rattle.merkle.proofs.set.+root_from.Given as goal

abbrev pub decreases-root_from : goal.decreases-root_from
decreases-root_from g l = 256 - l.place
