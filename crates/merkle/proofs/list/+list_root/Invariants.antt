use Rattle.std.proofs.Common.{length}
use Rattle.merkle.proofs.list.+list_root.Given as goal

abbrev pub decreases-list_root : goal.decreases-list_root
decreases-list_root g l = length l.ids.now
