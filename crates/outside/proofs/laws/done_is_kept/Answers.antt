use Rattle.outside.proofs.CrashProofs.{done_is_kept_lem}
use Rattle.outside.proofs.laws.done_is_kept.Goals as goal

pub returns : goal.returns
returns c = done_is_kept_lem
