use Rattle.outside.proofs.CrashProofs.{starts_kept_lem}
use Rattle.outside.proofs.laws.starts_kept.Goals as goal

pub returns : goal.returns
returns c = starts_kept_lem
