use Rattle.outside.proofs.CrashProofs.{runs_join_lem}
use Rattle.outside.proofs.laws.runs_join.Goals as goal

pub returns : goal.returns
returns c = runs_join_lem
