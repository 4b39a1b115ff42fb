use Rattle.outside.proofs.CrashProofs.{others_stay_lem}
use Rattle.outside.proofs.laws.others_stay.Goals as goal

pub returns : goal.returns
returns c = others_stay_lem
