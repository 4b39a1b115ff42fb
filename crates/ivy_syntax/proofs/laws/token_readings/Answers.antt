use Rattle.ivy_syntax.proofs.Readings.{one_reading}
use Rattle.ivy_syntax.proofs.laws.token_readings.Goals as goal

pub returns : goal.returns
returns c = one_reading
