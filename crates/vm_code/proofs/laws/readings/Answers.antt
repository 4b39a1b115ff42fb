use Rattle.vm_code.specs.Readings.{within, begun, fronted}
use Rattle.vm_code.proofs.laws.readings.Goals as goal

pub returns : goal.returns
returns c = record { within = within; begun = begun; fronted = fronted }
