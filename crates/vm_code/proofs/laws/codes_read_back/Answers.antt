use Rattle.vm_code.specs.Readings.{plain-read, jump-read}
use Rattle.vm_code.proofs.laws.codes_read_back.Goals as goal

pub returns-clause-plain : goal.returns-clause-plain
returns-clause-plain c = plain-read

pub returns-clause-jump : goal.returns-clause-jump
returns-clause-jump c = jump-read
