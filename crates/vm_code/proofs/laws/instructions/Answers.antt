use Rattle.vm_code.proofs.Named.{one_name}
use Rattle.vm_code.proofs.WordTexts.{one_instruction}
use Rattle.vm_code.proofs.Existing.{stands, again, named}
use Rattle.vm_code.proofs.laws.instructions.Goals as goal

pub returns : goal.returns
returns c = record { stands = stands; again = again; one_text = one_instruction; named = named; one_name = one_name }
