-- What a contract sees of an instruction that was read.
use Rattle.std.specs.Prelude.{◌≡◌, Result, Ok, Err}
use Rattle.vm_code.specs.declared.CodeFault.{CodeFault}
use Rattle.vm_code.specs.declared.Instruction.{Instruction}
use Rattle.vm_code.specs.declared.CodeFault.TheVariants as faults
use Rattle.vm_code.specs.Instruction.{Decoded, Misread, Short, BadOpcode}

abbrev pub seen : Instruction → Decoded
seen i = record { code = i.code; pushed = i.pushed.now; target = i.target; len = i.len }

-- what was answered is what the definition says; out of memory is never answered
abbrev pub Reads : Result Instruction CodeFault → Result Decoded Misread → Type 0
Reads (Ok i) answer = answer ≡ Ok (seen i)
Reads (Err faults.Short) answer = answer ≡ Err Short
Reads (Err faults.BadOpcode) answer = answer ≡ Err BadOpcode
Reads (Err faults.NoMemory) answer = ⊥
