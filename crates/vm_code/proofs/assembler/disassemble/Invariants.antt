use Rattle.std.proofs.Common.{length, ◌-◌, string_bytes}
use Rattle.vm_code.proofs.Listing.{Reached}
use Rattle.vm_code.proofs.assembler.disassemble.Given as goal

abbrev pub invariant-loop-at : goal.invariant-loop-at
invariant-loop-at l = Reached l.program (string_bytes l.text) l.at

abbrev pub decreases-loop-at : goal.decreases-loop-at
decreases-loop-at l = length l.program - l.at
