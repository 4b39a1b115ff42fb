use Rattle.std.proofs.Common.{length}
use Rattle.vm_code.proofs.Assembling.{Joined}
use Rattle.vm_code.proofs.assembler.assemble.Given as goal

abbrev pub invariant-loop-word : goal.invariant-loop-word
invariant-loop-word l =
    (goal.iterator-loop-word).can_next l.word-iterator × (goal.iterator-loop-word).is_finite l.word-iterator × Joined l.text (length l.yielded) l.at l.program.items
