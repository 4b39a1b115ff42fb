use Rattle.std.proofs.Common.{◌≡◌, ◌++◌, ◌∷◌, [], take}
use Rattle.std.specs.List.{flat_map}
use Rattle.vm_num.specs.Push.{push_of}
use Rattle.vote_book.proofs.quorum.quorum_program.Given as goal

abbrev pub invariant-loop-key : goal.invariant-loop-key
invariant-loop-key l = l.program.items ≡ (0xaf ∷ []) ++ flat_map push_of (take l.key-index l.key-items)
