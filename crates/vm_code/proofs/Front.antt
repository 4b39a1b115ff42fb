-- An instruction by its first byte.
use Rattle.std.proofs.Common.{◌≡◌, ℕ, ◌+◌, ◌<◌, List, length, get_or, drop, ap}
use Rattle.std.proofs.lemmas.List.{drop_more}
use Rattle.vm_code.specs.Instruction.{instruction_at, decoded, decoded_front}

pub instruction_at-code : (program : List ℕ) (place : ℕ) → place < length program → instruction_at program place ≡ decoded (get_or program place 0) (drop (place + 1) program)
unfolding instruction_at
instruction_at-code program place below = ap decoded_front (drop_more program place 0 below)
