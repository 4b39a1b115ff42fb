-- A frame has a byte, so that a file has no more blocks than bytes.
use Rattle.std.proofs.Common.{ℕ, zero, suc, ◌<◌, ◌≤◌, Bool, true, false, cond, List, [], ◌∷◌, length, nat_lt, Ok, ap, arith}
use Rattle.std.proofs.lemmas.List.{length-append}
use Rattle.data_model.specs.declared.block.Block.{Block}
use Rattle.data_model.specs.Files.{block_frame, BlocksReadAs}
use Rattle.data_model.specs.Spelling.{block_spelling}
use Rattle.wire.specs.Spelling.{groups, varint, varstring}
use Rattle.ledger_file.specs.Files.{file_spelling}

some_of : (test : Bool) (a b : ℕ) (xs ys : List ℕ) → 0 < length (cond test (a ∷ xs) (b ∷ ys))
some_of true a b xs ys = omega arith
some_of false a b xs ys = omega arith

some_groups : (m n : ℕ) → 0 < length (groups m n)
unfolding groups
some_groups zero n = omega arith
some_groups (suc m) n = some_of (nat_lt n 128) n _ [] _

some_frame : (block : Block) → 0 < length (block_frame block)
unfolding varint varstring
some_frame block = omega (arith, some_groups 8 (length (block_spelling block)), length-append (groups 8 (length (block_spelling block))) (block_spelling block))

pub few_blocks : (xs : List Block) → length xs ≤ length (file_spelling xs)
few_blocks [] = omega arith
few_blocks (x ∷ xs) = omega (arith, some_frame x, few_blocks xs, length-append (block_frame x) (file_spelling xs))

pub few_read : (bytes : List ℕ) (xs : List Block) → BlocksReadAs bytes (Ok xs) → length xs ≤ length bytes
few_read bytes xs (framed, spelled) = omega (arith, few_blocks xs, ap length spelled)
