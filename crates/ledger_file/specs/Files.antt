-- Files of blocks.
use Rattle.std.specs.Prelude.{◌≢◌, ◌≤◌, ◌++◌, ℕ, List, length}
use Rattle.std.specs.List.{flat_map, AllByRecursion}
use Rattle.data_model.specs.declared.block.Block.{Block}
use Rattle.data_model.specs.Files.{IsFramed, block_frame, longest_frame}
use Rattle.wire.specs.Spelling.{varstring}

-- each block within its limits and those of a frame
abbrev pub AreFramed : List Block → Type 0
AreFramed blocks = AllByRecursion IsFramed blocks

-- the frames in order, with nothing between them
abbrev pub file_spelling : List Block → List ℕ
file_spelling blocks = flat_map block_frame blocks

-- they do not begin with a length and so many bytes, as many as a frame may have
abbrev pub IsUnframed : List ℕ → Type 0
IsUnframed bytes = (held more : List ℕ) → length held ≤ longest_frame → bytes ≢ varstring held ++ more
