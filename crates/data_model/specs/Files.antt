-- Files of blocks: frames one after the other, each the length of a block's spelling and that spelling.
use Rattle.std.specs.Prelude.{ℕ, List, Result}
use Rattle.wire.specs.Layout.{FrameFits, frame_spelling}
use Rattle.wire.specs.FirstFault.{FirstFault}
use Rattle.wire.specs.Files.{FileFault, FramesReadAs, FrameLaws}
use Rattle.data_model.specs.declared.block.Block.{Block}
use Rattle.data_model.specs.Layout.{block_layout}
use Rattle.data_model.specs.Spelling.{IsBlock, block_spelling}

-- the most bytes of a frame after its length
abbrev pub longest_frame : ℕ
longest_frame = 67108864

-- a block within its limits and those of a frame
abbrev pub IsFramed : Block → Type 0
IsFramed = FrameFits longest_frame IsBlock block_spelling

abbrev pub block_frame : Block → List ℕ
block_frame = frame_spelling block_spelling

-- what a file reads as: the blocks that it spells, or its first fault
abbrev pub BlocksReadAs : List ℕ → Result (List Block) FileFault → Type 0
BlocksReadAs = FramesReadAs longest_frame IsBlock block_spelling (FirstFault block_layout)

pub record BlockFileLaws : Type 0 where
  pub frames : FrameLaws longest_frame IsBlock block_spelling (FirstFault block_layout)
  -- each block within its limits is short enough for a frame
  pub framed : (block : Block) → IsBlock block → IsFramed block
