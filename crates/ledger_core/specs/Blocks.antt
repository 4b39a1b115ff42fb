-- The blocks of a chain, and the transactions in them.
use Rattle.std.specs.Prelude.{ℕ, ◌-◌, List, length, slice_get, Option, Some, None}
use Rattle.std.specs.List.{flat_map}
use Rattle.data_model.specs.declared.block.Block.{Block}
use Rattle.data_model.specs.declared.tx.Tx.{Tx}

-- the last block
abbrev pub tip_of : List Block → Option Block
tip_of blocks = slice_get blocks (length blocks - 1)

-- the transactions of all blocks, in order
abbrev pub txs_of : List Block → List Tx
txs_of blocks = flat_map (λ block. block.txs) blocks

-- the time of a block, 0 where there is none
abbrev pub time_of : Option Block → ℕ
time_of None = 0
time_of (Some block) = block.header.time
