-- What a block has that starts a chain, and what one has that extends a chain.
use Rattle.std.specs.Prelude.{◌≡◌, ℕ, ◌+◌, ◌<◌, List, [], replicate, take, slice_get, Some}
use Rattle.data_model.specs.declared.block.Block.{Block}
use Rattle.entry_ids.specs.Entry.{header_id}
use Rattle.vm_run.specs.declared.verdict.Verdict.TheVariants.{Succeeded}
use Rattle.keyed.specs.Functions.{Check}
use Rattle.ledger_core.specs.Roots.{root_of_none, tx_root, unspent_root}
use Rattle.keyed.specs.Functions.{Hash}
use Rattle.data_model.specs.declared.tx.Tx.{Tx}
use Rattle.tx_check.specs.Table.{TxValid}
use Rattle.ledger_core.specs.Refusal.{HasVerdictAfter}
use Rattle.ledger_core.specs.State.{state_after}

pub record IsInitial (hash : Hash) (block : Block) : Type 0 where
  pub height : block.header.height ≡ 1
  pub previous : block.header.previous ≡ replicate 32 0
  pub version : block.header.version ≡ 1
  pub txs : block.txs ≡ []
  pub args : block.args ≡ []
  pub tx_root : block.header.tx_root ≡ root_of_none hash
  pub unspent_root : block.header.unspent_root ≡ root_of_none hash

-- a block after these, the last of which is this tip
pub record Extends (hash : Hash) (check : Check) (blocks : List Block) (tip block : Block) : Type 0 where
  pub previous : block.header.previous ≡ header_id hash tip.header
  pub height : block.header.height ≡ tip.header.height + 1
  pub time : tip.header.time < block.header.time
  pub version : block.header.version ≡ 1
  pub is_tx_root : block.header.tx_root ≡ tx_root hash block
  -- the tip's next program succeeds on the block's arguments, in the block's context
  pub succeeds : (left : ℕ) × HasVerdictAfter hash check tip.header block.header block.args (Succeeded left)
  -- each transaction is valid on what the blocks and the earlier transactions of the block show
  pub txs :
      (k : ℕ) (tx : Tx)
      → slice_get block.txs k ≡ Some tx
      → TxValid hash check (state_after hash blocks (take k block.txs)) block.header.time tx
  pub is_unspent_root : block.header.unspent_root ≡ unspent_root hash blocks block
