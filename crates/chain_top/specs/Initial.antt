-- The initial block of a chain.
use Rattle.std.specs.Prelude.{ℕ, List, [], replicate}
use Rattle.data_model.specs.declared.block.Block.{Block}

-- of this time and next program, under a hash: both roots are the hash of nothing
abbrev pub initial_block : (List ℕ → List ℕ) → ℕ → List ℕ → Block
initial_block hash time code = record {
  header =
      record {
        version = 1;
        height = 1;
        previous = replicate 32 0;
        time = time;
        tx_root = hash [];
        unspent_root = hash [];
        next_program = code;
      };
  args = [];
  txs = [];
}
