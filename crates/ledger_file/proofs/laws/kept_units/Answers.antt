use Rattle.std.proofs.Common.{ℕ, List, Ok}
use Rattle.data_model.specs.declared.block.Block.{Block}
use Rattle.keyed.specs.Functions.{Check}
use Rattle.ledger_core.specs.Chain.{Chain}
use Rattle.keyed.specs.Functions.{Hash}
use Rattle.ledger_file.specs.Loading.{LoadsAs, chain}
use Rattle.ledger_file.proofs.laws.kept_units.Goals as goal

-- what loads is a chain
is_chain : (hash : Hash) (check : Check) (bytes : List ℕ) (blocks : List Block) → LoadsAs hash check bytes (Ok blocks) → Chain hash check blocks
is_chain hash check bytes blocks (chain reads is) = is

pub returns : goal.returns
returns c = λ hash check bytes blocks asset loads. c.conserved_units.ensures hash check blocks asset (is_chain hash check bytes blocks loads)
