-- How many units of an asset transactions issue, retire and leave unspent.
use Rattle.std.specs.Prelude.{◌≡◌, ℕ, ◌+◌, List}
use Rattle.std.specs.List.{sum_by}
use Rattle.data_model.specs.declared.block.Block.{Block}
use Rattle.data_model.specs.declared.input.Input.{Input}
use Rattle.data_model.specs.declared.output.Output.{Output}
use Rattle.data_model.specs.declared.tx.Tx.{Tx}
use Rattle.keyed.specs.Functions.{Hash, Check}
use Rattle.tx_check.specs.Table.{units}
use Rattle.tx_check.specs.View.{Unspent}
use Rattle.ledger_core.specs.Blocks.{txs_of}
use Rattle.ledger_core.specs.Chain.{Chain}
use Rattle.ledger_core.specs.Unspent.{unspent_after}

-- the units of an asset that an input issues; a spend issues none
abbrev pub issued_by : (asset : List ℕ) → Input → ℕ
issued_by asset (Input.Issue issue) = units asset issue.asset issue.amount
issued_by asset (Input.Spend spend) = 0

-- the units of an asset that an output retires; one under a program retires none
abbrev pub retired_by : (asset : List ℕ) → Output → ℕ
retired_by asset (Output.Control control) = 0
retired_by asset (Output.Retire retire) = units asset retire.asset retire.amount

-- those of transactions
abbrev pub issued : (asset : List ℕ) → List Tx → ℕ
issued asset txs = sum_by (λ tx. sum_by (issued_by asset) tx.inputs) txs

abbrev pub retired : (asset : List ℕ) → List Tx → ℕ
retired asset txs = sum_by (λ tx. sum_by (retired_by asset) tx.outputs) txs

-- the units of an asset that outputs hold
abbrev pub held_units : (asset : List ℕ) → List Unspent → ℕ
held_units asset outputs = sum_by (λ output. units asset output.body.asset output.body.amount) outputs

-- Of each asset, what is unspent after the blocks of a chain and what they retire is together what they issue.
abbrev pub Conserves : Hash → Check → Type 0
Conserves hash check =
    (blocks : List Block) (asset : List ℕ)
    → Chain hash check blocks
    → held_units asset (unspent_after hash (txs_of blocks)) + retired asset (txs_of blocks)
    ≡ issued asset (txs_of blocks)
