-- The attributes of rows. Public statements name it.
use Rattle.std.specs.Prelude.{ℕ, Bool, true, false, List, [], ◌∷◌, Option, Some, None, codes}
use Rattle.filter_syntax.specs.declared.tree.RowKind.{RowKind}
use Rattle.filter_syntax.specs.declared.tree.RowKind.TheVariants.{Transactions, Outputs, Assets}

-- those of output rows that sums are made by: all but `amount`
abbrev pub by_attributes : List (List ℕ)
by_attributes =
    codes "asset_id" ∷ codes "control_program" ∷ codes "data" ∷ codes "id" ∷ codes "position" ∷ codes "type"
    ∷ codes "block_height" ∷ codes "transaction_id" ∷ codes "transaction_position" ∷ []

-- those of output rows
abbrev pub output_row_attributes : List (List ℕ)
output_row_attributes = codes "amount" ∷ by_attributes

-- those of transactions
abbrev pub transaction_attributes : List (List ℕ)
transaction_attributes =
    codes "block_height" ∷ codes "data" ∷ codes "id" ∷ codes "maxtime" ∷ codes "mintime" ∷ codes "position"
    ∷ codes "timestamp" ∷ []

-- those of an input of a transaction
abbrev pub input_attributes : List (List ℕ)
input_attributes =
    codes "amount" ∷ codes "asset_id" ∷ codes "data" ∷ codes "position" ∷ codes "program" ∷ codes "spent_output_id"
    ∷ codes "type" ∷ []

-- those of an output inside a transaction
abbrev pub output_attributes : List (List ℕ)
output_attributes =
    codes "amount" ∷ codes "asset_id" ∷ codes "control_program" ∷ codes "data" ∷ codes "id" ∷ codes "position"
    ∷ codes "type" ∷ []

-- those of assets
abbrev pub asset_attributes : List (List ℕ)
asset_attributes = codes "asset_id" ∷ codes "issued" ∷ codes "retired" ∷ codes "unspent" ∷ []

-- those of rows of a kind, outside scopes and inside `inputs(..)` (`Some true`) or `outputs(..)` (`Some false`); only
-- transactions have scopes
abbrev pub attributes : RowKind → (scope : Option Bool) → List (List ℕ)
attributes Transactions None = transaction_attributes
attributes Transactions (Some true) = input_attributes
attributes Transactions (Some false) = output_attributes
attributes Outputs None = output_row_attributes
attributes Assets None = asset_attributes
attributes _ (Some side) = []
