-- What an input brings, and what it has to satisfy: an issuance its own asset, amount and program, a spend those of the
-- output that it spends.
use Rattle.std.specs.Prelude.{ℕ, List, Option, Some, None}
use Rattle.data_model.specs.declared.input.Input.{Input}
use Rattle.entry_ids.specs.declared.input.Named.{Named}
use Rattle.keyed.specs.Functions.{Hash}
use Rattle.entry_ids.specs.Ids.{output_id}

abbrev pub asset_in : Input → List ℕ
asset_in (Input.Issue issue) = issue.asset
asset_in (Input.Spend spend) = spend.from.asset

abbrev pub amount_in : Input → ℕ
amount_in (Input.Issue issue) = issue.amount
amount_in (Input.Spend spend) = spend.from.amount

abbrev pub program_in : Input → List ℕ
program_in (Input.Issue issue) = issue.program
program_in (Input.Spend spend) = spend.from.program

-- the arguments of that program
abbrev pub args_in : Input → List (List ℕ)
args_in (Input.Issue issue) = issue.args
args_in (Input.Spend spend) = spend.args

-- the id of the output that is spent; an issuance has none
abbrev pub spent_id : Hash → Input → Option (List ℕ)
spent_id hash (Input.Issue issue) = None
spent_id hash (Input.Spend spend) = Some (output_id hash spend.from)

-- the id of the output that is named, if one is
abbrev pub named_output : Named → Option (List ℕ)
named_output Named.Nothing = None
named_output (Named.Nonce id) = None
named_output (Named.Output id) = Some id
