use Rattle.std.proofs.Common.{◌≡◌}
use Rattle.tx_check.specs.Table.{asset_out}
use Rattle.tx_check.proofs.Everywhere.{NotBelow}
use Rattle.tx_check.proofs.assets.appears_out.Given as goal

abbrev pub invariant-loop-output : goal.invariant-loop-output
invariant-loop-output l = NotBelow (λ output. asset_out output ≡ l.asset) l.outputs l.output-index
