use Rattle.std.proofs.Common.{◌≡◌}
use Rattle.tx_check.specs.Parts.{asset_in}
use Rattle.tx_check.proofs.Everywhere.{NotBelow}
use Rattle.tx_check.proofs.assets.appears_in.Given as goal

abbrev pub invariant-loop-input : goal.invariant-loop-input
invariant-loop-input l = NotBelow (λ input. asset_in input ≡ l.asset) l.inputs l.input-index
