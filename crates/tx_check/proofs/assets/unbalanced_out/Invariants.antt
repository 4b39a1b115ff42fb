use Rattle.std.specs.Prelude.{map}
use Rattle.tx_check.specs.Table.{asset_out}
use Rattle.tx_check.specs.Table.{IsUnbalanced}
use Rattle.tx_check.specs.FirstPlaces.{NoneBelow}
use Rattle.tx_check.proofs.assets.unbalanced_out.Given as goal

abbrev pub invariant-loop-k : goal.invariant-loop-k
invariant-loop-k l = NoneBelow (λ k asset. IsUnbalanced l.tx asset) (map asset_out l.tx.outputs) l.k
