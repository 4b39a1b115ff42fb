use Rattle.std.proofs.Common.{◌≡◌, ◌*◌, ◌≤◌, take}
use Rattle.tx_check.specs.Table.{sum_out}
use Rattle.tx_check.proofs.assets.units_out.Given as goal

abbrev pub invariant-loop-output : goal.invariant-loop-output
invariant-loop-output l = record {
  sum : l.sum ≡ sum_out l.asset (take l.output-index l.outputs);
  small : l.sum ≤ l.output-index * 18446744073709551615;
}
