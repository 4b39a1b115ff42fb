use Rattle.std.proofs.Common.{◌≡◌, ◌*◌, ◌≤◌, take}
use Rattle.tx_check.specs.Table.{sum_in}
use Rattle.tx_check.proofs.assets.units_in.Given as goal

abbrev pub invariant-loop-input : goal.invariant-loop-input
invariant-loop-input l = record {
  sum : l.sum ≡ sum_in l.asset (take l.input-index l.inputs);
  small : l.sum ≤ l.input-index * 18446744073709551615;
}
