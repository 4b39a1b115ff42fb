use Rattle.std.proofs.Common.{◌≡◌, ◌*◌, ◌≤◌, take}
use Rattle.hash_sigs.specs.OneTime.{checksum}
use Rattle.hash_sigs.proofs.one_time.checksum.Given as goal

abbrev pub invariant-loop-x : goal.invariant-loop-x
invariant-loop-x l = record {
  sum : l.sum ≡ checksum (take l.x-index l.hash);
  small : l.sum ≤ 255 * l.x-index;
}
