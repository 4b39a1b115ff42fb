use Rattle.std.proofs.Common.{◌≡◌, ◌/◌, ◌<◌, ◌≤◌, length, take}
use Rattle.std.specs.Prelude.{slice_index}
use Rattle.std.specs.List.{All}
use Rattle.merkle.specs.Roots.{without}
use Rattle.merkle.proofs.set.count_without.Given as goal

abbrev pub invariant-loop-id : goal.invariant-loop-id
invariant-loop-id l = record {
  count : l.count ≡ length (without l.place (take l.id-index l.ids));
  within : l.count ≤ l.id-index;
  bytes : All (λ id. slice_index id (l.place / 8) < 256) (take l.id-index l.ids);
}
