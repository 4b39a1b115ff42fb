use Rattle.std.proofs.Common.{◌-◌, ◌≤◌, length}
use Rattle.std.specs.List.{AllByRecursion}
use Rattle.vote_book.specs.Quorum.{IsKey}
use Rattle.vote_book.specs.Positions.{AreFirst}
use Rattle.vote_book.proofs.reading.read_keys.Given as goal

abbrev pub decreases-loop-alloc : goal.decreases-loop-alloc
decreases-loop-alloc l = 16 - length l.keys

abbrev pub invariant-loop-alloc : goal.invariant-loop-alloc
invariant-loop-alloc l = record {
  few : length l.keys ≤ 16;
  each : AllByRecursion IsKey l.keys;
  first : AreFirst l.program l.keys l.at;
}
