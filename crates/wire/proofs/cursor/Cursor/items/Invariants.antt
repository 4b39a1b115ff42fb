use Rattle.std.proofs.Common.{◌≡◌, ◌≤◌, ◌-◌}
use Rattle.wire.specs.Places.{items_at}
use Rattle.wire.proofs.Loop.{with_front}
use Rattle.wire.proofs.cursor.Cursor.items.Given as goal

abbrev pub invariant-loop : goal.invariant-loop
invariant-loop g l = record {
  on : l.from ≤ l.self.at;
  read : with_front l.items (items_at l.room g.T.Record.reading (l.count - l.counter) (l.self.at - l.from) l.self) ≡ items_at l.room g.T.Record.reading l.count 0 l.initial.self;
}
