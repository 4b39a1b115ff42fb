use Rattle.std.proofs.Common.{◌≡◌, ◌++◌, take}
use Rattle.std.specs.List.{All}
use Rattle.merkle.specs.Laws.{IsId}
use Rattle.ledger_core.specs.Roots.{output_ids}
use Rattle.ledger_core.specs.Unspent.{left_of}
use Rattle.ledger_core.proofs.roots.add_ids.Given as goal

abbrev pub invariant-loop-output : goal.invariant-loop-output
invariant-loop-output l = record {
  items : l.ids.items ≡ l.fn.ids.items ++ output_ids (left_of l.spent (take l.output-index l.outputs));
  ids : All IsId l.fn.ids.items → All IsId l.ids.items;
}
