use Rattle.std.proofs.Common.{◌≡◌, take}
use Rattle.std.specs.Prelude.{map}
use Rattle.ledger_core.proofs.ledger.Ledger.root_of_txs.Given as goal

abbrev pub invariant-loop-one : goal.invariant-loop-one
invariant-loop-one g l = l.tx_ids.items ≡ map (λ one. one.tx) (take l.one-index l.ids)
