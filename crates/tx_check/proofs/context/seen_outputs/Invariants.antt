use Rattle.std.proofs.Common.{◌≡◌, take}
use Rattle.std.specs.Prelude.{map}
use Rattle.keyed.specs.Functions.{Hash}
use Rattle.entry_ids.specs.Ids.{AreIds, result_data}
use Rattle.tx_check.specs.Contexts.{seen}
use Rattle.tx_check.proofs.context.seen_outputs.Given as goal

abbrev pub invariant-loop-k : goal.invariant-loop-k
invariant-loop-k l =
    (hash : Hash) → AreIds hash l.tx l.ids → l.outs ≡ map (λ output. seen (result_data hash output) output) (take l.k l.outputs)
