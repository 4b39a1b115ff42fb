use Rattle.std.proofs.Common.{refl}
use Rattle.entry_ids.specs.declared.input.Named.{Named}
use Rattle.tx_check.specs.FirstPlaces.{none_more, found_here}
use Rattle.wire.specs.Decisions.{failed}
use Rattle.wire.specs.Lists.{read_at}
use Rattle.tx_check.proofs.names.spent_twice.Goals as goal

pub returns-then-spends_again : goal.returns-then-spends_again
returns-then-spends_again c =
    found_here _ _ c.loop-k.k _ _ c.loop-k.invariant
    (read_at c.args.named.now c.loop-k.k Named.Nothing c.loop-k-test.true)
    (c.if-spends_again.ensures.0 refl, refl)

pub loop-k-preserved : goal.loop-k-preserved
loop-k-preserved c =
    none_more _ _ c.loop-k.k _ c.loop-k.invariant
    (read_at c.args.named.now c.loop-k.k Named.Nothing c.loop-k-test.true)
    (λ reported h. failed (c.if-spends_again.ensures.1 h.0))
