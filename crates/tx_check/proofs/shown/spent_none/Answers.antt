use Rattle.std.proofs.Common.{refl}
use Rattle.entry_ids.specs.declared.input.Named.{Named}
use Rattle.entry_ids.specs.Ids.{names}
use Rattle.tx_check.specs.FirstPlaces.{none_more, found_along, nowhere_along}
use Rattle.wire.specs.Lists.{StandsAt}
use Rattle.wire.specs.Decisions.{failed}
use Rattle.tx_check.proofs.Everywhere.{mapped_read}
use Rattle.tx_check.proofs.shown.spent_none.Goals as goal

pub returns-then-spends_none : goal.returns-then-spends_none
returns-then-spends_none g c = λ hash e.
    let tx = c.args.tx.now in
    let stands : StandsAt c.as_slice-inputs.result.now c.loop-k.k c.index-inputs-k.result = record { there = c.loop-k-test.true; is = c.index-inputs-k.is } in
    let read = mapped_read (names hash tx) tx.inputs c.as_slice-inputs.result.now c.args.named.now c.loop-k.k c.index-inputs-k.result Named.Nothing c.as_slice-inputs.ensures e stands in
    found_along _ _ _ c.as_slice-inputs.ensures c.loop-k.k c.index-inputs-k.result _ (c.loop-k.invariant hash e) stands
    ((c.if-spends_none.ensures hash tx read).0 refl, refl)

pub loop-k-preserved : goal.loop-k-preserved
loop-k-preserved g c = λ hash e.
    let tx = c.args.tx.now in
    let stands : StandsAt c.as_slice-inputs.result.now c.loop-k.k c.index-inputs-k.result = record { there = c.loop-k-test.true; is = c.index-inputs-k.is } in
    let read = mapped_read (names hash tx) tx.inputs c.as_slice-inputs.result.now c.args.named.now c.loop-k.k c.index-inputs-k.result Named.Nothing c.as_slice-inputs.ensures e stands in
    none_more _ _ c.loop-k.k c.index-inputs-k.result (c.loop-k.invariant hash e) stands
    (λ reported h. failed ((c.if-spends_none.ensures hash tx read).1 h.0))

pub returns : goal.returns
returns g c = λ hash e.
    nowhere_along _ _ _ c.as_slice-inputs.ensures c.loop-k.k c.loop-k-test.false (c.loop-k.invariant hash e)
