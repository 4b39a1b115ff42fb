use Rattle.std.proofs.Common.{[], refl}
use Rattle.entry_ids.specs.Ids.{result_ids}
use Rattle.tx_check.specs.Table.{IsControl}
use Rattle.tx_check.specs.FirstPlaces.{none_more, found_along, nowhere_along}
use Rattle.wire.specs.Lists.{StandsAt}
use Rattle.wire.specs.Decisions.{failed}
use Rattle.tx_check.proofs.Results.{result_read, takes, takes_not}
use Rattle.tx_check.proofs.shown.taken_id.Goals as goal

pub returns-then-takes_id : goal.returns-then-takes_id
returns-then-takes_id g c = λ hash e.
    let tx = c.args.tx.now in
    let output = c.index-outputs-k.result in
    let stands : StandsAt c.as_slice-outputs.result.now c.loop-k.k output = record { there = c.loop-k-test.true; is = c.index-outputs-k.is } in
    let read = result_read hash tx c.as_slice-outputs.result.now c.args.results.now c.loop-k.k output [] c.as_slice-outputs.ensures e stands in
    found_along _ _ _ c.as_slice-outputs.ensures c.loop-k.k output _ (c.loop-k.invariant hash e) stands
    (takes (IsControl output) (g.V.View.state_of c.args.view.now) c.args.results.now (result_ids hash tx) e c.loop-k.k _ _ read (c.if-takes_id.ensures.0 refl))

pub loop-k-preserved : goal.loop-k-preserved
loop-k-preserved g c = λ hash e.
    let tx = c.args.tx.now in
    let output = c.index-outputs-k.result in
    let stands : StandsAt c.as_slice-outputs.result.now c.loop-k.k output = record { there = c.loop-k-test.true; is = c.index-outputs-k.is } in
    let read = result_read hash tx c.as_slice-outputs.result.now c.args.results.now c.loop-k.k output [] c.as_slice-outputs.ensures e stands in
    none_more _ _ c.loop-k.k output (c.loop-k.invariant hash e) stands
    (λ reported h. failed (c.if-takes_id.ensures.1 (takes_not (IsControl output) (g.V.View.state_of c.args.view.now) c.args.results.now (result_ids hash tx) e c.loop-k.k _ _ read h.0)))

pub returns : goal.returns
returns g c = λ hash e.
    nowhere_along _ _ _ c.as_slice-outputs.ensures c.loop-k.k c.loop-k-test.false (c.loop-k.invariant hash e)
