use Rattle.std.proofs.Common.{◌≡◌, ◌+◌, ◌<◌, ◌^◌, length, ℕ, List, sym, ap, ◌∙◌, arith}
use Rattle.std.specs.Prelude.{bytes_eq}
use Rattle.tx_check.specs.Parts.{asset_in, amount_in}
use Rattle.wire.specs.Lists.{StandsAt}
use Rattle.tx_check.proofs.Sums.{sum_in_none, sum_in_more, sum_in_all, counts, counts_not, room, added, kept}
use Rattle.tx_check.proofs.assets.units_in.Goals.{then-eq, else-eq}
use Rattle.tx_check.proofs.assets.units_in.Goals as goal

pub loop-input-init : goal.loop-input-init
loop-input-init c = record { sum = sym (sum_in_none c.args.asset.now); small = omega arith }

pub overflow_add-sum : goal.overflow_add-sum
overflow_add-sum c =
    let amount : c.from-sum.result < 2 ^ 64 = omega arith in
    let few : length c.args.inputs.now < 2 ^ 64 = omega arith in
    let below : c.loop-input.sum + c.from-sum.result < 2 ^ 128 =
    room c.loop-input.sum c.loop-input.input-index (length c.args.inputs.now) c.from-sum.result c.loop-input.invariant.small c.loop-input-test.true few amount in
    omega (arith, below)

pub loop-input-preserved : goal.loop-input-preserved
loop-input-preserved c =
    let x = c.input-item.result in
    let stands : StandsAt c.args.inputs.now c.loop-input.input-index x = record { there = c.loop-input-test.true; is = c.input-item.is } in
    let more = sum_in_more c.args.asset.now c.args.inputs.now c.loop-input.input-index x stands in
    let test : c.eq.result ≡ bytes_eq (asset_in x) c.args.asset.now = c.eq.ensures ∙ ap (λ (held : List ℕ). bytes_eq held c.args.asset.now) c.asset_in.ensures in
    let amount : c.amount_in-amount.result < 2 ^ 64 = omega arith in
    elim c.if-eq.branch [
      | then-eq w ↦ record {
        sum = w.sum-is ∙ added _ _ _ _ _ c.loop-input.invariant.sum (w.from-sum.ensures ∙ c.amount_in-amount.ensures)
            (counts c.args.asset.now (asset_in x) (amount_in x) c.eq.result test w.if-eq.true) ∙ sym more;
        small = (let is : w.from-sum.result ≡ c.amount_in-amount.result = w.from-sum.ensures in omega arith);
      }
      | else-eq w ↦ record {
        sum = w.sum-is ∙ kept _ _ _ c.loop-input.invariant.sum (counts_not c.args.asset.now (asset_in x) (amount_in x) c.eq.result test w.if-eq.false) ∙ sym more;
        small = omega arith;
      }
    ]

pub returns : goal.returns
returns c = c.loop-input.invariant.sum ∙ sum_in_all c.args.asset.now c.args.inputs.now c.loop-input.input-index c.loop-input-test.false
