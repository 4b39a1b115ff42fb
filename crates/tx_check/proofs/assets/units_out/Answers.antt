use Rattle.std.proofs.Common.{◌≡◌, ◌+◌, ◌<◌, ◌^◌, length, ℕ, List, sym, ap, ◌∙◌, arith}
use Rattle.std.specs.Prelude.{bytes_eq}
use Rattle.tx_check.specs.Table.{asset_out, amount_out}
use Rattle.wire.specs.Lists.{StandsAt}
use Rattle.tx_check.proofs.Sums.{sum_out_none, sum_out_more, sum_out_all, counts, counts_not, room, added, kept}
use Rattle.tx_check.proofs.assets.units_out.Goals.{then-eq, else-eq}
use Rattle.tx_check.proofs.assets.units_out.Goals as goal

pub loop-output-init : goal.loop-output-init
loop-output-init c = record { sum = sym (sum_out_none c.args.asset.now); small = omega arith }

pub overflow_add-sum : goal.overflow_add-sum
overflow_add-sum c =
    let amount : c.from-sum.result < 2 ^ 64 = omega arith in
    let few : length c.args.outputs.now < 2 ^ 64 = omega arith in
    let below : c.loop-output.sum + c.from-sum.result < 2 ^ 128 =
    room c.loop-output.sum c.loop-output.output-index (length c.args.outputs.now) c.from-sum.result c.loop-output.invariant.small c.loop-output-test.true few amount in
    omega (arith, below)

pub loop-output-preserved : goal.loop-output-preserved
loop-output-preserved c =
    let x = c.output-item.result in
    let stands : StandsAt c.args.outputs.now c.loop-output.output-index x = record { there = c.loop-output-test.true; is = c.output-item.is } in
    let more = sum_out_more c.args.asset.now c.args.outputs.now c.loop-output.output-index x stands in
    let test : c.eq.result ≡ bytes_eq (asset_out x) c.args.asset.now = c.eq.ensures ∙ ap (λ (held : List ℕ). bytes_eq held c.args.asset.now) c.asset_out.ensures in
    let amount : c.amount_out-amount.result < 2 ^ 64 = omega arith in
    elim c.if-eq.branch [
      | then-eq w ↦ record {
        sum = w.sum-is ∙ added _ _ _ _ _ c.loop-output.invariant.sum (w.from-sum.ensures ∙ c.amount_out-amount.ensures)
            (counts c.args.asset.now (asset_out x) (amount_out x) c.eq.result test w.if-eq.true) ∙ sym more;
        small = (let is : w.from-sum.result ≡ c.amount_out-amount.result = w.from-sum.ensures in omega arith);
      }
      | else-eq w ↦ record {
        sum = w.sum-is ∙ kept _ _ _ c.loop-output.invariant.sum (counts_not c.args.asset.now (asset_out x) (amount_out x) c.eq.result test w.if-eq.false) ∙ sym more;
        small = omega arith;
      }
    ]

pub returns : goal.returns
returns c = c.loop-output.invariant.sum ∙ sum_out_all c.args.asset.now c.args.outputs.now c.loop-output.output-index c.loop-output-test.false
