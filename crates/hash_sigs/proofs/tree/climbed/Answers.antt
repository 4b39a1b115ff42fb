use Rattle.std.proofs.Common.{◌/◌, sym, ap, ◌∙◌}
use Rattle.hash_sigs.specs.Strings.{string_at}
use Rattle.hash_sigs.proofs.Steps.{climbed_none, climbed_more, half_none, half_more}
use Rattle.hash_sigs.proofs.tree.climbed.Goals as goal

pub loop-level-init : goal.loop-level-init
loop-level-init c = record {
  number = half_none c.args.node;
  reached = climbed_none c.args.id.now c.args.node c.args.value (string_at c.args.signature.now c.args.at);
}

pub loop-level-preserved : goal.loop-level-preserved
loop-level-preserved c =
    let n = c.loop-level.level in
    let path = string_at c.args.signature.now c.args.at in
    let more = climbed_more c.args.id.now c.args.node c.args.value path n in
    let half = half_more c.args.node n in
    record {
      number = ap (λ x. x / 2) c.loop-level.invariant.number ∙ sym half;
      reached = cc (more, c.above-reached.ensures, c.loop-level.invariant.number, c.loop-level.invariant.reached, c.value_at-sibling.ensures);
    }
