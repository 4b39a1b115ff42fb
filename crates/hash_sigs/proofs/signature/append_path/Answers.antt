use Rattle.std.proofs.Common.{◌≡◌, ◌+◌, ◌/◌, ◌^◌, ◌<◌, [], ◌++◌, get_or, sym, ap, ◌∙◌, append-nil, arith}
use Rattle.hash_sigs.specs.Key.{own_path, sibling}
use Rattle.hash_sigs.specs.Nodes.{HasNodes}
use Rattle.hash_sigs.proofs.Levels.{sibling_in_level, level_bounds}
use Rattle.hash_sigs.proofs.Steps.{joined_none, joined_turn, half_none, half_more}
use Rattle.hash_sigs.proofs.signature.append_path.Goals as goal

pub loop-level-init : goal.loop-level-init
loop-level-init c = record {
  node = ap (λ n. n + c.args.q) c.leaves.ensures.value ∙ half_none (2 ^ c.args.origin.now.height + c.args.q);
  bytes = sym (ap (λ x. c.args.bytes.now.items ++ x) (joined_none (own_path c.args.origin.now c.args.q)) ∙ append-nil c.args.bytes.now.items);
}

pub loop-level-preserved : goal.loop-level-preserved
unfolding own_path HasNodes
loop-level-preserved c =
    let o = c.args.origin.now in
    let f = own_path o c.args.q in
    let n = c.loop-level.level in
    let below : n < o.height = omega (arith, c.height-level-end.ensures.value) in
    let there = sibling_in_level o.height n c.args.q below c.requires.leaf in
    let number : c.sibling.result ≡ sibling ((2 ^ o.height + c.args.q) / 2 ^ n) =
    c.sibling.ensures ∙ ap (λ m. sibling m) c.loop-level.invariant.node in
    let value : get_or c.args.nodes.now c.sibling.result [] ≡ f n =
    ap (λ r. get_or c.args.nodes.now r []) number
    ∙ c.requires.nodes n (sibling ((2 ^ o.height + c.args.q) / 2 ^ n)) (omega arith) there ((level_bounds o.height n _ there).0) in
    record {
      node = ap (λ x. x / 2) c.loop-level.invariant.node ∙ sym (half_more (2 ^ o.height + c.args.q) n);
      bytes = c.in_ok-extend_from_slice.ensures.items
          ∙ ap (λ x. x ++ get_or c.args.nodes.now c.sibling.result []) c.loop-level.invariant.bytes
          ∙ joined_turn c.args.bytes.now.items f n (get_or c.args.nodes.now c.sibling.result []) value;
    }
