use Rattle.std.proofs.Common.{◌≡◌, ℕ, ◌+◌, ◌-◌, ◌*◌, ◌^◌, [], length, get_or, subst, ap, ◌∙◌, arith}
use Rattle.std.proofs.lemmas.List.{length-set}
use Rattle.hash_sigs.specs.Tree.{interior}
use Rattle.hash_sigs.specs.Nodes.{HasNodes}
use Rattle.hash_sigs.proofs.Levels.{node_before}
use Rattle.hash_sigs.proofs.nodes.set_others.Goals as goal

pub loop-first-preserved : goal.loop-first-preserved
loop-first-preserved c =
    let o = c.args.origin.now in
    let nodes = c.loop-first.nodes in
    let r = c.loop-first.first - 1 in
    let next : c.loop-first.first ≡ r + 1 = omega arith in
    let has : HasNodes o nodes (r + 1) = subst (λ (n : ℕ). HasNodes o nodes n) next c.loop-first.invariant.nodes in
    let len : length nodes ≡ 2 ^ o.height * 2 = c.loop-first.invariant.len ∙ ap (λ n. n * 2) c.requires.leaves in
    let is : c.interior.result ≡ interior o.id r (get_or nodes (2 * r) []) (get_or nodes (2 * r + 1) []) =
    c.interior.ensures ∙ ap (λ id. interior id r (get_or nodes (2 * r) []) (get_or nodes (2 * r + 1) [])) c.id.ensures.value in
    record {
      low = omega arith;
      high = omega arith;
      len = length-set nodes r c.interior.result ∙ c.loop-first.invariant.len;
      nodes = node_before o nodes r c.interior.result (omega arith) (omega arith) len has is;
    }
