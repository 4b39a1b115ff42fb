use Rattle.std.proofs.Common.{◌≡◌, ℕ, ◌+◌, ◌-◌, ◌^◌, ◌<◌, ◌≢◌, [], get_or, subst, sym, ap, ◌∙◌, below_more, get_or-set_other, get_or-set_same, arith}
use Rattle.std.proofs.Math.ListN.{set}
use Rattle.hash_sigs.specs.Tree.{leaf}
use Rattle.hash_sigs.specs.Key.{node, own_one_time_key}
use Rattle.hash_sigs.specs.Nodes.{HasNodes}
use Rattle.hash_sigs.proofs.Levels.{leaves_are_nodes}
use Rattle.hash_sigs.proofs.nodes.set_leaves.Goals as goal

pub loop-q-preserved : goal.loop-q-preserved
unfolding node
loop-q-preserved c =
    let o = c.args.origin.now in
    let nodes = c.loop-q.nodes in
    let at = c.args.leaves + c.loop-q.q in
    let back : c.loop-q.q ≡ at - 2 ^ o.height = omega arith in
    let is : c.leaf.result ≡ node o 0 at =
    c.leaf.ensures
    ∙ ap (λ id. leaf id at c.one_time_key.result) c.id.ensures.value
    ∙ ap (λ key. leaf o.id at key) (c.one_time_key.ensures ∙ ap (λ q. own_one_time_key o q) back) in
    below_more (λ q. get_or (set nodes at c.leaf.result) (c.args.leaves + q) [] ≡ node o 0 (c.args.leaves + q)) c.loop-q.q
    (λ q lt. let other : c.args.leaves + q ≢ at = omega arith in
    get_or-set_other nodes at (c.args.leaves + q) c.leaf.result [] other ∙ c.loop-q.invariant q lt)
    (get_or-set_same nodes at c.leaf.result [] (omega arith) ∙ is)

pub returns : goal.returns
returns c =
    let o = c.args.origin.now in
    let nodes = c.loop-q.nodes in
    let e : c.args.leaves ≡ 2 ^ o.height = c.requires.leaves in
    let each : (q : ℕ) → q < 2 ^ o.height → get_or nodes (2 ^ o.height + q) [] ≡ node o 0 (2 ^ o.height + q) =
    λ q lt. subst (λ (n : ℕ). get_or nodes (n + q) [] ≡ node o 0 (n + q)) e (c.loop-q.invariant q (omega arith)) in
    subst (λ (n : ℕ). HasNodes o nodes n) (sym e) (leaves_are_nodes o nodes each)
