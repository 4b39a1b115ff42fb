use Rattle.std.proofs.Common.{◌≡◌, ◌≢◌, ◌<◌, ◌≤◌, ◌/◌, ◌∙◌, ℕ, length, take, drop, sym, ap, subst, arith}
use Rattle.std.proofs.lemmas.Bool.{eqb-true, eqb-false}
use Rattle.std.proofs.lemmas.List.{take_rest}
use Rattle.std.proofs.Math.Nat.{max-eq_right}
use Rattle.merkle.specs.Roots.{list_root, node}
use Rattle.merkle.proofs.Lists.{half_of_power, root_of_none, root_of_one, root_of_more}
use Rattle.merkle.proofs.list.+list_root.Goals as goal

pub returns-then-is_empty : goal.returns-then-is_empty
returns-then-is_empty g t c =
    let hash = g.H.IdHash.hash_of c.args.hash.now in
    c.hash.ensures ∙ sym (root_of_none hash c.args.ids.now (eqb-true _ _ (sym c.is_empty.ensures ∙ c.if-is_empty.true)))

pub returns-then-ids-eq1 : goal.returns-then-ids-eq1
returns-then-ids-eq1 g t c =
    let hash = g.H.IdHash.hash_of c.args.hash.now in
    c.leaf.ensures ∙ sym (root_of_one hash c.args.ids.now c.if-ids-eq1.true)

pub returns : goal.returns
returns g t c =
    let hash = g.H.IdHash.hash_of c.args.hash.now in
    let ids = c.args.ids.now in
    let p = c.next_power_of_two-half.result in
    let half = p / 2 in
    let some : length ids ≢ 0 = eqb-false (length ids) 0 (sym c.is_empty.ensures ∙ c.if-is_empty.false) in
    let two : 2 ≤ length ids = omega (arith, some, c.if-ids-eq1.false) in
    let at_most : length ids ≤ p = c.next_power_of_two-half.ensures.lower_bound in
    let below : half < length ids = subst (λ (n : ℕ). half < n) (max-eq_right (omega arith)) c.next_power_of_two-half.ensures.upper_bound in
    let halves = half_of_power p c.next_power_of_two-half.ensures.power (omega arith) in
    let left : c.list_root-left.result ≡ list_root hash (take half ids) = c.list_root-left.ensures in
    let right : c.list_root-right.result ≡ list_root hash (drop half ids) = c.list_root-right.ensures ∙ ap (list_root hash) (take_rest ids half) in
    c.node.ensures ∙ (λ i. node hash (left i) (right i)) ∙ sym (root_of_more hash ids half halves.0 below (omega (arith, halves.1)))
