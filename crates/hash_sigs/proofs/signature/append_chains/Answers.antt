use Rattle.std.proofs.Common.{ℕ, List, ◌++◌, get_or, sym, ap, ◌∙◌, append-nil}
use Rattle.hash_sigs.specs.Key.{own_chain}
use Rattle.hash_sigs.proofs.Steps.{joined_none, joined_turn}
use Rattle.hash_sigs.proofs.signature.append_chains.Goals as goal

pub loop-i-init : goal.loop-i-init
loop-i-init c =
    let f : ℕ → List ℕ = λ i. own_chain c.args.origin.now c.args.q i (get_or c.args.digits.now i 0) in
    sym (ap (λ x. c.args.bytes.now.items ++ x) (joined_none f) ∙ append-nil c.args.bytes.now.items)

pub loop-i-preserved : goal.loop-i-preserved
loop-i-preserved c =
    let f : ℕ → List ℕ = λ i. own_chain c.args.origin.now c.args.q i (get_or c.args.digits.now i 0) in
    c.in_ok-extend_from_slice.ensures.items
    ∙ ap (λ x. x ++ c.chained.result) c.loop-i.invariant
    ∙ joined_turn c.args.bytes.now.items f c.loop-i.i c.chained.result c.chained.ensures
