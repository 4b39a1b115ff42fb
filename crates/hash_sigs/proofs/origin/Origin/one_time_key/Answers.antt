use Rattle.std.proofs.Common.{◌≡◌, ℕ, List, ◌++◌, subst, sym, ap, ◌∙◌, append-nil, arith}
use Rattle.sha2.specs.Hashers.{Holds256}
use Rattle.hash_sigs.specs.Strings.{u32str, u16str, joined}
use Rattle.hash_sigs.specs.OneTime.{one_time_key}
use Rattle.hash_sigs.specs.Key.{own_chain}
use Rattle.hash_sigs.proofs.Steps.{joined_none, joined_turn}
use Rattle.hash_sigs.proofs.origin.Origin.one_time_key.Goals as goal

pub loop-i-init : goal.loop-i-init
loop-i-init c =
    let front = c.args.self.now.id ++ u32str c.args.q ++ u16str 0x8080 in
    let f : ℕ → List ℕ = λ i. own_chain c.args.self.now c.args.q i 255 in
    let begin : c.id.result.now ++ u32str c.args.q ++ u16str 0x8080 ≡ front ++ joined f 0 =
    ap (λ x. x ++ u32str c.args.q ++ u16str 0x8080) c.id.ensures.value ∙ sym (ap (λ x. front ++ x) (joined_none f) ∙ append-nil front) in
    subst (λ (m : List ℕ). Holds256 c.prefix_hasher-hasher.result m) begin c.prefix_hasher-hasher.ensures

pub loop-i-preserved : goal.loop-i-preserved
loop-i-preserved c =
    let front = c.args.self.now.id ++ u32str c.args.q ++ u16str 0x8080 in
    let f : ℕ → List ℕ = λ i. own_chain c.args.self.now c.args.q i 255 in
    let step = c.update.ensures (front ++ joined f c.loop-i.i) c.loop-i.invariant in
    let grown = joined_turn front f c.loop-i.i c.chained.result c.chained.ensures in
    subst (λ (m : List ℕ). Holds256 c.update.new.self m) grown step

pub returns : goal.returns
unfolding one_time_key
returns c =
    let front = c.args.self.now.id ++ u32str c.args.q ++ u16str 0x8080 in
    let f : ℕ → List ℕ = λ i. own_chain c.args.self.now c.args.q i 255 in
    let done = c.loop-i.auto.i-end in
    let all : c.loop-i.i ≡ 34 = omega arith in
    c.finalize.ensures (front ++ joined f 34) (rw all at c.loop-i.invariant)
