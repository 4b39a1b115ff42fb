use Rattle.std.proofs.Common.{ℕ, ◌≡◌, ◌-◌, ◌++◌, List, get_or, subst, append-nil, arith}
use Rattle.sha2.specs.Hashers.{Holds256}
use Rattle.hash_sigs.specs.Strings.{u32str, u16str, joined, string_at}
use Rattle.hash_sigs.specs.OneTime.{chain, one_time_key, candidate}
use Rattle.hash_sigs.proofs.Steps.{joined_none, joined_turn}
use Rattle.hash_sigs.proofs.one_time.candidate.Goals as goal

pub loop-i-init : goal.loop-i-init
loop-i-init c =
    let front = c.args.id.now ++ u32str c.args.q ++ u16str 0x8080 in
    let f : ℕ → List ℕ = λ i. chain c.args.id.now c.args.q i (get_or c.args.digits.now i 0) (255 - get_or c.args.digits.now i 0) (string_at c.args.signature.now c.args.at i) in
    rw (joined_none f, append-nil) c.prefix_hasher-hasher.ensures

pub loop-i-preserved : goal.loop-i-preserved
loop-i-preserved c =
    let front = c.args.id.now ++ u32str c.args.q ++ u16str 0x8080 in
    let f : ℕ → List ℕ = λ i. chain c.args.id.now c.args.q i (get_or c.args.digits.now i 0) (255 - get_or c.args.digits.now i 0) (string_at c.args.signature.now c.args.at i) in
    let step = c.update.ensures (front ++ joined f c.loop-i.i) c.loop-i.invariant in
    let end : c.chained-end.result ≡ f c.loop-i.i = cc (c.chained-end.ensures, c.value_at-value.ensures) in
    let grown = joined_turn front f c.loop-i.i c.chained-end.result end in
    subst (λ (m : List ℕ). Holds256 c.update.new.self m) grown step

pub returns : goal.returns
unfolding candidate one_time_key
returns c =
    let front = c.args.id.now ++ u32str c.args.q ++ u16str 0x8080 in
    let f : ℕ → List ℕ = λ i. chain c.args.id.now c.args.q i (get_or c.args.digits.now i 0) (255 - get_or c.args.digits.now i 0) (string_at c.args.signature.now c.args.at i) in
    let done = c.loop-i.auto.i-end in
    let all : c.loop-i.i ≡ 34 = omega arith in
    c.finalize.ensures (front ++ joined f 34) (rw all at c.loop-i.invariant)
