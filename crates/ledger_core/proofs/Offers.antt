-- What a list of offers makes of some blocks.
use Rattle.std.proofs.Common.{◌≡◌, ◌<◌, List, [], ◌∷◌, ◌++◌, length, Option, Some, None, refl, sym, ◌∙◌, ap, subst, arith, length-append}
use Rattle.data_model.specs.declared.block.Block.{Block}
use Rattle.keyed.specs.Functions.{Check}
use Rattle.ledger_core.specs.declared.refusal.BlockRefusal.{BlockRefusal}
use Rattle.keyed.specs.Functions.{Hash}
use Rattle.ledger_core.specs.Refusal.{Refusal}
use Rattle.ledger_core.specs.Chain.{Chain, Accepted, after_offer}
use Rattle.ledger_core.proofs.Refusals.{Known, some_refusal, one_refusal}
use Rattle.ledger_core.proofs.Chains.{grows}

pub kept : (hash : Hash) (check : Check) (start offers final : List Block) (verdicts : List (Option BlockRefusal)) → Chain hash check start → Accepted hash check start offers final verdicts → Chain hash check final
kept hash check start [] final [] chain a = subst (Chain hash check) (sym a) chain
kept hash check start [] final (v ∷ verdicts) chain a = absurd a
kept hash check start (offer ∷ offers) final [] chain a = absurd a
kept hash check start (offer ∷ offers) final (None ∷ verdicts) chain a =
    kept hash check (start ++ offer ∷ []) offers final verdicts (grows hash check start offer chain a.0) a.1
kept hash check start (offer ∷ offers) final (Some cause ∷ verdicts) chain a = kept hash check start offers final verdicts chain a.1

still_some : (start : List Block) (offer : Block) (verdict : Option BlockRefusal) → 0 < length start → 0 < length (after_offer start offer verdict)
still_some start offer None h = omega (arith, length-append start (offer ∷ []))
still_some start offer (Some cause) h = h

pub some : Known → (hash : Hash) (check : Check) (start offers : List Block) → 0 < length start → (final : List Block) × (verdicts : List (Option BlockRefusal)) × Accepted hash check start offers final verdicts
some known hash check start [] h = (start, [], refl)
some known hash check start (offer ∷ offers) h =
    let first = some_refusal known hash check start offer h in
    let later = some known hash check (after_offer start offer first.0) offers (still_some start offer first.0 h) in
    (later.0, first.0 ∷ later.1, (first.1, later.2))

pub one : Known → (hash : Hash) (check : Check) (start offers a b : List Block) (u v : List (Option BlockRefusal)) → Accepted hash check start offers a u → Accepted hash check start offers b v → (a ≡ b) × (u ≡ v)
one known hash check start [] a b [] [] p q = (p ∙ sym q, refl)
one known hash check start [] a b [] (y ∷ v) p q = absurd q
one known hash check start [] a b (x ∷ u) v p q = absurd p
one known hash check start (offer ∷ offers) a b [] v p q = absurd p
one known hash check start (offer ∷ offers) a b (x ∷ u) [] p q = absurd q
one known hash check start (offer ∷ offers) a b (x ∷ u) (y ∷ v) p q =
    let same : x ≡ y = one_refusal known hash check start offer x y p.0 q.0 in
    let there = subst (λ (z : Option BlockRefusal). Accepted hash check (after_offer start offer z) offers b v) (sym same) q.1 in
    let later = one known hash check (after_offer start offer x) offers a b u v p.1 there in
    let lists : u ≡ v = later.1 in
    (later.0, cc (same, lists))

pub more : (hash : Hash) (check : Check) (start offers final : List Block) (verdicts : List (Option BlockRefusal)) (offer : Block) (verdict : Option BlockRefusal) → Accepted hash check start offers final verdicts → Refusal hash check final offer verdict → Accepted hash check start (offers ++ offer ∷ []) (after_offer final offer verdict) (verdicts ++ verdict ∷ [])
more hash check start [] final [] offer verdict a r =
    (subst (λ (bs : List Block). Refusal hash check bs offer verdict) a r, ap (λ (bs : List Block). after_offer bs offer verdict) a)
more hash check start [] final (v ∷ verdicts) offer verdict a r = absurd a
more hash check start (o ∷ offers) final [] offer verdict a r = absurd a
more hash check start (o ∷ offers) final (v ∷ verdicts) offer verdict a r =
    (a.0, more hash check (after_offer start o v) offers final verdicts offer verdict a.1 r)
