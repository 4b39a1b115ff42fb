-- The moments of a run in two parts.
use Rattle.std.proofs.Common.{◌≡◌, ◌⊎◌, List, [], ◌∷◌, ◌++◌, inl, inr, refl, sym, ap, ◌∙◌, append_assoc}
use Rattle.std.proofs.lemmas.List.{append-nil}
use Rattle.outside.specs.Files.{Write}
use Rattle.outside.specs.Crash.{IsMoment, cut_short}
use Rattle.outside.specs.CrashLaws.{MomentsJoin}

-- the front of a joined list ends in the first part, or in the second
abbrev Ends : List Write → List Write → List Write → List Write → Type 0
Ends ws vs seen rest =
    ((r : List Write) × (ws ≡ seen ++ r) × (rest ≡ r ++ vs)) ⊎ ((later : List Write) × (seen ≡ ws ++ later) × (vs ≡ later ++ rest))

-- both with one write more in front
longer : (w v : Write) (ws vs seen rest : List Write) → w ≡ v → Ends ws vs seen rest → Ends (w ∷ ws) vs (v ∷ seen) rest
longer w v ws vs seen rest same (inl (r, front, back)) =
    let all : w ∷ ws ≡ v ∷ (seen ++ r) = cc in
    inl (r, all, back)
longer w v ws vs seen rest same (inr (later, front, back)) =
    let all : v ∷ seen ≡ w ∷ (ws ++ later) = cc in
    inr (later, all, back)

ends : (ws vs seen rest : List Write) → ws ++ vs ≡ seen ++ rest → Ends ws vs seen rest
ends [] vs seen rest is = inr (seen, refl, is)
ends (w ∷ ws) vs [] rest is = inl (w ∷ ws, refl, sym is)
ends (w ∷ ws) vs (v ∷ seen) rest is =
    let first : w ≡ v = cc in
    let others : ws ++ vs ≡ seen ++ rest = cc in
    longer w v ws vs seen rest first (ends ws vs seen rest others)

-- a moment of the first part, or of the second after the whole first
abbrev Either : List Write → List Write → List Write → Type 0
Either ws vs seen = IsMoment ws seen ⊎ ((later : List Write) × IsMoment vs later × (seen ≡ ws ++ later))

-- the write that is cut short stands in the second part, or in the first
cut_ends : (ws vs before rest r seen : List Write) (w : Write) → seen ≡ before ++ cut_short w ∷ [] → ws ≡ before ++ r → w ∷ rest ≡ r ++ vs → Either ws vs seen
cut_ends ws vs before rest [] seen w cut front back =
    let same : ws ≡ before = front ∙ append-nil before in
    inr (cut_short w ∷ [], inr ([], w, rest, sym back, refl), cut ∙ ap (λ b. b ++ cut_short w ∷ []) (sym same))
cut_ends ws vs before rest (v ∷ r) seen w cut front back =
    let first : v ≡ w = cc in
    inl (inr (before, w, r, front ∙ ap (λ x. before ++ x ∷ r) first, cut))

parted : (ws vs seen : List Write) → IsMoment (ws ++ vs) seen → Either ws vs seen
parted ws vs seen (inl (rest, is)) = whole (ends ws vs seen rest is)
  where
    whole : Ends ws vs seen rest → Either ws vs seen
    whole (inl (r, front, back)) = inl (inl (r, front))
    whole (inr (later, front, back)) = inr (later, inl (rest, back), front)
parted ws vs seen (inr (before, w, rest, is, cut)) = part (ends ws vs before (w ∷ rest) is)
  where
    part : Ends ws vs before (w ∷ rest) → Either ws vs seen
    part (inl (r, front, back)) = cut_ends ws vs before rest r seen w cut front back
    part (inr (later, front, back)) =
        inr (later ++ cut_short w ∷ [], inr (later, w, rest, back, refl), cut ∙ ap (λ b. b ++ cut_short w ∷ []) front ∙ append_assoc ws later (cut_short w ∷ []))

joined : (ws vs seen : List Write) → Either ws vs seen → IsMoment (ws ++ vs) seen
joined ws vs seen (inl (inl (rest, is))) = inl (rest ++ vs, ap (λ x. x ++ vs) is ∙ append_assoc seen rest vs)
joined ws vs seen (inl (inr (before, w, rest, is, cut))) = inr (before, w, rest ++ vs, ap (λ x. x ++ vs) is ∙ append_assoc before (w ∷ rest) vs, cut)
joined ws vs seen (inr (later, inl (rest, is), front)) =
    inl (rest, ap (λ x. ws ++ x) is ∙ sym (append_assoc ws later rest) ∙ ap (λ x. x ++ rest) (sym front))
joined ws vs seen (inr (later, inr (before, w, rest, is, cut), front)) =
    inr (ws ++ before, w, rest, ap (λ x. ws ++ x) is ∙ sym (append_assoc ws before (w ∷ rest)), front ∙ ap (λ x. ws ++ x) cut ∙ sym (append_assoc ws before (cut_short w ∷ [])))

pub moments_join_lem : MomentsJoin
moments_join_lem ws vs seen = (parted ws vs seen, joined ws vs seen)
