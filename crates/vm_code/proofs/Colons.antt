-- What `split_once` gives at a colon is what the definition says.
use Rattle.std.proofs.Common.{◌≡◌, ℕ, suc, ◌<◌, List, [], ◌∷◌, ◌++◌, length, get_or, Some, None, refl, ap, sym, ◌∙◌, arith, Bor}
use Rattle.std.proofs.lemmas.Bool.{ne_eqb}
use Rattle.std.proofs.lemmas.Str.Pattern.{split_parts, IsSplitOnceResult}
use Rattle.vm_code.specs.Word.{word_read, parts_read, with_argument, at_colon}
use Rattle.vm_code.specs.Names.{code_of}

abbrev Apart : List ℕ → Type 0
Apart text = (i : ℕ) → i < length text → get_or text i 0 ≡ 58 → ⊥

colon_at : (front behind : List ℕ) → Apart front → at_colon (front ++ (58 ∷ behind)) ≡ Some (front, behind)
colon_at [] behind apart = refl
colon_at (b ∷ front) behind apart =
    rw (ne_eqb b 58 (apart 0 (omega arith))) (rw (colon_at front behind (λ i below. apart (suc i) (omega arith))) refl)

no_colon_at : (text : List ℕ) → Apart text → at_colon text ≡ None
no_colon_at [] apart = refl
no_colon_at (b ∷ text) apart =
    rw (ne_eqb b 58 (apart 0 (omega arith))) (rw (no_colon_at text (λ i below. apart (suc i) (omega arith))) refl)

pub split_some : (text : List ℕ) (parts : Bor (List ℕ) × Bor (List ℕ)) → IsSplitOnceResult 58 text (Some parts) → with_argument (code_of parts.0.now) parts.1.now ≡ word_read text
unfolding word_read
split_some text parts split =
    let e = split_parts 58 text (Some parts) split (omega arith) in
    let at : at_colon text ≡ Some (parts.0.now, parts.1.now) = ap at_colon e.0 ∙ colon_at parts.0.now parts.1.now e.1 in
    ap (λ o. parts_read o text) (sym at)

pub split_none : (text : List ℕ) → IsSplitOnceResult 58 text None → parts_read None text ≡ word_read text
unfolding word_read
split_none text split = ap (λ o. parts_read o text) (sym (no_colon_at text (split_parts 58 text None split (omega arith))))
