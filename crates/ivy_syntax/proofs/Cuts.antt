-- Where no `*/` follows.
use Rattle.std.proofs.Common.{◌≡◌, ◌+◌, ◌&&◌, ◌==◌, ℕ, zero, suc, List, [], ◌∷◌}
use Rattle.std.proofs.Common.{inl, inr, drop, slice_index, refl, sym, ◌∙◌, Some, None}
use Rattle.std.proofs.lemmas.Bool.{cases_Bool, cond-true, cond-false}
use Rattle.ivy_syntax.specs.Cutting.{close_from, close_of}

-- ---- where no `*/` follows

no_close_tail : (at b : ℕ) (rest : List ℕ) → close_from at (b ∷ rest) ≡ None → close_from (at + 1) rest ≡ None
no_close_tail at b rest e =
    elim (cases_Bool (b == 42 && slice_index rest 0 == 47)) [
      | inl t ↦ (let k : Some at ≡ None = sym (cond-true _ _ _ t) ∙ e in cc)
      | inr f ↦ sym (cond-false _ _ _ f) ∙ e
    ]

close_elsewhere : (at there : ℕ) (text : List ℕ) → close_from at text ≡ None → close_from there text ≡ None
close_elsewhere at there [] e = refl
close_elsewhere at there (b ∷ rest) e =
    elim (cases_Bool (b == 42 && slice_index rest 0 == 47)) [
      | inl t ↦ (let k : Some at ≡ None = sym (cond-true _ _ _ t) ∙ e in cc)
      | inr f ↦ cond-false _ _ _ f ∙ close_elsewhere (at + 1) (there + 1) rest (no_close_tail at b rest e)
    ]

pub none_behind : (n : ℕ) (text : List ℕ) → close_from 0 text ≡ None → close_from 0 (drop n text) ≡ None
none_behind zero text e = e
none_behind (suc n) [] e = refl
none_behind (suc n) (b ∷ rest) e =
    none_behind n rest (close_elsewhere (0 + 1) 0 rest (no_close_tail 0 b rest e))

pub none_in_block : (text : List ℕ) → close_of (drop 1 text) ≡ None → close_of (drop 2 text) ≡ None
none_in_block [] e = refl
none_in_block (b ∷ rest) e = none_behind 1 rest e
