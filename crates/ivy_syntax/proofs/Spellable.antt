-- What is printed of a source that a text is can be written.
use Rattle.std.specs.Prelude.{◌≡◌, ◌+◌, ℕ, List, [], ◌∷◌, ◌++◌, length, refl}
use Rattle.std.proofs.Common.{ap, subst}
use Rattle.grammars.specs.Places.{kinds}
use Rattle.ivy_syntax.specs.declared.tree.Source.{Source}
use Rattle.ivy_syntax.specs.Token.{End, Spells}
use Rattle.ivy_syntax.specs.Tokens.{Placed, CanBeWritten, AreTokens}
use Rattle.grammars.specs.Tokens.{ends, passes, takes, stops}
use Rattle.ivy_syntax.specs.Texts.{ReadsAs}
use Rattle.ivy_syntax.specs.Shown.{shown}
use Rattle.ivy_syntax.proofs.Kept.{all_of_kept}
use Rattle.ivy_syntax.proofs.KeptTokens.{file_kept}

-- all but the last
abbrev front : List Placed → List Placed
front [] = []
front (t ∷ []) = []
front (t ∷ u ∷ ts) = t ∷ front (u ∷ ts)

front_more : (ts : List Placed) (t : Placed) → front (ts ++ (t ∷ [])) ≡ ts
front_more [] t = refl
front_more (u ∷ []) t = refl
front_more (u ∷ v ∷ ts) t = ap (λ (l : List Placed). u ∷ l) (front_more (v ∷ ts) t)

front_written : (t : Placed) (ts : List Placed) → (bytes : List ℕ) × Spells t.0 bytes → CanBeWritten (kinds (front ts))
    → CanBeWritten (kinds (front (t ∷ ts)))
front_written t [] one all = tt
front_written t (u ∷ ts) one all = (one, all)

-- The tokens of a text can be written, but for the last, which is its end or a byte with which none begins.
tokens_written : (at : ℕ) (text : List ℕ) (ts : List Placed) → AreTokens at text ts → CanBeWritten (kinds (front ts))
tokens_written _ _ _ (ends at) = tt
tokens_written _ _ ts (passes at text gap rest tokens begins h) = tokens_written (at + length gap) rest ts h
tokens_written _ _ _ (takes at text token bytes rest tokens none longest h) =
    front_written (token, at) tokens (bytes, longest.begins.spelled)
    (tokens_written (at + length bytes) rest tokens h)
tokens_written _ _ _ (stops at b rest solid none) = tt

pub shown_written : (text : List ℕ) (source : Source) → ReadsAs text source → CanBeWritten (shown source)
shown_written text source h =
    all_of_kept (λ token. (bytes : List ℕ) × Spells token bytes) (file_kept 32 h.tokens source h.reads)
    (subst (λ (l : List Placed). CanBeWritten (kinds l)) (front_more h.tokens (End, h.end))
    (tokens_written 0 text (h.tokens ++ ((End, h.end) ∷ [])) h.are))
