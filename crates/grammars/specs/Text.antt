-- Texts of a grammar, and the first token with which no text begins. Public statements of crates above name it.
use Rattle.std.specs.Prelude.{◌≡◌, List, [], ◌∷◌, ◌++◌, Option, Some, None, refl}
use Rattle.std.proofs.Common.{sym, ap, ◌∙◌, subst}
use Rattle.std.proofs.lemmas.Option.{same_Some}
use mathlib.Core.List.{append_assoc}

-- which token lists are texts
abbrev pub Language : Type 0 → Type 1
Language T = List T → Type 0

-- a text begins with these tokens
abbrev pub Begins : {T : Type 0} → Language T → List T → Type 0
Begins L front = (more : List _) × L (front ++ more)

-- The tokens up to the first wrong one: a text begins with those before it, and none with those and with it.
pub record FirstWrong {T : Type 0} (L : Language T) (tokens front : List T) (wrong : T) (behind : List T) : Type 0 where
  pub split : tokens ≡ front ++ (wrong ∷ behind)
  pub before : Begins L front
  pub none : Begins L (front ++ (wrong ∷ [])) → ⊥

-- ---- there is one at most, and none in a text

-- the first token, and the others
abbrev pub next : {T : Type 0} → List T → Option T
next [] = None
next (t ∷ ts) = Some t

abbrev others : {T : Type 0} → List T → List T
others [] = []
others (t ∷ ts) = ts

-- a text that begins with tokens begins with their prefix
pub begins_front : {T : Type 0} (L : Language T) (a b : List T) → Begins L (a ++ b) → Begins L a
begins_front L a b h = (b ++ h.0, subst L (append_assoc a b h.0) h.1)

begins_first : {T : Type 0} (L : Language T) (t w : T) (ts : List T) → t ≡ w → Begins L (t ∷ ts) → Begins L (w ∷ [])
begins_first L t w ts same h = subst (λ t. Begins L (t ∷ [])) same (begins_front L (t ∷ []) ts h)

one_front : {T : Type 0} (L : Language T) (f g : List T) (w x : T) (a b : List T) → f ++ (w ∷ a) ≡ g ++ (x ∷ b)
    → Begins L f → (Begins L (f ++ (w ∷ [])) → ⊥) → Begins L g → (Begins L (g ++ (x ∷ [])) → ⊥) → f ≡ g
one_front L [] [] w x a b same f_begins f_none g_begins g_none = refl
one_front L [] (t ∷ g) w x a b same f_begins f_none g_begins g_none =
    absurd (f_none (begins_first L t w g (sym (same_Some w t (ap next same))) g_begins))
one_front L (t ∷ f) [] w x a b same f_begins f_none g_begins g_none =
    absurd (g_none (begins_first L t x f (same_Some t x (ap next same)) f_begins))
one_front L (t ∷ f) (s ∷ g) w x a b same f_begins f_none g_begins g_none =
    let first : t ≡ s = same_Some t s (ap next same) in
    ap (λ u. t ∷ u) (one_front (λ u. L (t ∷ u)) f g w x a b (ap others same) f_begins f_none
    (subst (λ s. Begins L (s ∷ g)) (sym first) g_begins)
    (subst (λ s. Begins L (s ∷ (g ++ (x ∷ []))) → ⊥) (sym first) g_none))
    ∙ ap (λ t. t ∷ g) first

-- tokens have one first wrong one at most
pub one_first_wrong : {T : Type 0} (L : Language T) (tokens f g : List T) (w x : T) (a b : List T)
    → FirstWrong L tokens f w a → FirstWrong L tokens g x b → f ≡ g
one_first_wrong L tokens f g w x a b h k =
    one_front L f g w x a b (sym h.split ∙ k.split) h.before h.none k.before k.none

-- and in a text there is none
pub none_in_text : {T : Type 0} (L : Language T) (tokens front : List T) (wrong : T) (behind : List T) → L tokens
    → FirstWrong L tokens front wrong behind → ⊥
none_in_text L tokens front wrong behind text h =
    h.none (behind, subst L (h.split ∙ sym (append_assoc front (wrong ∷ []) behind)) text)

-- ---- texts with their end

-- a text of these tokens, and the token that stands for a text's end
pub record Ended {T : Type 0} (L : Language T) (end : T) (tokens : List T) : Type 0 where
  pub before : List T
  pub all : tokens ≡ before ++ (end ∷ [])
  pub text : L before
