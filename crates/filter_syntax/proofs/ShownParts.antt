-- The tokens of each condition, and those where another rule reads it.
use Rattle.std.specs.Prelude.{◌≡◌, ℕ, Bool, true, false, List, [], ◌∷◌, ◌++◌, refl}
use Rattle.std.proofs.Common.{sym, ap, ◌∙◌, true≢false}
use Rattle.filter_syntax.specs.declared.tree.Cond.{Cond, out-Cond}
use Rattle.filter_syntax.specs.declared.tree.Cond.TheOpen.{Cond-F}
use Rattle.filter_syntax.specs.declared.tree.Cond.TheFolds.{map-Cond, fold-Cond, fold-roll-Cond, fold_out-Cond}
use Rattle.filter_syntax.specs.declared.tree.Cond.TheVariants as conditions
use Rattle.filter_syntax.specs.declared.tree.FilterValue.{FilterValue}
use Rattle.filter_syntax.specs.Token.{Token, Equals, And, Or, Name}
use Rattle.filter_syntax.specs.Grammar.{Rule, Alternatives, Conjunction}
use Rattle.filter_syntax.specs.Grammar as grammar
use Rattle.filter_syntax.specs.Shown.{tokens_by, tokens_at, is_enclosed, layer_is_enclosed, enclosed_if, or_is_enclosed}
use Rattle.filter_syntax.specs.Shown.{and_is_enclosed, value_token, scope_token}

pub or_tokens : (rule : Rule) (a b : Cond) → tokens_at rule (conditions.Or a b)
    ≡ enclosed_if (or_is_enclosed rule) (tokens_at Alternatives a ++ (Or ∷ tokens_at Conjunction b))
or_tokens rule a b = ap (tokens_at rule) (sym (conditions.rolls-Or a b)) ∙ ap (λ (f : Rule → List Token). f rule)
    (fold-roll-Cond (Rule → List Token) tokens_by (Cond-F.Or a b))

pub and_tokens : (rule : Rule) (a b : Cond) → tokens_at rule (conditions.And a b)
    ≡ enclosed_if (and_is_enclosed rule) (tokens_at Conjunction a ++ (And ∷ tokens_at grammar.Unit b))
and_tokens rule a b = ap (tokens_at rule) (sym (conditions.rolls-And a b)) ∙ ap (λ (f : Rule → List Token). f rule)
    (fold-roll-Cond (Rule → List Token) tokens_by (Cond-F.And a b))

pub scope_tokens : (rule : Rule) (inputs : Bool) (c : Cond) → tokens_at rule (conditions.Scope inputs c)
    ≡ scope_token inputs ∷ enclosed_if true (tokens_at Alternatives c)
scope_tokens rule inputs c = ap (tokens_at rule) (sym (conditions.rolls-Scope inputs c))
    ∙ ap (λ (f : Rule → List Token). f rule)
    (fold-roll-Cond (Rule → List Token) tokens_by (Cond-F.Scope inputs c))

pub is_tokens : (rule : Rule) (name : List ℕ) (value : FilterValue) → tokens_at rule (conditions.Is name value)
    ≡ Name name ∷ Equals ∷ value_token value ∷ []
is_tokens rule name value = ap (tokens_at rule) (sym (conditions.rolls-Is name value))
    ∙ ap (λ (f : Rule → List Token). f rule)
    (fold-roll-Cond (Rule → List Token) tokens_by (Cond-F.Is name value))

pub or_enclosed : (rule : Rule) (a b : Cond) → is_enclosed rule (conditions.Or a b) ≡ or_is_enclosed rule
or_enclosed rule a b = ap (λ (x : Cond-F Cond). layer_is_enclosed x rule) (conditions.outs-Or a b)

pub and_enclosed : (rule : Rule) (a b : Cond) → is_enclosed rule (conditions.And a b) ≡ and_is_enclosed rule
and_enclosed rule a b = ap (λ (x : Cond-F Cond). layer_is_enclosed x rule) (conditions.outs-And a b)

enclosed_layer : (rule : Rule) (x : Cond-F Cond) (f : Cond → Rule → List Token)
    → tokens_by (map-Cond Cond (Rule → List Token) f x) rule
    ≡ enclosed_if (layer_is_enclosed x rule) (tokens_by (map-Cond Cond (Rule → List Token) f x) Alternatives)
enclosed_layer rule (Cond-F.Or a b) f = refl
enclosed_layer rule (Cond-F.And a b) f = refl
enclosed_layer rule (Cond-F.Scope inputs c) f = refl
enclosed_layer rule (Cond-F.Is name value) f = refl

-- by any rule the tokens are those that it has on its own, in parentheses or bare
pub enclosed_at : (rule : Rule) (c : Cond)
    → tokens_at rule c ≡ enclosed_if (is_enclosed rule c) (tokens_at Alternatives c)
enclosed_at rule c =
    let is = fold_out-Cond (Rule → List Token) tokens_by c in
    ap (λ (f : Rule → List Token). f rule) is
    ∙ enclosed_layer rule (out-Cond c) (fold-Cond (Rule → List Token) tokens_by)
    ∙ ap (λ (f : Rule → List Token). enclosed_if (is_enclosed rule c) (f Alternatives)) (sym is)

enclosed_below : (x : Cond-F Cond) → layer_is_enclosed x grammar.Unit ≡ false → layer_is_enclosed x Conjunction ≡ false
enclosed_below (Cond-F.Or a b) not = absurd (true≢false not)
enclosed_below (Cond-F.And a b) not = refl
enclosed_below (Cond-F.Scope inputs c) not = refl
enclosed_below (Cond-F.Is name value) not = refl

-- what is bare as a unit is bare by the rule above
pub bare_above : (c : Cond) → is_enclosed grammar.Unit c ≡ false → is_enclosed Conjunction c ≡ false
bare_above c = enclosed_below (out-Cond c)

enclosed_more : (x : Cond-F Cond) → layer_is_enclosed x Conjunction ≡ true → layer_is_enclosed x grammar.Unit ≡ true
enclosed_more (Cond-F.Or a b) is = refl
enclosed_more (Cond-F.And a b) is = absurd (true≢false (sym is))
enclosed_more (Cond-F.Scope inputs c) is = absurd (true≢false (sym is))
enclosed_more (Cond-F.Is name value) is = absurd (true≢false (sym is))

-- and what is in parentheses by the rule above is so as a unit
pub enclosed_under : (c : Cond) → is_enclosed Conjunction c ≡ true → is_enclosed grammar.Unit c ≡ true
enclosed_under c = enclosed_more (out-Cond c)

never : (x : Cond-F Cond) → layer_is_enclosed x Alternatives ≡ false
never (Cond-F.Or a b) = refl
never (Cond-F.And a b) = refl
never (Cond-F.Scope inputs c) = refl
never (Cond-F.Is name value) = refl

pub never_enclosed : (c : Cond) → is_enclosed Alternatives c ≡ false
never_enclosed c = never (out-Cond c)
