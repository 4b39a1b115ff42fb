-- Tokens with places, split as their tokens are.
use Rattle.std.specs.Prelude.{◌≡◌, ℕ, List, [], ◌∷◌, ◌++◌, map, refl}
use Rattle.std.proofs.Common.{sym, ap, ◌∙◌}
use Rattle.std.proofs.lemmas.List.{map-append}
use Rattle.grammars.specs.Places.{kinds, none_of, front_of, halves_of}
use Rattle.ivy_syntax.specs.Token.{Token}
use Rattle.ivy_syntax.specs.Tokens.{Placed}

-- the tokens at some places
abbrev pub placed : List Token → List Placed
placed tokens = map (λ (t : Token). (t, 0)) tokens

pub kinds_placed : (ts : List Token) → kinds (placed ts) ≡ ts
kinds_placed [] = refl
kinds_placed (t ∷ ts) = ap (λ (l : List Token). t ∷ l) (kinds_placed ts)

pub kinds_joined : (a b : List Placed) → kinds (a ++ b) ≡ kinds a ++ kinds b
kinds_joined a b = map-append (λ (p : Placed). p.0) a b

-- a token in front
pub record Headed (t : Token) (b : List Token) (w : List Placed) : Type 0 where
  pub place : ℕ
  pub behind : List Placed
  pub all : w ≡ (t, place) ∷ behind
  pub same : kinds behind ≡ b

pub headed : (t : Token) (b : List Token) (w : List Placed) → kinds w ≡ t ∷ b → Headed t b w
headed t b w same =
    let f = front_of t (placed b) w (same ∙ ap (λ (l : List Token). t ∷ l) (sym (kinds_placed b))) in
    record { place = f.place; behind = f.behind; all = f.all; same = f.same ∙ kinds_placed b }

-- two lists, one after the other
pub record Parted (a b : List Token) (w : List Placed) : Type 0 where
  pub first : List Placed
  pub second : List Placed
  pub all : w ≡ first ++ second
  pub same_first : kinds first ≡ a
  pub same_second : kinds second ≡ b

pub parted : (a b : List Token) (w : List Placed) → kinds w ≡ a ++ b → Parted a b w
parted a b w same =
    let is : kinds (placed a ++ placed b) ≡ a ++ b = kinds_joined (placed a) (placed b)
    ∙ ap (λ (l : List Token). l ++ kinds (placed b)) (kinds_placed a)
    ∙ ap (λ (l : List Token). a ++ l) (kinds_placed b) in
    let h = halves_of (placed a) (placed b) w (same ∙ sym is) in
    record {
      first = h.first;
      second = h.second;
      all = h.all;
      same_first = h.same_first ∙ kinds_placed a;
      same_second = h.same_second ∙ kinds_placed b;
    }

-- a token between two lists
pub record Halved (a : List Token) (t : Token) (b : List Token) (w : List Placed) : Type 0 where
  pub first : List Placed
  pub place : ℕ
  pub second : List Placed
  pub all : w ≡ first ++ ((t, place) ∷ second)
  pub same_first : kinds first ≡ a
  pub same_second : kinds second ≡ b

pub halved : (a : List Token) (t : Token) (b : List Token) (w : List Placed) → kinds w ≡ a ++ (t ∷ b)
    → Halved a t b w
halved a t b w same =
    let h = parted a (t ∷ b) w same in
    let f = headed t b h.second h.same_second in
    record {
      first = h.first;
      place = f.place;
      second = f.behind;
      all = h.all ∙ ap (λ (l : List Placed). h.first ++ l) f.all;
      same_first = h.same_first;
      same_second = f.same;
    }

-- a token after a list
pub record Closed (a : List Token) (t : Token) (w : List Placed) : Type 0 where
  pub first : List Placed
  pub place : ℕ
  pub all : w ≡ first ++ ((t, place) ∷ [])
  pub same : kinds first ≡ a

pub closed : (a : List Token) (t : Token) (w : List Placed) → kinds w ≡ a ++ (t ∷ []) → Closed a t w
closed a t w same =
    let h = halved a t [] w same in
    record {
      first = h.first;
      place = h.place;
      all = h.all ∙ ap (λ (l : List Placed). h.first ++ ((t, h.place) ∷ l)) (none_of h.second h.same_second);
      same = h.same_first;
    }
