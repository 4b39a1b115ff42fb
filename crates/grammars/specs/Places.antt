-- Tokens with places, and lists that have the same tokens at other places.
-- Public statements of crates above name it.
use Rattle.std.specs.Prelude.{◌≡◌, ℕ, List, [], ◌∷◌, ◌++◌, map, refl}
use Rattle.std.proofs.Common.{sym, ap, ◌∙◌}
use Rattle.std.proofs.lemmas.Option.{none-some, same_Some}
use Rattle.grammars.specs.Text.{next}
use Rattle.grammars.specs.Part.{Part}

-- the tokens, without their places
abbrev pub kinds : {K : Type 0} → List (K × ℕ) → List K
kinds = map (λ p. p.0)

-- What reads as some value does with the same tokens at other places, as some value.
abbrev pub Replaces : {K V : Type 0} → Part (K × ℕ) V → Type 0
Replaces X = (u : List _) (v : _) → X u v → (w : List _) → kinds w ≡ kinds u → (x : _) × X w x

abbrev others : {K : Type 0} → List K → List K
others [] = []
others (k ∷ ks) = ks

pub none_of : {K : Type 0} (w : List (K × ℕ)) → kinds w ≡ [] → w ≡ []
none_of [] same = refl
none_of (t ∷ w) same = absurd (none-some t.0 (sym (ap next same)))

-- ---- a token before others

pub record Front {K : Type 0} (k : K) (b w : List (K × ℕ)) : Type 0 where
  pub place : ℕ
  pub behind : List (K × ℕ)
  pub all : w ≡ (k, place) ∷ behind
  pub same : kinds behind ≡ kinds b

pub front_of : {K : Type 0} (k : K) (b w : List (K × ℕ)) → kinds w ≡ k ∷ kinds b → Front k b w
front_of k b [] same = absurd (none-some k (ap next same))
front_of k b (t ∷ w) same = record {
  place = t.1;
  behind = w;
  all = ap (λ k. (k, t.1) ∷ w) (same_Some t.0 k (ap next same));
  same = ap others same;
}

-- one token alone
pub single_of : {K : Type 0} (k : K) (w : List (K × ℕ)) → kinds w ≡ k ∷ [] → (place : ℕ) × (w ≡ (k, place) ∷ [])
single_of k w same =
    let f = front_of k [] w same in (f.place, f.all ∙ ap (λ b. (k, f.place) ∷ b) (none_of f.behind f.same))

-- ---- two lists, one after the other

pub record Halves {K : Type 0} (a b w : List (K × ℕ)) : Type 0 where
  pub first : List (K × ℕ)
  pub second : List (K × ℕ)
  pub all : w ≡ first ++ second
  pub same_first : kinds first ≡ kinds a
  pub same_second : kinds second ≡ kinds b

pub halves_of : {K : Type 0} (a b w : List (K × ℕ)) → kinds w ≡ kinds (a ++ b) → Halves a b w
halves_of [] b w same = record { first = []; second = w; all = refl; same_first = refl; same_second = same }
halves_of (t ∷ a) b [] same = absurd (none-some t.0 (ap next same))
halves_of (t ∷ a) b (s ∷ w) same =
    let rest = halves_of a b w (ap others same) in
    record {
      first = s ∷ rest.first;
      second = rest.second;
      all = ap (λ w. s ∷ w) rest.all;
      same_first = ap (λ k. k ∷ kinds rest.first) (same_Some s.0 t.0 (ap next same))
          ∙ ap (λ ks. t.0 ∷ ks) rest.same_first;
      same_second = rest.same_second;
    }

-- ---- a token between two lists

pub record Middle {K : Type 0} (a : List (K × ℕ)) (k : K) (b w : List (K × ℕ)) : Type 0 where
  pub first : List (K × ℕ)
  pub place : ℕ
  pub second : List (K × ℕ)
  pub all : w ≡ first ++ ((k, place) ∷ second)
  pub same_first : kinds first ≡ kinds a
  pub same_second : kinds second ≡ kinds b

pub middle_of : {K : Type 0} (a : List (K × ℕ)) (k : K) (at : ℕ) (b w : List (K × ℕ))
    → kinds w ≡ kinds (a ++ ((k, at) ∷ b)) → Middle a k b w
middle_of {K} a k at b w same =
    let behind : List (K × ℕ) = (k, at) ∷ b in
    let h = halves_of a behind w same in
    let f = front_of k b h.second h.same_second in
    record {
      first = h.first;
      place = f.place;
      second = f.behind;
      all = h.all ∙ ap (λ s. h.first ++ s) f.all;
      same_first = h.same_first;
      same_second = f.same;
    }

-- a token after a list
pub record Ending {K : Type 0} (a : List (K × ℕ)) (k : K) (w : List (K × ℕ)) : Type 0 where
  pub first : List (K × ℕ)
  pub place : ℕ
  pub all : w ≡ first ++ ((k, place) ∷ [])
  pub same : kinds first ≡ kinds a

pub ending_of : {K : Type 0} (a : List (K × ℕ)) (k : K) (at : ℕ) (w : List (K × ℕ))
    → kinds w ≡ kinds (a ++ ((k, at) ∷ [])) → Ending a k w
ending_of a k at w same =
    let m = middle_of a k at [] w same in
    record {
      first = m.first;
      place = m.place;
      all = m.all ∙ ap (λ s. m.first ++ ((k, m.place) ∷ s)) (none_of m.second m.same_second);
      same = m.same_first;
    }
