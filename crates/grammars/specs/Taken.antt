-- Parts that are put together of others, taken apart and put together again.
-- Only proofs and contracts of private functions name it.
use Rattle.std.specs.Prelude.{◌≡◌, List, [], ◌∷◌, ◌++◌, Option, Some, refl}
use Rattle.std.proofs.Common.{sym, ap, ◌∙◌, subst}
use mathlib.Core.List.{append-nil}
use Rattle.grammars.specs.Part.{Part}
use Rattle.grammars.specs.Sequence.{Within}
use Rattle.grammars.specs.Bits.{Made, Closed, Opened}

-- what reads so does with equal tokens and an equal value
pub same_part : {T V : Type 0} (X : Part T V) (u w : List T) (a b : V) → u ≡ w → a ≡ b → X w b → X u a
same_part X u w a b tokens value h = subst (λ u. X u a) (sym tokens) (subst (λ a. X w a) (sym value) h)

-- ---- a part that is made into another value

pub made_of : {T V W : Type 0} (make : V → W) (X : Part T V) (u : List T) (v : V) → X u v → Made make X u (make v)
made_of make X u v h = record {
  first = u;
  second = [];
  value = v;
  joined = sym (append-nil u);
  reads_first = h;
  reads_second = (refl, refl);
}

pub made_is : {T V W : Type 0} (make : V → W) (X : Part T V) (u : List T) (w : W) → Made make X u w
    → (v : V) × X u v × (w ≡ make v)
made_is make X u w h =
    let all : u ≡ h.first = h.joined ∙ ap (λ s. h.first ++ s) h.reads_second.0 ∙ append-nil h.first in
    (h.value, subst (λ u. X u h.value) (sym all) h.reads_first, h.reads_second.1)

pub made_within : {T V W : Type 0} (make : V → W) (X Y : Part T V) → Within X Y → Within (Made make X) (Made make Y)
made_within make X Y within u w h = record {
  first = h.first;
  second = h.second;
  value = h.value;
  joined = h.joined;
  reads_first = within h.first h.value h.reads_first;
  reads_second = h.reads_second;
}

-- ---- a part with a token after it

pub closed_of : {T V E : Type 0} (closes : T → Option E) (X : Part T V) (u : List T) (v : V) (t : T) (e : E)
    → closes t ≡ Some e → X u v → Closed closes X (u ++ (t ∷ [])) v
closed_of closes X u v t e is h = record {
  first = u;
  second = t ∷ [];
  value = v;
  joined = refl;
  reads_first = h;
  reads_second = record {
    first = t ∷ [];
    second = [];
    value = e;
    joined = refl;
    reads_first = record { token = t; one = refl; means = is };
    reads_second = (refl, refl);
  };
}

pub record IsClosed {T V E : Type 0} (closes : T → Option E) (X : Part T V) (u : List T) (v : V) : Type 0 where
  pub inner : List T
  pub token : T
  pub meaning : E
  pub all : u ≡ inner ++ (token ∷ [])
  pub means : closes token ≡ Some meaning
  pub reads : X inner v

pub closed_is : {T V E : Type 0} (closes : T → Option E) (X : Part T V) (u : List T) (v : V) → Closed closes X u v
    → IsClosed closes X u v
closed_is closes X u v h =
    let k = h.reads_second in
    record {
      inner = h.first;
      token = k.reads_first.token;
      meaning = k.value;
      all = h.joined ∙ ap (λ w. h.first ++ w) (k.joined ∙ ap (λ w. k.first ++ w) k.reads_second.0 ∙ append-nil k.first
          ∙ k.reads_first.one);
      means = k.reads_first.means;
      reads = subst (λ v. X h.first v) (sym k.reads_second.1) h.reads_first;
    }

-- ---- a part with a token before it

pub opened_of : {T V E : Type 0} (meaning : T → Option E) (X : E → Part T V) (t : T) (e : E) (u : List T) (v : V)
    → meaning t ≡ Some e → X e u v → Opened meaning X (t ∷ u) v
opened_of meaning X t e u v is h = record {
  first = t ∷ [];
  second = u;
  value = e;
  joined = refl;
  reads_first = record { token = t; one = refl; means = is };
  reads_second = h;
}

pub record IsOpened {T V E : Type 0} (meaning : T → Option E) (X : E → Part T V) (u : List T) (v : V) : Type 0 where
  pub token : T
  pub means_as : E
  pub behind : List T
  pub all : u ≡ token ∷ behind
  pub means : meaning token ≡ Some means_as
  pub reads : X means_as behind v

pub opened_is : {T V E : Type 0} (meaning : T → Option E) (X : E → Part T V) (u : List T) (v : V)
    → Opened meaning X u v → IsOpened meaning X u v
opened_is meaning X u v h = record {
  token = h.reads_first.token;
  means_as = h.value;
  behind = h.second;
  all = h.joined ∙ ap (λ f. f ++ h.second) h.reads_first.one;
  means = h.reads_first.means;
  reads = h.reads_second;
}
