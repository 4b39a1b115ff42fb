-- Parts with a token after or before them, and parts whose value is made into another.
-- Only proofs and contracts of private functions name it.
use Rattle.std.specs.Prelude.{◌≡◌, List, [], ◌∷◌, ◌++◌, Option, Some, refl}
use Rattle.std.proofs.Common.{ap, ◌∙◌, subst}
use Rattle.grammars.specs.Outcome.{Outcome, Got, ◌>>=◌}
use Rattle.grammars.specs.Part.{Part, Goes, Completes, Decides}
use Rattle.grammars.specs.Heads.{Nothing, Is, Example, expect, decides_expect, decides_nothing, goes_over, Covers}
use Rattle.grammars.specs.Sequence.{Then, Within, HandsOn, decides_then}

-- the part, for another value
abbrev pub Made : {T V W : Type 0} → (V → W) → Part T V → Part T W
Made make X = Then X (λ v. Nothing (make v))

-- the part, and a token after it that means something
abbrev pub Closed : {T V E : Type 0} → (T → Option E) → Part T V → Part T V
Closed meaning X = Then X (λ v. Then (Is meaning) (λ e. Nothing v))

-- a token that means something, and then the part as it asks for
abbrev pub Opened : {T E V : Type 0} → (T → Option E) → (E → Part T V) → Part T V
Opened meaning X = Then (Is meaning) X

nothing_hands : {T W : Type 0} (C D : T → Type 0) → Covers C D → (v : W) → HandsOn C D (Nothing v)
nothing_hands C D covers v u r w h goes = goes_over C D covers r (subst (λ u. Goes C (u ++ r)) h.0 goes)

nothing_some : {T W : Type 0} (F : T → Type 0) (v : W) → Completes F (Nothing v) []
nothing_some F v = record { more = []; value = v; fine = tt; reads = (refl, refl) }

module _ {T V W : Type 0} (F : T → Type 0) where
  -- a part that is made into another value comes out as it does
  pub decides_made : (make : V → W) (X Y : Part T V) (C : T → Type 0) (ts : List T) → Within X Y → (o : Outcome T V)
      → Decides F X Y C ts o → Decides F (Made make X) (Made make Y) C ts (o >>= λ v. Got (make v.0) v.1)
  decides_made make X Y C ts within o h = decides_then F X Y (λ v. Nothing (make v)) (λ v. Nothing (make v)) C C ts
      within (λ v u w h. h) (λ v. nothing_hands C C (λ t c. c) (make v)) (λ v. nothing_some F (make v))
      (λ v. Got (make v.0) v.1) o h (λ v rest got. decides_nothing F (make v) C rest)

module _ {T V E : Type 0} (F : T → Type 0) (meaning : T → Option E) (example : Example F meaning) where
  closing_hands : (C D : T → Type 0) → ((t : T) (e : E) → meaning t ≡ Some e → C t → ⊥) → (v : V)
      → HandsOn C D (Then (Is meaning) (λ e. Nothing v))
  closing_hands C D apart v u r w h goes =
      let first = h.reads_first in
      absurd (apart first.token h.value first.means
      (subst (λ u. Goes C (u ++ r)) (h.joined ∙ ap (λ f. f ++ h.second) first.one) goes))

  closing_some : (v : V) → Completes F (Then (Is meaning) (λ e. Nothing v)) []
  closing_some v = record {
    more = example.token ∷ [];
    value = v;
    fine = (example.fine, tt);
    reads = record {
      first = example.token ∷ [];
      second = [];
      value = example.value;
      joined = refl;
      reads_first = record { token = example.token; one = refl; means = example.means };
      reads_second = (refl, refl);
    };
  }

  decides_closing : (D : T → Type 0) (v : V) (ts : List T)
      → Decides F (Then (Is meaning) (λ e. Nothing v)) (Then (Is meaning) (λ e. Nothing v)) D ts
      (expect meaning ts >>= λ e. Got v e.1)
  decides_closing D v ts = decides_then F (Is meaning) (Is meaning) (λ e. Nothing v) (λ e. Nothing v) D D ts
      (λ u e h. h) (λ e u w h. h) (λ e. nothing_hands D D (λ t d. d) v) (λ e. nothing_some F v)
      (λ e. Got v e.1) (expect meaning ts) (decides_expect F meaning example D ts)
      (λ e rest got. decides_nothing F v D rest)

  -- a part with a token after it that does not go on it
  pub decides_closed : (X Y : Part T V) (C D : T → Type 0) (ts : List T) → Within X Y
      → ((t : T) (e : E) → meaning t ≡ Some e → C t → ⊥) → (o : Outcome T V) → Decides F X Y C ts o
      → Decides F (Closed meaning X) (Closed meaning Y) D ts (o >>= λ v. expect meaning v.1 >>= λ e. Got v.0 e.1)
  decides_closed X Y C D ts within apart o h = decides_then F X Y (λ v. Then (Is meaning) (λ e. Nothing v))
      (λ v. Then (Is meaning) (λ e. Nothing v)) C D ts within (λ v u w h. h) (closing_hands C D apart) closing_some
      (λ v. expect meaning v.1 >>= λ e. Got v.0 e.1) o h (λ v rest got. decides_closing D v rest)

  -- a token, and then a part as it asks for
  pub decides_opened : (X Y : E → Part T V) (D : T → Type 0) (ts : List T) → ((e : E) → Within (X e) (Y e))
      → ((e : E) → Completes F (X e) []) → (f : E × List T → Outcome T V)
      → ((e : E) (rest : List T) → Decides F (X e) (Y e) D rest (f (e, rest)))
      → Decides F (Opened meaning X) (Opened meaning Y) D ts (expect meaning ts >>= f)
  decides_opened X Y D ts within some f h = decides_then F (Is meaning) (Is meaning) X Y (λ t. ⊥) D ts
      (λ u e h. h) within (λ e u r w h goes. absurd (no_goes (u ++ r) goes)) some f (expect meaning ts)
      (decides_expect F meaning example (λ t. ⊥) ts) (λ e rest got. h e rest)
    where
      no_goes : (r : List T) → Goes (λ t. ⊥) r → ⊥
      no_goes [] h = h
      no_goes (t ∷ r) h = h
