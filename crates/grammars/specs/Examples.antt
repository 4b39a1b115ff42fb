-- That some tokens are such a part, for parts that are put together of others.
-- Only proofs and contracts of private functions name it.
use Rattle.std.specs.Prelude.{◌≡◌, Bool, true, false, List, [], ◌∷◌, ◌++◌, Option, Some, None, cond, refl}
use Rattle.std.proofs.Common.{ap, ◌∙◌, subst}
use Rattle.std.proofs.lemmas.Option.{none-some, same_Some}
use Rattle.grammars.specs.Part.{Part, Goes, Completes}
use Rattle.grammars.specs.Heads.{After, Nothing, Is, Example}
use Rattle.grammars.specs.Sequence.{Then, Within, HandsOn, all_joined}
use Rattle.grammars.specs.Bits.{Made, Closed, Opened}

module _ {T V : Type 0} (F : T → Type 0) where
  pub some_nothing : (v : V) → Completes F (Nothing v) []
  some_nothing v = record { more = []; value = v; fine = tt; reads = (refl, refl) }

  pub some_same : (X Y : Part T V) → Within X Y → (front : List T) → Completes F X front → Completes F Y front
  some_same X Y within front h = record {
    more = h.more;
    value = h.value;
    fine = h.fine;
    reads = within (front ++ h.more) h.value h.reads;
  }

  pub some_token : (meaning : T → Option V) → Example F meaning → Completes F (Is meaning) []
  some_token meaning e = record {
    more = e.token ∷ [];
    value = e.value;
    fine = (e.fine, tt);
    reads = record { token = e.token; one = refl; means = e.means };
  }

  pub some_behind : (token : T) (X : Part T V) → Completes F X [] → Completes F (After token X) (token ∷ [])
  some_behind token X h = record {
    more = h.more;
    value = h.value;
    fine = h.fine;
    reads = record { behind = h.more; joined = refl; reads = h.reads };
  }

module _ {T V W : Type 0} (F : T → Type 0) where
  pub some_then : (X : Part T V) (Z : V → Part T W) → Completes F X [] → ((v : V) → Completes F (Z v) [])
      → Completes F (Then X Z) []
  some_then X Z h some = let rest = some h.value in record {
    more = h.more ++ rest.more;
    value = rest.value;
    fine = all_joined F h.more rest.more h.fine rest.fine;
    reads = record {
      first = h.more;
      second = rest.more;
      value = h.value;
      joined = refl;
      reads_first = h.reads;
      reads_second = rest.reads;
    };
  }

  pub some_made : (make : V → W) (X : Part T V) → Completes F X [] → Completes F (Made make X) []
  some_made make X h = some_then X (λ v. Nothing (make v)) h (λ v. some_nothing F (make v))

pub some_closed : {T V E : Type 0} (F : T → Type 0) (meaning : T → Option E) → Example F meaning → (X : Part T V)
    → Completes F X [] → Completes F (Closed meaning X) []
some_closed F meaning e X h = some_then F X (λ v. Then (Is meaning) (λ e. Nothing v)) h
    (λ v. some_then F (Is meaning) (λ e. Nothing v) (some_token F meaning e) (λ e. some_nothing F v))

pub some_opened : {T V E : Type 0} (F : T → Type 0) (meaning : T → Option E) → Example F meaning → (X : E → Part T V)
    → ((e : E) → Completes F (X e) []) → Completes F (Opened meaning X) []
some_opened F meaning e X some = some_then F (Is meaning) X (some_token F meaning e) some

-- ---- what a part with a token before it does not go on

pub opened_hands : {T V E : Type 0} (meaning : T → Option E) (X : E → Part T V) (C D : T → Type 0)
    → ((t : T) (e : E) → meaning t ≡ Some e → C t → ⊥) → HandsOn C D (Opened meaning X)
opened_hands meaning X C D apart u r w h goes =
    let first = h.reads_first in
    absurd (apart first.token h.value first.means
    (subst (λ u. Goes C (u ++ r)) (h.joined ∙ ap (λ f. f ++ h.second) first.one) goes))

-- where nothing goes on
pub none_hands : {T W : Type 0} (D : T → Type 0) (Z : Part T W) → HandsOn (λ t. ⊥) D Z
none_hands {T} D Z u r w h goes = absurd (no_goes (u ++ r) goes)
  where
    no_goes : (r : List T) → Goes (λ t. ⊥) r → ⊥
    no_goes [] h = h
    no_goes (t ∷ r) h = h

-- ---- a token that a test chooses

abbrev pub chosen : {T : Type 0} → (T → Bool) → T → Option T
chosen on t = cond (on t) (Some t) None

pub chosen_is : {T : Type 0} (on : T → Bool) (t e : T) → chosen on t ≡ Some e → (on t ≡ true) × (t ≡ e)
chosen_is on t e = go (on t) refl
  where
    go : (b : Bool) → on t ≡ b → cond b (Some t) None ≡ Some e → (on t ≡ true) × (t ≡ e)
    go true is same = (is, same_Some t e same)
    go false is same = absurd (none-some e same)

pub is_chosen : {T : Type 0} (on : T → Bool) (t : T) → on t ≡ true → chosen on t ≡ Some t
is_chosen on t is = ap (λ b. cond b (Some t) None) is

pub one_chosen : {T : Type 0} (F : T → Type 0) (on : T → Bool) (t : T) → F t → on t ≡ true → Example F (chosen on)
one_chosen F on t fine is = record { token = t; value = t; fine = fine; means = is_chosen on t is }
