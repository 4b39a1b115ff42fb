-- Reading by the next token: what begins with it, what ends there, and what cannot begin so.
-- Only proofs and contracts of private functions name it.
use Rattle.std.specs.Prelude.{◌≡◌, ◌⊎◌, List, [], ◌∷◌, ◌++◌, Option, Some, None, refl}
use Rattle.std.proofs.Common.{sym, ap, ◌∙◌, inl, inr}
use mathlib.Core.List.{append_cancel_left}
use Rattle.std.proofs.lemmas.Option.{none-some, same_Some}
use Rattle.grammars.specs.Text.{next}
use Rattle.grammars.specs.Outcome.{Outcome, Got, Wrong, Deep}
use Rattle.grammars.specs.Part.{Part, Goes, Alike, Completes, Decides, alike_next}

-- what meets the one condition meets the other
abbrev pub Covers : {T : Type 0} → (C D : T → Type 0) → Type 0
Covers C D = (t : _) → C t → D t

pub goes_over : {T : Type 0} (C D : T → Type 0) → Covers C D → (r : List T) → Goes C r → Goes D r
goes_over C D covers [] h = h
goes_over C D covers (t ∷ r) h = covers t h

-- Of lists that begin with this token: what reads as the first part reads as the second, or could have gone on.
abbrev pub Turns : {T V : Type 0} → (D : T → Type 0) → Option T → (X Y : Part T V) → Type 0
Turns D token X Y = (u r : List _) (v : _) → X u v → next (u ++ r) ≡ token → Y u v ⊎ Goes D r

-- ---- a token, and then a part

-- this token, and then the part
pub record After {T V : Type 0} (token : T) (X : Part T V) (u : List T) (v : V) : Type 0 where
  pub behind : List T
  pub joined : u ≡ token ∷ behind
  pub reads : X behind v

-- ---- nothing more is read

-- no token at all, and this value
abbrev pub Nothing : {T V : Type 0} → V → Part T V
Nothing v u x = (u ≡ []) × (x ≡ v)

alike_behind : {T : Type 0} (token : T) (front rest u behind r : List T) → u ≡ token ∷ behind
    → Alike (token ∷ front) rest (u ++ r) → Alike front rest (behind ++ r)
alike_behind token front rest u behind r joined h = record {
  tail = h.tail;
  split = append_cancel_left (token ∷ []) (behind ++ r) (front ++ h.tail)
      (sym (ap (λ w. w ++ r) joined) ∙ h.split);
  same = h.same;
}

module _ {T V : Type 0} (F : T → Type 0) where
  completes_as : (X X' : Part T V) → ((u : List T) (v : V) → X' u v → X u v) → (front : List T)
      → Completes F X' front → Completes F X front
  completes_as X X' to front h = record {
    more = h.more;
    value = h.value;
    fine = h.fine;
    reads = to (front ++ h.more) h.value h.reads;
  }

  none_as : (Y Y' : Part T V) (C D : T → Type 0) (ts front rest : List T) → Covers C D → ts ≡ front ++ rest
      → Turns D (next ts) Y Y' → ((u r : List T) (v : V) → Y' u v → Alike front rest (u ++ r) → Goes C r)
      → (u r : List T) (v : V) → Y u v → Alike front rest (u ++ r) → Goes D r
  none_as Y Y' C D ts front rest covers split from none u r v reads alike =
      elim (from u r v reads (alike_next alike split)) [
        | inl h ↦ goes_over C D covers r (none u r v h alike)
        | inr goes ↦ goes
      ]

  -- What is decided of parts is decided of those that are the same on lists that begin with this token.
  pub decides_as : (X Y X' Y' : Part T V) (C D : T → Type 0) (ts : List T) → Covers C D
      → ((u : List T) (v : V) → X' u v → X u v) → ((u : List T) (v : V) → Y' u v → Y u v)
      → Turns D (next ts) X X' → Turns D (next ts) Y Y' → (o : Outcome T V) → Decides F X' Y' C ts o
      → Decides F X Y D ts o
  decides_as X Y X' Y' C D ts covers to_x to_y from_x from_y (Got v rest) h = record {
    used = h.used;
    split = h.split;
    reads = to_x h.used v h.reads;
    sure = λ u r x reads alike. elim (from_y u r x reads (alike_next alike h.split)) [
      | inl t ↦ elim (h.sure u r x t alike) [ inl one ↦ inl one | inr goes ↦ inr (goes_over C D covers r goes) ]
      | inr goes ↦ inr goes
    ];
  }
  decides_as X Y X' Y' C D ts covers to_x to_y from_x from_y (Wrong rest) h = record {
    front = h.front;
    split = h.split;
    begins = completes_as X X' to_x h.front h.begins;
    none = none_as Y Y' C D ts h.front rest covers h.split from_y h.none;
  }
  decides_as X Y X' Y' C D ts covers to_x to_y from_x from_y (Deep rest) h = record {
    front = h.front;
    token = h.token;
    behind = h.behind;
    token_first = h.token_first;
    split = h.split;
    begins = completes_as X X' to_x h.front h.begins;
    deeper = completes_as Y Y' to_y (h.front ++ (h.token ∷ [])) h.deeper;
    none = none_as X X' C D ts h.front rest covers h.split from_x h.none;
  }

  completes_after : (token : T) (X : Part T V) (front : List T) → Completes F X front
      → Completes F (After token X) (token ∷ front)
  completes_after token X front h = record {
    more = h.more;
    value = h.value;
    fine = h.fine;
    reads = record { behind = front ++ h.more; joined = refl; reads = h.reads };
  }

  none_after : (token : T) (Y : Part T V) (C : T → Type 0) (front rest : List T)
      → ((u r : List T) (v : V) → Y u v → Alike front rest (u ++ r) → Goes C r)
      → (u r : List T) (v : V) → After token Y u v → Alike (token ∷ front) rest (u ++ r) → Goes C r
  none_after token Y C front rest none u r v reads alike =
      none reads.behind r v reads.reads (alike_behind token front rest u reads.behind r reads.joined alike)

  -- How the tokens after the first come out as a part decides of the first and that part.
  pub decides_after : (token : T) (X Y : Part T V) (C : T → Type 0) (ts : List T) (o : Outcome T V)
      → Decides F X Y C ts o → Decides F (After token X) (After token Y) C (token ∷ ts) o
  decides_after token X Y C ts (Got v rest) h = record {
    used = token ∷ h.used;
    split = ap (λ w. token ∷ w) h.split;
    reads = record { behind = h.used; joined = refl; reads = h.reads };
    sure = λ u r x reads alike. elim (h.sure reads.behind r x reads.reads
        (alike_behind token h.used rest u reads.behind r reads.joined alike)) [
          | inl one ↦ inl (reads.joined ∙ ap (λ w. token ∷ w) one.0, one.1)
          | inr goes ↦ inr goes
        ];
  }
  decides_after token X Y C ts (Wrong rest) h = record {
    front = token ∷ h.front;
    split = ap (λ w. token ∷ w) h.split;
    begins = completes_after token X h.front h.begins;
    none = none_after token Y C h.front rest h.none;
  }
  decides_after token X Y C ts (Deep rest) h = record {
    front = token ∷ h.front;
    token = h.token;
    behind = h.behind;
    token_first = h.token_first;
    split = ap (λ w. token ∷ w) h.split;
    begins = completes_after token X h.front h.begins;
    deeper = completes_after token Y (h.front ++ (h.token ∷ [])) h.deeper;
    none = none_after token X C h.front rest h.none;
  }

  -- The part that reads nothing is always got.
  pub decides_nothing : (v : V) (C : T → Type 0) (ts : List T) → Decides F (Nothing v) (Nothing v) C ts (Got v ts)
  decides_nothing v C ts = record {
    used = [];
    split = refl;
    reads = (refl, refl);
    sure = λ u r x reads alike. inl reads;
  }

  -- Where no part begins with the next token, the tokens are wrong from there on.
  pub decides_wrong : (X Y : Part T V) (C : T → Type 0) (ts : List T) → Completes F X []
      → ((u r : List T) (v : V) → Y u v → next (u ++ r) ≡ next ts → Goes C r) → Decides F X Y C ts (Wrong ts)
  decides_wrong X Y C ts some not = record {
    front = [];
    split = refl;
    begins = some;
    none = λ u r v reads alike. not u r v reads (alike_next alike refl);
  }

  -- Where a part begins with the next token, but none within the bound, it stands too deep.
  pub decides_deep : (X Y : Part T V) (C : T → Type 0) (token : T) (ts : List T) → Completes F X []
      → Completes F Y (token ∷ []) → ((u r : List T) (v : V) → X u v → next (u ++ r) ≡ Some token → Goes C r)
      → Decides F X Y C (token ∷ ts) (Deep (token ∷ ts))
  decides_deep X Y C token ts some deeper not = record {
    front = [];
    token = token;
    behind = ts;
    token_first = refl;
    split = refl;
    begins = some;
    deeper = deeper;
    none = λ u r v reads alike. not u r v reads (alike_next alike refl);
  }

-- ---- one token

-- one token, which stands for this value
pub record Is {T V : Type 0} (meaning : T → Option V) (u : List T) (v : V) : Type 0 where
  pub token : T
  pub one : u ≡ token ∷ []
  pub means : meaning token ≡ Some v

abbrev pub got_or_wrong : {T V : Type 0} → Option V → T → List T → Outcome T V
got_or_wrong None t ts = Wrong (t ∷ ts)
got_or_wrong (Some v) t ts = Got v ts

-- reading it
abbrev pub expect : {T V : Type 0} → (T → Option V) → List T → Outcome T V
expect meaning [] = Wrong []
expect meaning (t ∷ ts) = got_or_wrong (meaning t) t ts

-- a token that means something, and can be written
pub record Example {T V : Type 0} (F : T → Type 0) (meaning : T → Option V) : Type 0 where
  pub token : T
  pub value : V
  pub fine : F token
  pub means : meaning token ≡ Some value

module _ {T V : Type 0} (F : T → Type 0) (meaning : T → Option V) (example : Example F meaning) (C : T → Type 0) where
  some_one : Completes F (Is meaning) []
  some_one = record {
    more = example.token ∷ [];
    value = example.value;
    fine = (example.fine, tt);
    reads = record { token = example.token; one = refl; means = example.means };
  }

  not_one : (ts : List T) → ((t : T) (v : V) → next ts ≡ Some t → meaning t ≡ Some v → ⊥)
      → Decides F (Is meaning) (Is meaning) C ts (Wrong ts)
  not_one ts not = decides_wrong F (Is meaning) (Is meaning) C ts some_one (λ u r v reads same.
      absurd (not reads.token v (sym same ∙ ap (λ u. next (u ++ r)) reads.one) reads.means))

  by_meaning : (t : T) (ts : List T) (m : Option V) → meaning t ≡ m
      → Decides F (Is meaning) (Is meaning) C (t ∷ ts) (got_or_wrong m t ts)
  by_meaning t ts None means = not_one (t ∷ ts) (λ s v same is.
      none-some v (sym means ∙ ap meaning (same_Some t s same) ∙ is))
  by_meaning t ts (Some v) means = record {
    used = t ∷ [];
    split = refl;
    reads = record { token = t; one = refl; means = means };
    sure = λ u r x reads alike.
        let first : reads.token ≡ t = same_Some reads.token t
        (sym (ap (λ u. next (u ++ r)) reads.one) ∙ ap next alike.split) in
        inl (
          reads.one ∙ ap (λ t. t ∷ []) first,
          same_Some x v (sym reads.means ∙ ap meaning first ∙ means),
        );
  }

  -- One token is got where it means something.
  pub decides_expect : (ts : List T) → Decides F (Is meaning) (Is meaning) C ts (expect meaning ts)
  decides_expect [] = not_one [] (λ t v same means. none-some t same)
  decides_expect (t ∷ ts) = by_meaning t ts (meaning t) refl
