-- A part that may be missing before a token that closes, and one that may stand once where none is within the bound.
-- Only proofs and contracts of private functions name it.
use Rattle.std.specs.Prelude.{◌≡◌, Bool, true, false, List, [], ◌∷◌, ◌++◌, Option, Some, None, cond, refl}
use Rattle.std.proofs.Common.{sym, ap, ◌∙◌, inl, subst, true≢false}
use Rattle.std.proofs.lemmas.Option.{none-some, same_Some}
use mathlib.Core.List.{append_assoc}
use Rattle.grammars.specs.Text.{next}
use Rattle.grammars.specs.Outcome.{Outcome, Got, Deep, ◌>>=◌}
use Rattle.grammars.specs.Part.{Part, Completes, Decides}
use Rattle.grammars.specs.Heads.{After, Turns, Nothing, Example, expect, decides_after, decides_as}
use Rattle.grammars.specs.Heads.{decides_nothing, decides_deep}
use Rattle.grammars.specs.Sequence.{Within}
use Rattle.grammars.specs.Bits.{Closed, decides_closed}
use Rattle.grammars.specs.Chain.{goes_same}
use Rattle.grammars.specs.Once.{Once, Not, One}

-- ---- a part that may be missing

-- the part, and a token after it that closes; or that token alone, which then means this value
pub data Perhaps {T V E : Type 0} (closes : T → Option E) (none : V) (X : Part T V) : List T → V → Type 0 where
  Missing : (t : T) (e : E) → closes t ≡ Some e → Perhaps closes none X (t ∷ []) none
  Stands : (u : List T) (v : V) → Closed closes X u v → Perhaps closes none X u v

-- reading what may be missing, where this is the meaning of the next token
abbrev pub unless_closed : {T V E : Type 0} → Option E → V → (List T → Outcome T V) → T → List T → Outcome T V
unless_closed (Some e) none closed t ts = Got none ts
unless_closed None none closed t ts = closed (t ∷ ts)

-- reading the part, and the token that closes
abbrev pub closed : {T V E : Type 0} → (T → Option E) → (List T → Outcome T V) → List T → Outcome T V
closed closes read ts = read ts >>= λ v. expect closes v.1 >>= λ e. Got v.0 e.1

abbrev pub perhaps : {T V E : Type 0} → (T → Option E) → V → (List T → Outcome T V) → List T → Outcome T V
perhaps closes none read [] = closed closes read []
perhaps closes none read (t ∷ ts) = unless_closed (closes t) none (closed closes read) t ts

pub closed_within : {T V E : Type 0} (closes : T → Option E) (X Y : Part T V) → Within X Y
    → Within (Closed closes X) (Closed closes Y)
closed_within closes X Y within u v h = record {
  first = h.first;
  second = h.second;
  value = h.value;
  joined = h.joined;
  reads_first = within h.first h.value h.reads_first;
  reads_second = h.reads_second;
}

pub perhaps_within : {T V E : Type 0} (closes : T → Option E) (none : V) (X Y : Part T V) → Within X Y
    → Within (Perhaps closes none X) (Perhaps closes none Y)
perhaps_within closes none X Y within _ _ (Missing t e is) = Missing t e is
perhaps_within closes none X Y within u v (Stands _ _ h) = Stands u v (closed_within closes X Y within u v h)

pub some_perhaps : {T V E : Type 0} (F : T → Type 0) (closes : T → Option E) (example : Example F closes) (none : V)
    (X : Part T V) → Completes F (Perhaps closes none X) []
some_perhaps F closes example none X = record {
  more = example.token ∷ [];
  value = none;
  fine = (example.fine, tt);
  reads = Missing example.token example.value example.means;
}

module _ {T V E : Type 0} (F : T → Type 0) (closes : T → Option E) (example : Example F closes) (none : V)
    (X Y : Part T V) (C D : T → Type 0) (read : List T → Outcome T V) (within : Within X Y)
    (apart : (t : T) (e : E) → closes t ≡ Some e → C t → ⊥)
    (begins : (u r : List T) (v : V) (t : T) (e : E) → Y u v → next (u ++ r) ≡ Some t → closes t ≡ Some e → ⊥)
    (comes : (ts : List T) → Decides F X Y C ts (read ts)) where
  closed_begins : (u r : List T) (v : V) (t : T) (e : E) → Closed closes Y u v → next (u ++ r) ≡ Some t
      → closes t ≡ Some e → ⊥
  closed_begins u r v t e h same is =
      begins h.first (h.second ++ r) h.value t e h.reads_first
      (sym (ap next (append_three h.first h.second r u h.joined)) ∙ same) is
    where
      append_three : (a b r u : List T) → u ≡ a ++ b → u ++ r ≡ a ++ (b ++ r)
      append_three a b r u joined = ap (λ u. u ++ r) joined ∙ append_assoc a b r

  read_closed : (ts : List T) → Decides F (Closed closes X) (Closed closes Y) D ts (closed closes read ts)
  read_closed ts = decides_closed F closes example X Y C D ts within apart (read ts) (comes ts)

  stands : (Z : Part T V) → Within (Closed closes Z) (Perhaps closes none Z)
  stands Z u v h = Stands u v h

  turns : (Z : Part T V) (token : Option T) → ((t : T) (e : E) → token ≡ Some t → closes t ≡ Some e → ⊥)
      → Turns D token (Perhaps closes none Z) (Closed closes Z)
  turns Z token not _ r _ (Missing t e is) same = absurd (not t e (sym same) is)
  turns Z token not u r v (Stands _ _ h) same = inl h

  present : (ts : List T) → ((t : T) (e : E) → next ts ≡ Some t → closes t ≡ Some e → ⊥)
      → Decides F (Perhaps closes none X) (Perhaps closes none Y) D ts (closed closes read ts)
  present ts not = decides_as F (Perhaps closes none X) (Perhaps closes none Y)
      (Closed closes X) (Closed closes Y) D D ts
      (λ t d. d) (stands X) (stands Y) (turns X (next ts) not) (turns Y (next ts) not) (closed closes read ts)
      (read_closed ts)

  alone : (Z : Part T V) (t : T) (e : E) → closes t ≡ Some e → Within (After t (Nothing none)) (Perhaps closes none Z)
  alone Z t e is u v h =
      subst (λ u. Perhaps closes none Z u v) (sym (h.joined ∙ ap (λ w. t ∷ w) h.reads.0))
      (subst (λ v. Perhaps closes none Z (t ∷ []) v) (sym h.reads.1) (Missing t e is))

  of_alone : (Z : Part T V) → Within Z Y → (t : T) (e : E) → closes t ≡ Some e
      → Turns D (Some t) (Perhaps closes none Z) (After t (Nothing none))
  of_alone Z inside t e is _ r _ (Missing t' e' is') same =
      inl (record { behind = []; joined = ap (λ t. t ∷ []) (same_Some t' t same); reads = (refl, refl) })
  of_alone Z inside t e is u r v (Stands _ _ h) same =
      absurd (closed_begins u r v t e (closed_within closes Z Y inside u v h) same is)

  missing : (t : T) (e : E) (ts : List T) → closes t ≡ Some e
      → Decides F (Perhaps closes none X) (Perhaps closes none Y) D (t ∷ ts) (Got none ts)
  missing t e ts is = decides_as F (Perhaps closes none X) (Perhaps closes none Y) (After t (Nothing none))
      (After t (Nothing none)) D D (t ∷ ts) (λ t d. d) (alone X t e is) (alone Y t e is)
      (of_alone X within t e is) (of_alone Y (λ u v h. h) t e is) (Got none ts)
      (decides_after F t (Nothing none) (Nothing none) D ts (Got none ts) (decides_nothing F none D ts))

  by_meaning : (t : T) (ts : List T) (m : Option E) → closes t ≡ m
      → Decides F (Perhaps closes none X) (Perhaps closes none Y) D (t ∷ ts)
      (unless_closed m none (closed closes read) t ts)
  by_meaning t ts (Some e) is = missing t e ts is
  by_meaning t ts None is = present (t ∷ ts) (λ s e same closing.
      none-some e (sym is ∙ ap closes (same_Some t s same) ∙ closing))

  -- A part that may be missing before a token that closes, which never begins it.
  pub decides_perhaps : (ts : List T) → Decides F (Perhaps closes none X) (Perhaps closes none Y) D ts
      (perhaps closes none read ts)
  decides_perhaps [] = present [] (λ t e same is. none-some t same)
  decides_perhaps (t ∷ ts) = by_meaning t ts (closes t) refl

-- ---- a part that may stand once, but not within the bound

-- reading where it would stand too deep
abbrev pub too_deep : {T A : Type 0} → (T → Bool) → A → List T → Outcome T A
too_deep on a [] = Got a []
too_deep on a (t ∷ ts) = cond (on t) (Deep (t ∷ ts)) (Got a (t ∷ ts))

module _ {T V A : Type 0} (F : T → Type 0) (on : T → Bool) (Y : T → Part T V) (join : T → A → V → A) (D : T → Type 0)
    (fine : (t : T) → on t ≡ true → F t) (some : (t : T) → on t ≡ true → Completes F (Y t) [])
    (ons : (t : T) → on t ≡ true → D t) (a : A) where
  nothing_once : Within (Nothing a) (Once on Y join a)
  nothing_once u v h =
      subst (λ v. Once on Y join a u v) (sym h.1) (subst (λ u. Once on Y join a u a) (sym h.0) (Not a))

  none_once : (token : Option T) → ((t : T) → token ≡ Some t → on t ≡ false)
      → Turns D token (Once on Y join a) (Nothing a)
  none_once token not u r v (Not _) same = inl (refl, refl)
  none_once token not u r v (One t _ b w is reads) same = absurd (true≢false (sym is ∙ not t (sym same)))

  stays : (ts : List T) → ((t : T) → next ts ≡ Some t → on t ≡ false)
      → Decides F (Nothing a) (Once on Y join a) D ts (Got a ts)
  stays ts not = decides_as F (Nothing a) (Once on Y join a) (Nothing a) (Nothing a) D D ts (λ t d. d) (λ u v h. h)
      nothing_once (λ u r v h same. inl h) (none_once (next ts) not) (Got a ts) (decides_nothing F a D ts)

  sinks : (t : T) (ts : List T) → on t ≡ true → Decides F (Nothing a) (Once on Y join a) D (t ∷ ts) (Deep (t ∷ ts))
  sinks t ts is = decides_deep F (Nothing a) (Once on Y join a) D t ts
      (record { more = []; value = a; fine = tt; reads = (refl, refl) })
      (let h = some t is in record {
        more = h.more;
        value = join t a h.value;
        fine = h.fine;
        reads = One t a h.value h.more is h.reads;
      }) (λ u r v h same. goes_same D t r (ons t is) (sym (ap (λ u. next (u ++ r)) h.0) ∙ same))

  by_token : (t : T) (ts : List T) (b : Bool) → on t ≡ b
      → Decides F (Nothing a) (Once on Y join a) D (t ∷ ts) (cond b (Deep (t ∷ ts)) (Got a (t ∷ ts)))
  by_token t ts true is = sinks t ts is
  by_token t ts false is = stays (t ∷ ts) (λ s same. ap on (sym (same_Some t s same)) ∙ is)

  pub decides_too_deep : (ts : List T) → Decides F (Nothing a) (Once on Y join a) D ts (too_deep on a ts)
  decides_too_deep [] = stays [] (λ t same. absurd (none-some t same))
  decides_too_deep (t ∷ ts) = by_token t ts (on t) refl
