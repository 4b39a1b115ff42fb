-- A part that may stand once: after what was read stands nothing more, or a token that says so and then the part.
-- Only proofs and contracts of private functions name it.
use Rattle.std.specs.Prelude.{◌≡◌, Bool, true, false, List, [], ◌∷◌, ◌++◌, Option, Some, cond, refl}
use Rattle.std.proofs.Common.{sym, ap, ◌∙◌, inl, inr, subst, true≢false}
use Rattle.std.proofs.lemmas.Option.{none-some, same_Some}
use mathlib.Core.List.{append-nil}
use Rattle.grammars.specs.Text.{next}
use Rattle.grammars.specs.Outcome.{Outcome, Got, ◌>>=◌}
use Rattle.grammars.specs.Part.{Part, Goes, Decides}
use Rattle.grammars.specs.Heads.{After, Turns, Nothing, goes_over, decides_after, decides_as, decides_nothing}
use Rattle.grammars.specs.Sequence.{Then, HandsOn, decides_then}
use Rattle.grammars.specs.Chain.{IsChain, goes_same}

pub data Once {T V A : Type 0} (on : T → Bool) (X : T → Part T V) (join : T → A → V → A) : A → List T → A → Type 0 where
  Not : (a : A) → Once on X join a [] a
  One : (token : T) (a : A) (b : V) (u : List T) → on token ≡ true → X token u b
      → Once on X join a (token ∷ u) (join token a b)

-- reading it
abbrev pub once : {T V A : Type 0} → (on : T → Bool) → (T → List T → Outcome T V) → (T → A → V → A) → A → List T
    → Outcome T A
once on read join a [] = Got a []
once on read join a (t ∷ ts) = cond (on t) (read t ts >>= λ b. Got (join t a b.0) b.1) (Got a (t ∷ ts))

module _ {T V A : Type 0} (F : T → Type 0) (on : T → Bool) (X Y : T → Part T V) (C D : T → Type 0)
    (read : T → List T → Outcome T V) (chain : IsChain F on X Y C D read) (join : T → A → V → A) where
  turned : (X : T → Part T V) (t : T) (a : A) (u : List T) (c : A) → on t ≡ true
      → After t (Then (X t) (λ b. Nothing (join t a b))) u c → Once on X join a u c
  turned X t a u c goes h =
      let parts = h.reads in
      let all : u ≡ t ∷ parts.first = h.joined ∙ ap (λ w. t ∷ w)
      (parts.joined ∙ ap (λ w. parts.first ++ w) parts.reads_second.0 ∙ append-nil parts.first) in
      subst (λ u. Once on X join a u c) (sym all) (subst (λ c. Once on X join a (t ∷ parts.first) c)
      (sym parts.reads_second.1) (One t a parts.value parts.first goes parts.reads_first))

  unturned : (X : T → Part T V) (t : T) (a : A) → D t
      → Turns D (Some t) (Once on X join a) (After t (Then (X t) (λ b. Nothing (join t a b))))
  unturned X t a d u r c (Not _) same = inr (goes_same D t r d same)
  unturned X t a d u r c (One token _ b v goes reads) same =
      let one : token ≡ t = same_Some token t same in
      inl (record {
        behind = v;
        joined = ap (λ t. t ∷ v) one;
        reads = record {
          first = v;
          second = [];
          value = b;
          joined = sym (append-nil v);
          reads_first = subst (λ t. X t v b) one reads;
          reads_second = (refl, ap (λ t. join t a b) one);
        };
      })

  nothing_hands : (a : A) → HandsOn C D (Nothing a)
  nothing_hands a u r c h goes = goes_over C D chain.covers r (subst (λ u. Goes C (u ++ r)) h.0 goes)

  ends : (X : T → Part T V) (a : A) (token : Option T) → ((t : T) → token ≡ Some t → on t ≡ false)
      → Turns D token (Once on X join a) (Nothing a)
  ends X a token not u r c (Not _) same = inl (refl, refl)
  ends X a token not u r c (One t _ b v is reads) same = absurd (true≢false (sym is ∙ not t (sym same)))

  done_of : (X : T → Part T V) (a : A) (u : List T) (c : A) → Nothing a u c → Once on X join a u c
  done_of X a u c h = subst (λ c. Once on X join a u c) (sym h.1) (subst (λ u. Once on X join a u a) (sym h.0) (Not a))

  stops : (a : A) (ts : List T) → ((t : T) → next ts ≡ Some t → on t ≡ false)
      → Decides F (Once on X join a) (Once on Y join a) D ts (Got a ts)
  stops a ts not = decides_as F (Once on X join a) (Once on Y join a) (Nothing a) (Nothing a) D D ts (λ t d. d)
      (done_of X a) (done_of Y a) (ends X a (next ts) not) (ends Y a (next ts) not) (Got a ts)
      (decides_nothing F a D ts)

  goes_on : (a : A) (t : T) (ts : List T) → on t ≡ true
      → Decides F (Once on X join a) (Once on Y join a) D (t ∷ ts) (read t ts >>= λ b. Got (join t a b.0) b.1)
  goes_on a t ts is =
      let behind = decides_then F (X t) (Y t) (λ b. Nothing (join t a b)) (λ b. Nothing (join t a b)) C D ts
      (chain.within t) (λ b u v h. h) (λ b. nothing_hands (join t a b))
      (λ b. record { more = []; value = join t a b; fine = tt; reads = (refl, refl) })
      (λ b. Got (join t a b.0) b.1) (read t ts) (chain.reads t ts is)
      (λ b rest got. decides_nothing F (join t a b) D rest) in
      decides_as F (Once on X join a) (Once on Y join a) (After t (Then (X t) (λ b. Nothing (join t a b))))
      (After t (Then (Y t) (λ b. Nothing (join t a b)))) D D (t ∷ ts) (λ t d. d)
      (λ u c. turned X t a u c is) (λ u c. turned Y t a u c is)
      (unturned X t a (chain.ons t is)) (unturned Y t a (chain.ons t is)) _
      (decides_after F t (Then (X t) (λ b. Nothing (join t a b))) (Then (Y t) (λ b. Nothing
      (join t a b))) D ts _ behind)

  by_token : (a : A) (t : T) (ts : List T) (b : Bool) → on t ≡ b → Decides F (Once on X join a)
      (Once on Y join a) D (t ∷ ts)
      (cond b (read t ts >>= λ b. Got (join t a b.0) b.1) (Got a (t ∷ ts)))
  by_token a t ts true is = goes_on a t ts is
  by_token a t ts false is = stops a (t ∷ ts) (λ t' same. ap on (sym (same_Some t t' same)) ∙ is)

  -- A part that may stand once comes out where it does, and where it does not.
  pub decides_once : (a : A) (ts : List T) → Decides F (Once on X join a) (Once on Y join a) D ts
      (once on read join a ts)
  decides_once a [] = stops a [] (λ t same. absurd (none-some t same))
  decides_once a (t ∷ ts) = by_token a t ts (on t) refl
