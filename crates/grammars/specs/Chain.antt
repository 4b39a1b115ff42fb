-- Parts that repeat: after what was read so far stands, as often as it does, a token that says so and then a part.
-- Only proofs and contracts of private functions name it.
use Rattle.std.specs.Prelude.{◌≡◌, ℕ, zero, suc, ◌+◌, ◌≤◌, Bool, true, false, List, [], ◌∷◌, ◌++◌, length}
use Rattle.std.specs.Prelude.{Option, Some, cond, refl}
use Rattle.std.proofs.Common.{sym, ap, ◌∙◌, inl, inr, subst, true≢false, le_trans}
use Rattle.std.proofs.Common.{arith, length-append}
use Rattle.std.proofs.lemmas.Option.{none-some, same_Some}
use mathlib.Core.List.{append_assoc, append-nil}
use Rattle.grammars.specs.Text.{next}
use Rattle.grammars.specs.Outcome.{Outcome, Got, ◌>>=◌}
use Rattle.grammars.specs.Part.{Part, Goes, Completes, IsGot, Decides}
use Rattle.grammars.specs.Heads.{After, Turns, Covers, Nothing, goes_over, decides_after, decides_as}
use Rattle.grammars.specs.Heads.{decides_nothing}
use Rattle.grammars.specs.Sequence.{Then, Within, HandsOn, decides_then}

-- Nothing more stands there; or a token that goes on, then a part as it asks for, and the rest, after what the token
-- joins of what there was and the part.
pub data Tail {T V A : Type 0} (on : T → Bool) (X : T → Part T V) (join : T → A → V → A) : A → List T → A → Type 0 where
  Done : (a : A) → Tail on X join a [] a
  More : (token : T) (a c : A) (b : V) (u w : List T) → on token ≡ true → X token u b → Tail on X join
      (join token a b) w c
      → Tail on X join a (token ∷ (u ++ w)) c

-- reading it, with so much fuel: there are no more turns than tokens
abbrev pub tail : {T V A : Type 0} → (on : T → Bool) → (T → List T → Outcome T V) → (T → A → V → A) → ℕ → A → List T
    → Outcome T A
tail on read join zero a ts = Got a ts
tail on read join (suc fuel) a [] = Got a []
tail on read join (suc fuel) a (t ∷ ts) =
    cond (on t) (read t ts >>= λ b. tail on read join fuel (join t a b.0) b.1) (Got a (t ∷ ts))

-- ---- how it comes out

turned : {T V A : Type 0} (on : T → Bool) (X : T → Part T V) (join : T → A → V → A) (t : T) (a : A) (u : List T) (c : A)
    → on t ≡ true → After t (Then (X t) (λ b. Tail on X join (join t a b))) u c → Tail on X join a u c
turned on X join t a u c goes h =
    let parts = h.reads in
    subst (λ u. Tail on X join a u c) (sym (h.joined ∙ ap (λ w. t ∷ w) parts.joined))
    (More t a c parts.value parts.first parts.second goes parts.reads_first parts.reads_second)

pub goes_same : {T : Type 0} (D : T → Type 0) (t : T) (r : List T) → D t → next r ≡ Some t → Goes D r
goes_same D t [] d same = absurd (none-some t same)
goes_same D t (t' ∷ r) d same = subst D (sym (same_Some t' t same)) d

unturned : {T V A : Type 0} (on : T → Bool) (X : T → Part T V) (join : T → A → V → A) (D : T → Type 0) (t : T) (a : A)
    → D t → Turns D (Some t) (Tail on X join a) (After t (Then (X t) (λ b. Tail on X join (join t a b))))
unturned on X join D t a d u r c (Done _) same = inr (goes_same D t r d same)
unturned on X join D t a d u r c (More token _ _ b v w goes reads rest) same =
    let one : token ≡ t = same_Some token t same in
    inl (record {
      behind = v ++ w;
      joined = ap (λ t. t ∷ (v ++ w)) one;
      reads = record {
        first = v;
        second = w;
        value = b;
        joined = refl;
        reads_first = subst (λ t. X t v b) one reads;
        reads_second = subst (λ t. Tail on X join (join t a b) w c) one rest;
      };
    })

-- A chain and one more part of it are a chain.
pub tail_last : {T V A : Type 0} (on : T → Bool) (X : T → Part T V) (join : T → A → V → A) (a b : A) (u : List T)
    (t : T)
    (v : List T) (c : V) → Tail on X join a u b → on t ≡ true → X t v c
    → Tail on X join a (u ++ (t ∷ v)) (join t b c)
tail_last on X join a _ _ t v c (Done _) is reads =
    subst (λ v. Tail on X join a (t ∷ v) (join t a c)) (append-nil v)
    (More t a (join t a c) c v [] is reads (Done (join t a c)))
tail_last on X join a b _ t v c (More s _ _ x y w goes first rest) is reads =
    subst (λ z. Tail on X join a (s ∷ z) (join t b c)) (sym (append_assoc y w (t ∷ v)))
    (More s a (join t b c) x y (w ++ (t ∷ v)) goes first (tail_last on X join (join s a x) b w t v c rest is reads))

none_left : {T : Type 0} (ts : List T) → suc (length ts) ≤ 0 → ⊥
none_left ts few = omega (arith, few)

-- what is got leaves no more tokens than there were
pub got_shorter : {T V : Type 0} (F : T → Type 0) (X Y : Part T V) (C : T → Type 0) (ts : List T)
    (o : Outcome T V) (v : V)
    (rest : List T) → Decides F X Y C ts o → o ≡ Got v rest → length rest ≤ length ts
got_shorter F X Y C ts o v rest h got =
    let g : IsGot X Y C ts v rest = subst (λ o. Decides F X Y C ts o) got h in
    let long : length ts ≡ length g.used + length rest = ap length g.split ∙ length-append g.used rest in
    omega (arith, long)

-- What a chain asks of its tokens and of the parts between them.
pub record IsChain {T V : Type 0} (F : T → Type 0) (on : T → Bool) (X Y : T → Part T V) (C D : T → Type 0)
    (read : T → List T → Outcome T V) : Type 0 where
  pub within : (t : T) → Within (X t) (Y t)
  pub some : (t : T) → on t ≡ true → Completes F (X t) []
  -- a token of the chain does not go on a part of it
  pub apart : (t : T) → on t ≡ true → C t → ⊥
  pub covers : Covers C D
  pub ons : (t : T) → on t ≡ true → D t
  pub reads : (t : T) (ts : List T) → on t ≡ true → Decides F (X t) (Y t) C ts (read t ts)

module _ {T V A : Type 0} (F : T → Type 0) (on : T → Bool) (X Y : T → Part T V) (C D : T → Type 0)
    (read : T → List T → Outcome T V) (chain : IsChain F on X Y C D read) (join : T → A → V → A) where
  pub tail_within : (a : A) (u : List T) (c : A) → Tail on X join a u c → Tail on Y join a u c
  tail_within a _ _ (Done _) = Done a
  tail_within a _ c (More token _ _ b u w goes reads rest) =
      More token a c b u w goes (chain.within token u b reads) (tail_within (join token a b) w c rest)

  pub tail_hands : (a : A) → HandsOn C D (Tail on Y join a)
  tail_hands a u r c (Done _) goes = goes_over C D chain.covers r goes
  tail_hands a u r c (More token _ _ b _ w is reads rest) goes = absurd (chain.apart token is goes)

  pub tail_some : (X : T → Part T V) (a : A) → Completes F (Tail on X join a) []
  tail_some X a = record { more = []; value = a; fine = tt; reads = Done a }

  ends : (X : T → Part T V) (D : T → Type 0) (a : A) (token : Option T)
      → ((t : T) → token ≡ Some t → on t ≡ false) → Turns D token (Tail on X join a) (Nothing a)
  ends X D a token not u r c (Done _) same = inl (refl, refl)
  ends X D a token not u r c (More t _ _ b v w is reads rest) same =
      absurd (true≢false (sym is ∙ not t (sym same)))

  done_of : (X : T → Part T V) (a : A) (u : List T) (c : A) → Nothing a u c → Tail on X join a u c
  done_of X a u c h = subst (λ c. Tail on X join a u c) (sym h.1) (subst (λ u. Tail on X join a u a) (sym h.0) (Done a))

  stops : (a : A) (ts : List T) → ((t : T) → next ts ≡ Some t → on t ≡ false)
      → Decides F (Tail on X join a) (Tail on Y join a) D ts (Got a ts)
  stops a ts not = decides_as F (Tail on X join a) (Tail on Y join a) (Nothing a) (Nothing a) D D ts (λ t d. d)
      (done_of X a) (done_of Y a) (ends X D a (next ts) not) (ends Y D a (next ts) not) (Got a ts)
      (decides_nothing F a D ts)

  -- reading the chain with this fuel comes out
  Comes : ℕ → Type 0
  Comes fuel = (a : A) (ts : List T) → length ts ≤ fuel
      → Decides F (Tail on X join a) (Tail on Y join a) D ts (tail on read join fuel a ts)

  goes_on : (fuel : ℕ) → Comes fuel → (a : A) (t : T) (ts : List T) → length ts ≤ fuel → on t ≡ true
      → Decides F (Tail on X join a) (Tail on Y join a) D (t ∷ ts)
      (read t ts >>= λ b. tail on read join fuel (join t a b.0) b.1)
  unfolding Comes
  goes_on fuel comes a t ts few is =
      let read_t = chain.reads t ts is in
      let behind = decides_then F (X t) (Y t) (λ b. Tail on X join (join t a b)) (λ b. Tail on Y join
      (join t a b)) C D ts
      (chain.within t) (λ b. tail_within (join t a b)) (λ b. tail_hands (join t a b)) (λ b. tail_some X (join t a b))
      (λ b. tail on read join fuel (join t a b.0) b.1) (read t ts) read_t
      (λ b rest got. comes (join t a b) rest
      (le_trans (got_shorter F (X t) (Y t) C ts (read t ts) b rest read_t got) few)) in
      decides_as F (Tail on X join a) (Tail on Y join a) (After t (Then (X t) (λ b. Tail on X join (join t a b))))
      (After t (Then (Y t) (λ b. Tail on Y join (join t a b)))) D D (t ∷ ts) (λ t d. d)
      (λ u c. turned on X join t a u c is) (λ u c. turned on Y join t a u c is)
      (unturned on X join D t a (chain.ons t is)) (unturned on Y join D t a (chain.ons t is)) _
      (decides_after F t (Then (X t) (λ b. Tail on X join (join t a b))) (Then (Y t) (λ b. Tail on Y join
      (join t a b))) D ts
      _ behind)

  by_token : (fuel : ℕ) → Comes fuel → (a : A) (t : T) (ts : List T) → length ts ≤ fuel → (b : Bool) → on t ≡ b
      → Decides F (Tail on X join a) (Tail on Y join a) D (t ∷ ts)
      (cond b (read t ts >>= λ b. tail on read join fuel (join t a b.0) b.1) (Got a (t ∷ ts)))
  by_token fuel comes a t ts few true is = goes_on fuel comes a t ts few is
  by_token fuel comes a t ts few false is = stops a (t ∷ ts) (λ t' same. ap on (sym (same_Some t t' same)) ∙ is)

  -- A chain of parts that come out comes out.
  pub decides_tail : (fuel : ℕ) (a : A) (ts : List T) → length ts ≤ fuel
      → Decides F (Tail on X join a) (Tail on Y join a) D ts (tail on read join fuel a ts)
  unfolding Comes
  decides_tail zero a [] few = stops a [] (λ t same. absurd (none-some t same))
  decides_tail zero a (t ∷ ts) few = absurd (none_left ts few)
  decides_tail (suc fuel) a [] few = stops a [] (λ t same. absurd (none-some t same))
  decides_tail (suc fuel) a (t ∷ ts) few =
      by_token fuel (decides_tail fuel) a t ts (omega (arith, few)) (on t) refl

-- A part, and then a chain of them.
abbrev pub Chained : {T V : Type 0} → (on : T → Bool) → (join : T → V → V → V) → Part T V → Part T V
Chained on join X = Then X (Tail on (λ t. X) join)

-- reading it
abbrev pub chained : {T V : Type 0} → (on : T → Bool) → (join : T → V → V → V) → (List T → Outcome T V) → List T
    → Outcome T V
chained on join read ts = read ts >>= λ a. tail on (λ t. read) join (length a.1) a.0 a.1

-- A part and a chain of it are a chain, where nothing but the parts of the chain stands.
pub decides_chained : {T V : Type 0} (F : T → Type 0) (on : T → Bool) (X Y : Part T V) (C D : T → Type 0)
    (read : List T → Outcome T V) (join : T → V → V → V) → IsChain F on (λ t. X) (λ t. Y) C D (λ t. read) → Within X Y
    → ((ts : List T) → Decides F X Y C ts (read ts)) → (ts : List T)
    → Decides F (Chained on join X) (Chained on join Y) D ts (chained on join read ts)
decides_chained F on X Y C D read join chain within comes ts =
    decides_then F X Y (Tail on (λ t. X) join) (Tail on (λ t. Y) join) C D ts within
    (tail_within F on (λ t. X) (λ t. Y) C D (λ t. read) chain join)
    (tail_hands F on (λ t. X) (λ t. Y) C D (λ t. read) chain join) (λ a. record {
      more = [];
      value = a;
      fine
          = tt;
      reads = Done a;
    })
    (λ a. tail on (λ t. read) join (length a.1) a.0 a.1) (read ts) (comes ts)
    (λ a rest got. decides_tail F on (λ t. X) (λ t. Y) C D (λ t. read) chain join (length rest) a rest (omega arith))

-- What a part is joined with after a part that may go on so is such a part, if it reads the part and what joins it.
pub chained_reads : {T V : Type 0} (on : T → Bool) (join : T → V → V → V) (X H : Part T V)
    → ((u : List T) (a : V) → X u a → H u a)
    → ((u w : List T) (t : T) (a b : V) → H u a → on t ≡ true → X w b → H (u ++ (t ∷ w)) (join t a b))
    → (u : List T) (c : V) → Chained on join X u c → H u c
chained_reads on join X H one more u c h =
    subst (λ u. H u c) (sym h.joined) (go h.first h.second h.value c (one h.first h.value h.reads_first) h.reads_second)
  where
    go : (front u : List _) (a c : _) → H front a → Tail on (λ t. X) join a u c → H (front ++ u) c
    go front _ a _ h (Done _) = subst (λ u. H u a) (sym (append-nil front)) h
    go front _ a c h (More t _ _ b u w is reads rest) =
        subst (λ x. H x c) (append_assoc front (t ∷ u) w)
        (go (front ++ (t ∷ u)) w (join t a b) c (more front u t a b h is reads) rest)

-- A part alone is a chain, and so is a chain with one part more.
pub chained_one : {T V : Type 0} (on : T → Bool) (join : T → V → V → V) (X : Part T V) (u : List T) (a : V) → X u a
    → Chained on join X u a
chained_one on join X u a h = record {
  first = u;
  second = [];
  value = a;
  joined = sym (append-nil u);
  reads_first = h;
  reads_second = Done a;
}

pub chained_more : {T V : Type 0} (on : T → Bool) (join : T → V → V → V) (X : Part T V) (u w : List T) (t : T) (a b : V)
    → Chained on join X u a → on t ≡ true → X w b → Chained on join X (u ++ (t ∷ w)) (join t a b)
chained_more on join X u w t a b h is reads = record {
  first = h.first;
  second = h.second ++ (t ∷ w);
  value = h.value;
  joined = ap (λ u. u ++ (t ∷ w)) h.joined ∙ append_assoc h.first h.second (t ∷ w);
  reads_first = h.reads_first;
  reads_second = tail_last on (λ t. X) join h.value a h.second t w b h.reads_second is reads;
}
