-- How reading a part at the start of a text's tokens decides of the whole text.
-- Only proofs and contracts of private functions name it.
--
-- The parts read tokens of T, which may have places. What counts of a token is its kind, and a language is of kinds.
-- The last token of a text is one that stops it: its end, or bytes with which no token begins.
use Rattle.std.specs.Prelude.{◌≡◌, ◌⊎◌, Bool, true, false, List, [], ◌∷◌, ◌++◌, map, Some, refl}
use Rattle.std.specs.List.{AllByRecursion}
use Rattle.std.proofs.Common.{sym, ap, ◌∙◌, inl, inr, subst, true≢false}
use Rattle.std.proofs.lemmas.Option.{none-some, same_Some}
use mathlib.Core.List.{append_assoc, append-nil, append_cancel_left}
use Rattle.grammars.specs.Text.{Language, Begins, FirstWrong, Ended, next}
use Rattle.grammars.specs.Outcome.{Outcome, Got, Wrong, Deep}
use Rattle.grammars.specs.Sequence.{all_joined}
use Rattle.grammars.specs.Part.{Part, Goes, Alike, Completes, IsGot, Decides}

-- none of them stops a text
abbrev pub AreOpen : {K : Type 0} → (K → Bool) → List K → Type 0
AreOpen stops ks = AllByRecursion (λ k. stops k ≡ false) ks

-- Of a text with these tokens, the first wrong one is that with which the rest begins.
pub record WrongAt {T K : Type 0} (kind : T → K) (L : Language K) (ts rest : List T) : Type 0 where
  pub front : List T
  pub token : T
  pub behind : List T
  pub token_first : rest ≡ token ∷ behind
  pub split : ts ≡ front ++ rest
  pub first : FirstWrong L (map kind ts) (map kind front) (kind token) (map kind behind)

-- A language has the kinds of what the part reads, if its tokens can be written; what has such kinds reads as a
-- value; and none of its tokens stops a text.
pub record Speaks {T K V : Type 0} (kind : T → K) (place : K → T) (stops : K → Bool) (F : T → Type 0) (Z : Part T V)
    (L : Language K) : Type 0 where
  pub placed : (k : K) → kind (place k) ≡ k
  pub closed : (u : List T) (v : V) → AllByRecursion F u → Z u v → L (map kind u)
  pub opened : (u : List T) → L (map kind u) → (v : V) × Z u v
  pub clean : (ks : List K) → L ks → AreOpen stops ks

map_joined : {A B : Type 0} (f : A → B) (a b : List A) → map f (a ++ b) ≡ map f a ++ map f b
map_joined f [] b = refl
map_joined f (x ∷ a) b = ap (λ r. f x ∷ r) (map_joined f a b)

abbrev others : {T : Type 0} → List T → List T
others [] = []
others (t ∷ ts) = ts

-- a text that goes on after its prefix does so before its end
fronted : {K : Type 0} (stops : K → Bool) (end : K) (front : List K) (k : K) (us more : List K) → stops end ≡ true
    → AreOpen stops front → stops k ≡ false → front ++ (k ∷ more) ≡ us ++ (end ∷ [])
    → (rest : List K) × (us ≡ front ++ (k ∷ rest))
fronted stops end [] k [] more ends unstopped goes same =
    absurd (true≢false (sym ends ∙ ap stops (sym (same_Some k end (ap next same))) ∙ goes))
fronted stops end [] k (u ∷ us) more ends unstopped goes same =
    (us, ap (λ u. u ∷ us) (sym (same_Some k u (ap next same))))
fronted stops end (f ∷ front) k [] more ends unstopped goes same =
    absurd (true≢false (sym ends ∙ ap stops (sym (same_Some f end (ap next same))) ∙ unstopped.0))
fronted stops end (f ∷ front) k (u ∷ us) more ends unstopped goes same =
    let rest = fronted stops end front k us more ends unstopped.1 goes (ap others same) in
    (rest.0, ap (λ us. u ∷ us) rest.1 ∙ ap (λ u. u ∷ (front ++ (k ∷ rest.0))) (sym (same_Some f u (ap next same))))

-- and one that stops after its prefix is that prefix, and its end
ended : {K : Type 0} (stops : K → Bool) (end : K) (front us : List K) (last : K) (more : List K) → stops end ≡ true
    → AreOpen stops front → AreOpen stops us → stops last ≡ true → front ++ (last ∷ more) ≡ us ++ (end ∷ [])
    → (us ≡ front) × (last ≡ end)
ended stops end [] [] last more ends unstopped clean stop same = (refl, same_Some last end (ap next same))
ended stops end [] (u ∷ us) last more ends unstopped clean stop same =
    absurd (true≢false (sym stop ∙ ap stops (same_Some last u (ap next same)) ∙ clean.0))
ended stops end (f ∷ front) [] last more ends unstopped clean stop same =
    absurd (true≢false (sym ends ∙ ap stops (sym (same_Some f end (ap next same))) ∙ unstopped.0))
ended stops end (f ∷ front) (u ∷ us) last more ends unstopped clean stop same =
    let rest = ended stops end front us last more ends unstopped.1 clean.1 stop (ap others same) in
    (ap (λ us. u ∷ us) rest.0 ∙ ap (λ u. u ∷ front) (sym (same_Some f u (ap next same))), rest.1)

kinds_of_placed : {T K : Type 0} (kind : T → K) (place : K → T) → ((k : K) → kind (place k) ≡ k) → (ks : List K)
    → map kind (map place ks) ≡ ks
kinds_of_placed kind place placed [] = refl
kinds_of_placed kind place placed (k ∷ ks) =
    ap (λ k'. k' ∷ map kind (map place ks)) (placed k) ∙ ap (λ r. k ∷ r) (kinds_of_placed kind place placed ks)

all_front : {T : Type 0} (F : T → Type 0) (a b : List T) → AllByRecursion F (a ++ b) → AllByRecursion F a
all_front F [] b h = tt
all_front F (t ∷ a) b h = (h.0, all_front F a b h.1)

-- tokens of which none stops the text leave its last one
leaves_last : {T K : Type 0} (kind : T → K) (stops : K → Bool) (front rest good : List T) (last : T)
    → AreOpen stops (map kind front) → stops (kind last) ≡ true → good ++ (last ∷ []) ≡ front ++ rest
    → (t : T) × (behind : List T) × (rest ≡ t ∷ behind)
leaves_last kind stops [] rest [] last unstopped stop same = (last, [], sym same)
leaves_last kind stops [] rest (g ∷ good) last unstopped stop same = (g, good ++ (last ∷ []), sym same)
leaves_last kind stops (f ∷ front) rest [] last unstopped stop same =
    absurd (true≢false (sym stop ∙ ap (λ t. stops (kind t)) (same_Some last f (ap next same)) ∙ unstopped.0))
leaves_last kind stops (f ∷ front) rest (g ∷ good) last unstopped stop same =
    leaves_last kind stops front rest good last unstopped.1 stop (ap others same)

-- and are all but it, or fewer
within_good : {T K : Type 0} (kind : T → K) (stops : K → Bool) (F : T → Type 0) (front rest good : List T) (last : T)
    → AreOpen stops (map kind front) → stops (kind last) ≡ true → AllByRecursion F good
    → good ++ (last ∷ []) ≡ front ++ rest → AllByRecursion F front
within_good kind stops F [] rest good last unstopped stop fine same = tt
within_good kind stops F (f ∷ front) rest [] last unstopped stop fine same =
    absurd (true≢false (sym stop ∙ ap (λ t. stops (kind t)) (same_Some last f (ap next same)) ∙ unstopped.0))
within_good kind stops F (f ∷ front) rest (g ∷ good) last unstopped stop fine same = (
  subst F (same_Some g f (ap next same)) fine.0,
  within_good kind stops F front rest good last unstopped.1 stop fine.1 (ap others same),
)

module _ {T K V : Type 0} (kind : T → K) (place : K → T) (stops : K → Bool) (end : K) (ends : stops end ≡ true)
    (F : T → Type 0) (Z : Part T V) (L : Language K) (speaks : Speaks kind place stops F Z L) where
  -- a prefix that completes to the part begins a text, and no token of it stops one
  begins_text : (front : List T) → AllByRecursion F front → Completes F Z front → Begins (Ended L end) (map kind front)
  begins_text front fine h = (
    map kind h.more ++ (end ∷ []),
    record {
      before = map kind (front ++ h.more);
      all = sym (append_assoc (map kind front) (map kind h.more) (end ∷ []))
          ∙ ap (λ a. a ++ (end ∷ [])) (sym (map_joined kind front h.more));
      text = speaks.closed (front ++ h.more) h.value (all_joined F front h.more fine h.fine) h.reads;
    },
  )

  -- no part stands at the start of tokens that go on as these do
  NoneGoesOn : List T → T → Type 0
  NoneGoesOn front t = (u r : List T) (v : V) → Z u v → Alike front (t ∷ []) (u ++ r)
      → ((stops (kind t) ≡ true) × (r ≡ t ∷ []) × (kind t ≡ end)) ⊎ (r ≡ []) → ⊥

  none_text : (front : List T) (t : T) (b : Bool) → stops (kind t) ≡ b → AreOpen stops (map kind front)
      → NoneGoesOn front t → Begins (Ended L end) (map kind front ++ (kind t ∷ [])) → ⊥
  unfolding NoneGoesOn
  none_text front t true stop unstopped none h =
      let whole = h.1 in
      let found = ended stops end (map kind front) whole.before (kind t) h.0 ends unstopped
      (speaks.clean whole.before whole.text)
      stop (sym (append_assoc (map kind front) (kind t ∷ []) h.0) ∙ whole.all) in
      let reads = speaks.opened front (subst L found.0 whole.text) in
      none front (t ∷ []) reads.0 reads.1 (record { tail = t ∷ []; split = refl; same = refl })
      (inl (stop, refl, found.1))
  none_text front t false stop unstopped none h =
      let whole = h.1 in
      let found = fronted stops end (map kind front) (kind t) whole.before h.0 ends unstopped stop
      (sym (append_assoc (map kind front) (kind t ∷ []) h.0) ∙ whole.all) in
      let u : List T = front ++ (t ∷ map place found.0) in
      let kinds : whole.before ≡ map kind u = found.1
      ∙ ap (λ r. map kind front ++ (kind t ∷ r)) (sym (kinds_of_placed kind place speaks.placed found.0))
      ∙ sym (map_joined kind front (t ∷ map place found.0)) in
      let reads = speaks.opened u (subst L kinds whole.text) in
      none u [] reads.0 reads.1 (record { tail = t ∷ map place found.0; split = append-nil u; same = refl }) (inr refl)

  -- the first wrong token, where a prefix of the part is followed by what no part goes on with
  wrong_at : (ts front rest : List T) (t : T) (behind : List T) → rest ≡ t ∷ behind → ts ≡ front ++ rest
      → AllByRecursion F front → AreOpen stops (map kind front) → Completes F Z front
      → ((u r : List T) (v : V) → Z u v → Alike front (t ∷ []) (u ++ r)
      → ((stops (kind t) ≡ true) × (r ≡ t ∷ []) × (kind t ≡ end)) ⊎ (r ≡ []) → ⊥)
      → WrongAt kind (Ended L end) ts rest
  unfolding NoneGoesOn
  wrong_at ts front rest t behind first split fine unstopped begins none = record {
    front = front;
    token = t;
    behind = behind;
    token_first = first;
    split = split;
    first = record {
      split = ap (map kind) (split ∙ ap (λ r. front ++ r) first) ∙ map_joined kind front (t ∷ behind);
      before = begins_text front fine begins;
      none = none_text front t (stops (kind t)) refl unstopped none;
    };
  }

-- ---- what reading at the start says of the text

-- All tokens but the last read as this value, and as no other.
pub record IsWhole {T V : Type 0} (X Y : Part T V) (ts : List T) (last : T) (v : V) : Type 0 where
  pub before : List T
  pub split : ts ≡ before ++ (last ∷ [])
  pub reads : X before v
  pub one : (x : V) → Y before x → x ≡ v

-- The first token with which no text within the bound goes on is one with which a text without it does.
pub record DeepAt {T K : Type 0} (kind : T → K) (bounded free : Language K) (ts rest : List T) : Type 0 where
  pub wrong : WrongAt kind bounded ts rest
  pub begins : Begins free (map kind wrong.front ++ (kind wrong.token ∷ []))

-- after what was got stands the text's end, or the first wrong token
pub record GotAt {T K V : Type 0} (kind : T → K) (X Y : Part T V) (end : K) (free : Language K) (ts : List T) (v : V)
    (rest : List T) : Type 0 where
  pub token : T
  pub behind : List T
  pub token_first : rest ≡ token ∷ behind
  pub whole : kind token ≡ end → IsWhole X Y ts token v
  pub wrong : (kind token ≡ end → ⊥) → WrongAt kind free ts rest

-- what reading the part came to says of the text
abbrev pub Verdict : {T K V : Type 0} → (T → K) → (X Y : Part T V) → K → (bounded free : Language K) → List T
    → Outcome T V → Type 0
Verdict kind X Y end bounded free ts (Got v rest) = GotAt kind X Y end free ts v rest
Verdict kind X Y end bounded free ts (Wrong rest) = WrongAt kind free ts rest
Verdict kind X Y end bounded free ts (Deep rest) = DeepAt kind bounded free ts rest

longer_not : {T : Type 0} (u tail : List T) (t : T) → next tail ≡ Some t → u ++ tail ≡ u → ⊥
longer_not u [] t first same = none-some t first
longer_not u (x ∷ tail) t first same =
    none-some x (sym (ap next (append_cancel_left u (x ∷ tail) [] (same ∙ sym (append-nil u)))))

-- a token that stops the text is the last one
ends_here : {T K : Type 0} (kind : T → K) (stops : K → Bool) (F : T → Type 0) (front good : List T) (last t : T)
    (behind : List T) → ((t : T) → F t → stops (kind t) ≡ false) → AllByRecursion F good → stops (kind t) ≡ true
    → AreOpen stops (map kind front) → stops (kind last) ≡ true → good ++ (last ∷ []) ≡ front ++ (t ∷ behind)
    → behind ≡ []
ends_here kind stops F [] [] last t behind plain fine stop unstopped ends same = sym (ap others same)
ends_here kind stops F [] (g ∷ good) last t behind plain fine stop unstopped ends same =
    absurd (true≢false (sym stop ∙ ap (λ t. stops (kind t)) (sym (same_Some g t (ap next same))) ∙ plain g fine.0))
ends_here kind stops F (f ∷ front) [] last t behind plain fine stop unstopped ends same =
    absurd (true≢false (sym ends ∙ ap (λ t. stops (kind t)) (same_Some last f (ap next same)) ∙ unstopped.0))
ends_here kind stops F (f ∷ front) (g ∷ good) last t behind plain fine stop unstopped ends same =
    ends_here kind stops F front good last t behind plain fine.1 stop unstopped.1 ends (ap others same)

-- a prefix of tokens that do not stop a text
unstopped_front : {T K : Type 0} (kind : T → K) (stops : K → Bool) (a b : List T) → AreOpen stops (map kind (a ++ b))
    → AreOpen stops (map kind a)
unstopped_front kind stops [] b h = tt
unstopped_front kind stops (t ∷ a) b h = (h.0, unstopped_front kind stops a b h.1)

-- What a text's tokens are like, and the parts that they are read by.
pub record IsRead {T K V : Type 0} (kind : T → K) (place : K → T) (stops : K → Bool) (end : K) (F : T → Type 0)
    (X Y : Part T V) (C : T → Type 0) (bounded free : Language K) : Type 0 where
  pub ends : stops end ≡ true
  pub plain : (t : T) → F t → stops (kind t) ≡ false
  pub within : (u : List T) (v : V) → X u v → Y u v
  pub clean : (u : List T) (v : V) → Y u v → AreOpen stops (map kind u)
  pub goes : (t : T) → C t → stops (kind t) ≡ false
  pub speaks_bounded : Speaks kind place stops F X bounded
  pub speaks_free : Speaks kind place stops F Y free

module _ {T K V : Type 0} (kind : T → K) (place : K → T) (stops : K → Bool) (end : K) (F : T → Type 0) (X Y : Part T V)
    (C : T → Type 0) (bounded free : Language K) (is : IsRead kind place stops end F X Y C bounded free) (good : List T)
    (last : T) (fine : AllByRecursion F good) (stop : stops (kind last) ≡ true) where
  completes_free : (front : List T) → Completes F X front → Completes F Y front
  completes_free front h = record {
    more = h.more;
    value = h.value;
    fine = h.fine;
    reads = is.within (front ++ h.more) h.value h.reads;
  }

  got_completes : (v : V) (used : List T) → X used v → Completes F X used
  got_completes v used reads = record {
    more = [];
    value = v;
    fine = tt;
    reads = subst (λ u. X u v) (sym (append-nil used)) reads;
  }

  unstopped_completed : (front : List T) → Completes F X front → AreOpen stops (map kind front)
  unstopped_completed front h = unstopped_front kind stops front h.more
      (is.clean (front ++ h.more) h.value (is.within (front ++ h.more) h.value h.reads))

  -- what could have gone on does not, at the end of a text
  no_more : (t : T) (r : List T) → ((stops (kind t) ≡ true) × (r ≡ t ∷ []) × (kind t ≡ end)) ⊎ (r ≡ []) → Goes C r → ⊥
  no_more t r (inl h) goes = true≢false (sym h.0 ∙ is.goes t (subst (Goes C) h.1 goes))
  no_more t r (inr h) goes = subst (Goes C) h goes

  alike_rest : (front rest w : List T) (t : T) (behind : List T) → rest ≡ t ∷ behind → Alike front (t ∷ []) w
      → Alike front rest w
  alike_rest front rest w t behind first h =
      record { tail = h.tail; split = h.split; same = h.same ∙ sym (ap next first) }

  wrong_free : (front rest : List T) → good ++ (last ∷ []) ≡ front ++ rest → Completes F X front
      → ((t : T) (behind : List T) → rest ≡ t ∷ behind → (u r : List T) (v : V) → Y u v → Alike front (t ∷ []) (u ++ r)
      → ((stops (kind t) ≡ true) × (r ≡ t ∷ []) × (kind t ≡ end)) ⊎ (r ≡ []) → ⊥)
      → WrongAt kind (Ended free end) (good ++ (last ∷ [])) rest
  wrong_free front rest split begins none =
      let unstopped = unstopped_completed front begins in
      let left = leaves_last kind stops front rest good last unstopped stop split in
      wrong_at kind place stops end is.ends F Y free is.speaks_free (good ++
      (last ∷ [])) front rest left.0 left.1 left.2
      split (within_good kind stops F front rest good last unstopped stop fine split) unstopped
      (completes_free front begins) (none left.0 left.1 left.2)

  got_at : (v : V) (rest : List T) → IsGot X Y C (good ++ (last ∷ [])) v rest
      → GotAt kind X Y end (Ended free end) (good ++ (last ∷ [])) v rest
  got_at v rest h =
      let begins = got_completes v h.used h.reads in
      let unstopped = unstopped_completed h.used begins in
      let left = leaves_last kind stops h.used rest good last unstopped stop h.split in
      record {
        token = left.0;
        behind = left.1;
        token_first = left.2;
        whole = λ ends.
            let halts : stops (kind left.0) ≡ true = ap stops ends ∙ is.ends in
            let split = h.split ∙ ap (λ r. h.used ++ r) left.2 in
            let none = ends_here kind stops F h.used good last left.0 left.1 is.plain fine halts unstopped stop split in
            record {
              before = h.used;
              split = split ∙ ap (λ b. h.used ++ (left.0 ∷ b)) none;
              reads = h.reads;
              one = λ x reads. elim (h.sure h.used (left.0 ∷ []) x reads
                  (record { tail = left.0 ∷ []; split = refl; same = sym (ap next left.2) })) [
                    | inl one ↦ one.1
                    | inr goes ↦ absurd (true≢false (sym halts ∙ is.goes left.0 goes))
                  ];
            };
        wrong = λ not. wrong_free h.used rest h.split begins (λ t behind first u r x reads alike how.
            elim (h.sure u r x reads (alike_rest h.used rest (u ++ r) t behind first alike)) [
              | inl one ↦ early not t behind first u r alike how one.0
              | inr goes ↦ no_more t r how goes
            ]);
      }
    where
      early : (kind (leaves_last kind stops h.used rest good last (unstopped_completed h.used
          (got_completes v h.used h.reads))
          stop h.split).0 ≡ end → ⊥) → (t : T) (behind : List T) → rest ≡ t ∷ behind → (u r : List T)
          → Alike h.used (t ∷ []) (u ++ r) → ((stops (kind t) ≡ true) × (r ≡ t ∷ []) × (kind t ≡ end)) ⊎ (r ≡ [])
          → u ≡ h.used → ⊥
      early not t behind first u r alike (inl how) one = not (ap kind (same_Some _ t (ap next
          (sym (leaves_last kind stops h.used rest good last (unstopped_completed h.used
          (got_completes v h.used h.reads))
          stop h.split).2 ∙ first))) ∙ how.2)
      early not t behind first u r alike (inr how) one =
          longer_not h.used alike.tail t alike.same (sym alike.split ∙ ap (λ r. u ++ r) how ∙ append-nil u ∙ one)

  -- What reading a part comes to gives the verdict on the text.
  pub decides_text : (o : Outcome T V) → Decides F X Y C (good ++ (last ∷ [])) o
      → Verdict kind X Y end (Ended bounded end) (Ended free end) (good ++ (last ∷ [])) o
  unfolding wrong_at
  decides_text (Got v rest) h = got_at v rest h
  decides_text (Wrong rest) h = wrong_free h.front rest h.split h.begins (λ t behind first u r x reads alike how.
      no_more t r how (h.none u r x reads (alike_rest h.front rest (u ++ r) t behind first alike)))
  decides_text (Deep rest) h =
      let unstopped = unstopped_completed h.front h.begins in
      let fine_front = within_good kind stops F h.front rest good last unstopped stop fine h.split in
      record {
        wrong = wrong_at kind place stops end is.ends F X bounded is.speaks_bounded (good ++
            (last ∷ [])) h.front rest h.token
            h.behind h.token_first h.split fine_front unstopped h.begins (λ u r x reads alike how.
            no_more h.token r how (h.none u r x reads
            (alike_rest h.front rest (u ++ r) h.token h.behind h.token_first alike)));
        begins = subst (Begins (Ended free end)) (map_joined kind h.front (h.token ∷ []))
            (begins_text kind place stops end is.ends F Y free is.speaks_free (h.front ++
            (h.token ∷ [])) fine_token h.deeper);
      }
    where
      fine_token : AllByRecursion F (h.front ++ (h.token ∷ []))
      fine_token = within_good kind stops F (h.front ++ (h.token ∷ [])) h.behind good last
          (unstopped_front kind stops (h.front ++ (h.token ∷ [])) h.deeper.more
          (is.clean ((h.front ++ (h.token ∷ [])) ++ h.deeper.more) h.deeper.value h.deeper.reads)) stop fine
          (h.split ∙ ap (λ r. h.front ++ r) h.token_first ∙ sym (append_assoc h.front (h.token ∷ []) h.behind))
