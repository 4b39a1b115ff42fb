-- Parts that repeat and are gathered into a value of another kind: a list of them, say.
-- Only proofs and contracts of private functions name it.
use Rattle.std.specs.Prelude.{◌≡◌, Bool, true, List, [], ◌∷◌, ◌++◌, length, Option}
use Rattle.std.proofs.Common.{sym, ap, ◌∙◌, subst, arith}
use mathlib.Core.List.{append_assoc, append-nil}
use Rattle.grammars.specs.Outcome.{Outcome, ◌>>=◌}
use Rattle.grammars.specs.Part.{Part, Completes, Decides}
use Rattle.grammars.specs.Sequence.{Then, Within, decides_then}
use Rattle.grammars.specs.Heads.{Covers, Example, expect}
use Rattle.grammars.specs.Bits.{Opened, decides_opened}
use Rattle.grammars.specs.Chain.{Tail, Done, More, tail, tail_last, IsChain, decides_tail, tail_within, tail_hands}
use Rattle.grammars.specs.Examples.{some_then, chosen, chosen_is, is_chosen}
use Rattle.grammars.specs.Taken.{opened_of, opened_is}

-- A first part, of which a value is made, and then a chain that joins the others to it.
abbrev pub Gathered : {T V A : Type 0} → (on : T → Bool) → (start : V → A) → (join : T → A → V → A) → Part T V
    → (T → Part T V) → Part T A
Gathered on start join First X = Then First (λ v. Tail on X join (start v))

-- reading it
abbrev pub gathered : {T V A : Type 0} → (on : T → Bool) → (start : V → A) → (join : T → A → V → A)
    → (List T → Outcome T V) → (T → List T → Outcome T V) → List T → Outcome T A
gathered on start join first read ts = first ts >>= λ a. tail on read join (length a.1) (start a.0) a.1

pub some_gathered : {T V A : Type 0} (F : T → Type 0) (on : T → Bool) (start : V → A) (join : T → A → V → A)
    (First : Part T V) (X : T → Part T V) → Completes F First [] → Completes F (Gathered on start join First X) []
some_gathered F on start join First X some = some_then F First (λ v. Tail on X join (start v)) some
    (λ v. record { more = []; value = start v; fine = tt; reads = Done (start v) })

-- Where the first part and those of the chain come out, so does what is gathered.
pub decides_gathered : {T V A : Type 0} (F : T → Type 0) (on : T → Bool) (start : V → A) (join : T → A → V → A)
    (First Free : Part T V) (X Y : T → Part T V) (C D : T → Type 0) (first : List T → Outcome T V)
    (read : T → List T → Outcome T V) → IsChain F on X Y C D read → Within First Free
    → ((ts : List T) → Decides F First Free C ts (first ts)) → (ts : List T)
    → Decides F (Gathered on start join First X) (Gathered on start join Free Y) D ts
    (gathered on start join first read ts)
decides_gathered F on start join First Free X Y C D first read chain within comes ts =
    decides_then F First Free (λ v. Tail on X join (start v)) (λ v. Tail on Y join (start v)) C D ts within
    (λ v. tail_within F on X Y C D read chain join (start v))
    (λ v. tail_hands F on X Y C D read chain join (start v))
    (λ v. record { more = []; value = start v; fine = tt; reads = Done (start v) })
    (λ a. tail on read join (length a.1) (start a.0) a.1) (first ts) (comes ts)
    (λ v rest got. decides_tail F on X Y C D read chain join (length rest) (start v) rest (omega arith))

-- What is gathered is such a part, if that reads the first part, and one more part after it.
pub gathered_reads : {T V A : Type 0} (on : T → Bool) (start : V → A) (join : T → A → V → A) (First : Part T V)
    (X : T → Part T V) (H : Part T A) → ((u : List T) (v : V) → First u v → H u (start v))
    → ((u w : List T) (t : T) (a : A) (b : V) → H u a → on t ≡ true → X t w b → H (u ++ (t ∷ w)) (join t a b))
    → Within (Gathered on start join First X) H
gathered_reads on start join First X H one more u c h =
    subst (λ u. H u c) (sym h.joined)
    (go h.first h.second (start h.value) c (one h.first h.value h.reads_first) h.reads_second)
  where
    go : (front u : List _) (a c : _) → H front a → Tail on X join a u c → H (front ++ u) c
    go front _ a _ h (Done _) = subst (λ u. H u a) (sym (append-nil front)) h
    go front _ a c h (More t _ _ b u w is reads rest) =
        subst (λ x. H x c) (append_assoc front (t ∷ u) w)
        (go (front ++ (t ∷ u)) w (join t a b) c (more front u t a b h is reads) rest)

-- The first part alone is gathered, and so is what was gathered with one part more.
pub gathered_one : {T V A : Type 0} (on : T → Bool) (start : V → A) (join : T → A → V → A) (First : Part T V)
    (X : T → Part T V) (u : List T) (v : V) → First u v → Gathered on start join First X u (start v)
gathered_one on start join First X u v h = record {
  first = u;
  second = [];
  value = v;
  joined = sym (append-nil u);
  reads_first = h;
  reads_second = Done (start v);
}

pub gathered_more : {T V A : Type 0} (on : T → Bool) (start : V → A) (join : T → A → V → A) (First : Part T V)
    (X : T → Part T V) (u w : List T) (t : T) (a : A) (b : V) → Gathered on start join First X u a → on t ≡ true
    → X t w b → Gathered on start join First X (u ++ (t ∷ w)) (join t a b)
gathered_more on start join First X u w t a b h is reads = record {
  first = h.first;
  second = h.second ++ (t ∷ w);
  value = h.value;
  joined = ap (λ u. u ++ (t ∷ w)) h.joined ∙ append_assoc h.first h.second (t ∷ w);
  reads_first = h.reads_first;
  reads_second = tail_last on X join (start h.value) a h.second t w b h.reads_second is reads;
}

-- ---- lists

abbrev pub one_item : {V : Type 0} → V → List V
one_item v = v ∷ []

abbrev pub and_item : {T V : Type 0} → T → List V → V → List V
and_item t items v = items ++ (v ∷ [])

-- one part and more of it, each after a token that says so
abbrev pub Separated : {T V : Type 0} → (T → Bool) → Part T V → Part T (List V)
Separated on X = Gathered on one_item and_item X (λ t. X)

abbrev pub separated : {T V : Type 0} → (T → Bool) → (List T → Outcome T V) → List T → Outcome T (List V)
separated on read = gathered on one_item and_item read (λ t. read)

pub separated_within : {T V : Type 0} (on : T → Bool) (X Y : Part T V) → Within X Y
    → Within (Separated on X) (Separated on Y)
separated_within on X Y within = gathered_reads on one_item and_item X (λ t. X) (Separated on Y)
    (λ u v h. gathered_one on one_item and_item Y (λ t. Y) u v (within u v h))
    (λ u w t a b h is k. gathered_more on one_item and_item Y (λ t. Y) u w t a b h is (within w b k))

-- parts each of which begins with a token that says so, one at least
abbrev pub Repeated : {T V : Type 0} → (T → Bool) → (T → Part T V) → Part T (List V)
Repeated on X = Gathered on one_item and_item (Opened (chosen on) X) X

abbrev pub repeated : {T V : Type 0} → (T → Bool) → (T → List T → Outcome T V) → List T → Outcome T (List V)
repeated on read = gathered on one_item and_item (λ ts. expect (chosen on) ts >>= λ t. read t.0 t.1) read

pub decides_separated : {T V : Type 0} (F : T → Type 0) (on : T → Bool) (X Y : Part T V) (C D : T → Type 0)
    (read : List T → Outcome T V) → Within X Y → Completes F X [] → ((t : T) → on t ≡ true → C t → ⊥) → Covers C D
    → ((t : T) → on t ≡ true → D t) → ((ts : List T) → Decides F X Y C ts (read ts)) → (ts : List T)
    → Decides F (Separated on X) (Separated on Y) D ts (separated on read ts)
decides_separated F on X Y C D read within some apart covers ons comes =
    decides_gathered F on one_item and_item X Y (λ t. X) (λ t. Y) C D read (λ t. read) (record {
      within = λ t. within;
      some = λ t is. some;
      apart = apart;
      covers = covers;
      ons = ons;
      reads = λ t ts is. comes ts;
    }) within comes

pub opened_within : {T V E : Type 0} (meaning : T → Option E) (X Y : E → Part T V) → ((e : E) → Within (X e) (Y e))
    → Within (Opened meaning X) (Opened meaning Y)
opened_within meaning X Y within u v h = record {
  first = h.first;
  second = h.second;
  value = h.value;
  joined = h.joined;
  reads_first = h.reads_first;
  reads_second = within h.value h.second v h.reads_second;
}

pub repeated_within : {T V : Type 0} (on : T → Bool) (X Y : T → Part T V) → ((t : T) → Within (X t) (Y t))
    → Within (Repeated on X) (Repeated on Y)
repeated_within on X Y within = gathered_reads on one_item and_item (Opened (chosen on) X) X (Repeated on Y)
    (λ u v h. gathered_one on one_item and_item (Opened (chosen on) Y) Y u v
    (opened_within (chosen on) X Y within u v h))
    (λ u w t a b h is k. gathered_more on one_item and_item (Opened (chosen on) Y) Y u w t a b h is (within t w b k))

pub decides_repeated : {T V : Type 0} (F : T → Type 0) (on : T → Bool) (X Y : T → Part T V) (C D : T → Type 0)
    (read : T → List T → Outcome T V) → Example F (chosen on) → IsChain F on X Y C D read
    → ((t : T) → Completes F (X t) [])
    → ((t : T) (ts : List T) → Decides F (X t) (Y t) C ts (read t ts)) → (ts : List T)
    → Decides F (Repeated on X) (Repeated on Y) D ts (repeated on read ts)
decides_repeated F on X Y C D read example chain some comes =
    decides_gathered F on one_item and_item (Opened (chosen on) X) (Opened (chosen on) Y) X Y C D
    (λ ts. expect (chosen on) ts >>= λ t. read t.0 t.1) read chain (opened_within (chosen on) X Y chain.within)
    (λ ts. decides_opened F (chosen on) example X Y C ts chain.within some (λ t. read t.0 t.1)
    (λ t rest. comes t rest))

-- What is repeated is such a list, if that has one part alone, and one part more.
pub repeated_reads : {T V : Type 0} (on : T → Bool) (X : T → Part T V) (H : Part T (List V))
    → ((t : T) (w : List T) (v : V) → on t ≡ true → X t w v → H (t ∷ w) (v ∷ []))
    → ((u w : List T) (t : T) (items : List V) (v : V) → H u items → on t ≡ true → X t w v
    → H (u ++ (t ∷ w)) (items ++ (v ∷ [])))
    → Within (Repeated on X) H
repeated_reads on X H one more = gathered_reads on one_item and_item (Opened (chosen on) X) X H first more
  where
    first : (u : List _) (v : _) → Opened (chosen on) X u v → H u (v ∷ [])
    first u v h =
        let o = opened_is (chosen on) X u v h in
        let is = chosen_is on o.token o.means_as o.means in
        subst (λ u. H u (v ∷ [])) (sym o.all)
        (one o.token o.behind v is.0 (subst (λ t. X t o.behind v) (sym is.1) o.reads))

pub repeated_one : {T V : Type 0} (on : T → Bool) (X : T → Part T V) (t : T) (w : List T) (v : V) → on t ≡ true
    → X t w v → Repeated on X (t ∷ w) (v ∷ [])
repeated_one on X t w v is h = gathered_one on one_item and_item (Opened (chosen on) X) X (t ∷ w) v
    (opened_of (chosen on) X t t w v (is_chosen on t is) h)

pub repeated_more : {T V : Type 0} (on : T → Bool) (X : T → Part T V) (u w : List T) (t : T) (items : List V) (v : V)
    → Repeated on X u items → on t ≡ true → X t w v → Repeated on X (u ++ (t ∷ w)) (items ++ (v ∷ []))
repeated_more on X u w t items v h is k =
    gathered_more on one_item and_item (Opened (chosen on) X) X u w t items v h is k

-- a part that begins with a token that says so
pub record Led {T V : Type 0} (on : T → Bool) (X : T → Part T V) (u : List T) (v : V) : Type 0 where
  pub token : T
  pub behind : List T
  pub all : u ≡ token ∷ behind
  pub begins : on token ≡ true
  pub reads : X token behind v

pub led_one : {T V : Type 0} (on : T → Bool) (X : T → Part T V) (u : List T) (v : V) → Led on X u v
    → Repeated on X u (v ∷ [])
led_one on X u v h =
    subst (λ u. Repeated on X u (v ∷ [])) (sym h.all) (repeated_one on X h.token h.behind v h.begins h.reads)

pub led_more : {T V : Type 0} (on : T → Bool) (X : T → Part T V) (u w : List T) (items : List V) (v : V)
    → Repeated on X u items → Led on X w v → Repeated on X (u ++ w) (items ++ (v ∷ []))
led_more on X u w items v h k =
    subst (λ w. Repeated on X (u ++ w) (items ++ (v ∷ []))) (sym k.all)
    (repeated_more on X u k.behind k.token items v h k.begins k.reads)
