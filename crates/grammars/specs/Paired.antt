-- A part, and then one more of it at most, after a token that says so.
-- Only proofs and contracts of private functions name it.
use Rattle.std.specs.Prelude.{◌≡◌, Bool, true, List, [], ◌∷◌, ◌++◌, refl}
use Rattle.std.proofs.Common.{sym, subst}
use mathlib.Core.List.{append-nil}
use Rattle.grammars.specs.Outcome.{Outcome, ◌>>=◌}
use Rattle.grammars.specs.Part.{Part, Completes, Decides}
use Rattle.grammars.specs.Heads.{goes_over}
use Rattle.grammars.specs.Sequence.{Then, Within, HandsOn, decides_then}
use Rattle.grammars.specs.Chain.{IsChain}
use Rattle.grammars.specs.Once.{Once, Not, One, once, decides_once}

pub some_once : {T V A : Type 0} (F : T → Type 0) (on : T → Bool) (X : T → Part T V) (join : T → A → V → A) (a : A)
    → Completes F (Once on X join a) []
some_once F on X join a = record { more = []; value = a; fine = tt; reads = Not a }

pub once_within : {T V A : Type 0} (on : T → Bool) (X Y : T → Part T V) (join : T → A → V → A)
    → ((t : T) → Within (X t) (Y t)) → (a : A) → Within (Once on X join a) (Once on Y join a)
once_within on X Y join within a _ _ (Not _) = Not a
once_within on X Y join within a _ _ (One t _ b u is h) = One t a b u is (within t u b h)

pub once_hands : {T V A : Type 0} (F : T → Type 0) (on : T → Bool) (X Y : T → Part T V) (C D : T → Type 0)
    (read : T → List T → Outcome T V) → IsChain F on X Y C D read → (join : T → A → V → A) → (a : A)
    → HandsOn C D (Once on Y join a)
once_hands F on X Y C D read chain join a u r c (Not _) goes = goes_over C D chain.covers r goes
once_hands F on X Y C D read chain join a u r c (One t _ b w is h) goes = absurd (chain.apart t is goes)

abbrev pub Paired : {T V : Type 0} → (on : T → Bool) → (join : T → V → V → V) → Part T V → Part T V
Paired on join X = Then X (Once on (λ t. X) join)

-- reading it
abbrev pub paired : {T V : Type 0} → (on : T → Bool) → (join : T → V → V → V) → (List T → Outcome T V) → List T
    → Outcome T V
paired on join read ts = read ts >>= λ a. once on (λ t. read) join a.0 a.1

-- Where the part comes out, so does one with perhaps another after it.
pub decides_paired : {T V : Type 0} (F : T → Type 0) (on : T → Bool) (X Y : Part T V) (C D : T → Type 0)
    (read : List T → Outcome T V) (join : T → V → V → V) → IsChain F on (λ t. X) (λ t. Y) C D (λ t. read) → Within X Y
    → ((ts : List T) → Decides F X Y C ts (read ts)) → (ts : List T)
    → Decides F (Paired on join X) (Paired on join Y) D ts (paired on join read ts)
decides_paired F on X Y C D read join chain within comes ts =
    decides_then F X Y (Once on (λ t. X) join) (Once on (λ t. Y) join) C D ts within
    (once_within on (λ t. X) (λ t. Y) join (λ t. within))
    (once_hands F on (λ t. X) (λ t. Y) C D (λ t. read) chain join) (some_once F on (λ t. X) join)
    (λ a. once on (λ t. read) join a.0 a.1) (read ts) (comes ts)
    (λ a rest got. decides_once F on (λ t. X) (λ t. Y) C D (λ t. read) chain join a rest)

-- What is paired is such a part, if that reads the part alone, and two of them.
pub paired_reads : {T V : Type 0} (on : T → Bool) (join : T → V → V → V) (X H : Part T V) → Within X H
    → ((u w : List T) (t : T) (a b : V) → X u a → on t ≡ true → X w b → H (u ++ (t ∷ w)) (join t a b))
    → Within (Paired on join X) H
paired_reads on join X H one two u c h =
    subst (λ u. H u c) (sym h.joined) (go h.first h.second h.value c h.reads_first h.reads_second)
  where
    go : (front u : List _) (a c : _) → X front a → Once on (λ t. X) join a u c → H (front ++ u) c
    go front _ a _ h (Not _) = subst (λ u. H u a) (sym (append-nil front)) (one front a h)
    go front _ a _ h (One t _ b w is k) = two front w t a b h is k

pub paired_one : {T V : Type 0} (on : T → Bool) (join : T → V → V → V) (X : Part T V) → Within X (Paired on join X)
paired_one on join X u a h = record {
  first = u;
  second = [];
  value = a;
  joined = sym (append-nil u);
  reads_first = h;
  reads_second = Not a;
}

pub paired_two : {T V : Type 0} (on : T → Bool) (join : T → V → V → V) (X : Part T V) (u w : List T) (t : T) (a b : V)
    → X u a → on t ≡ true → X w b → Paired on join X (u ++ (t ∷ w)) (join t a b)
paired_two on join X u w t a b h is k = record {
  first = u;
  second = t ∷ w;
  value = a;
  joined = refl;
  reads_first = h;
  reads_second = One t a b w is k;
}
