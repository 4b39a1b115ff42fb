-- Readers made of readers, each of which is right where its parts are.
use Rattle.std.proofs.Common.{◌≡◌, ℕ, suc, ◌+◌, ◌≤◌, List, [], ◌∷◌, ◌++◌, length, Result, Ok, Err, refl, sym, ap, subst, ◌∙◌, append_assoc, inl, inr, arith}
use Rattle.std.specs.Prelude.{OnOk}
use Rattle.std.proofs.lemmas.List.{length-append}
use Rattle.wire.specs.declared.fault.DataKind.{DataKind}
use Rattle.wire.specs.Spelling.{AreBytes}
use Rattle.wire.specs.declared.fault.DataFault.{DataFault}
use Rattle.wire.specs.Places.{Place, Fault, Reading, Reads, ◌>>=◌, moved}
use Rattle.wire.specs.FirstFault.{Faults, BehindValue, Either, NoFault}
use Rattle.wire.specs.Readers.{Passes, Answers, fault_at, IsReader}

-- ---- places

AreBytes-behind : (front rest : List ℕ) → AreBytes (front ++ rest) → AreBytes rest
AreBytes-behind [] rest h = h
AreBytes-behind (b ∷ front) rest h = AreBytes-behind front rest (λ i. h (suc i))

pub Passes-bytes : (p : Place) (front : List ℕ) (q : Place) → Passes p front q → AreBytes p.rest → AreBytes q.rest
Passes-bytes p front q m h = AreBytes-behind front q.rest (subst AreBytes m.bytes h)

pub Passes-then : (p : Place) (a : List ℕ) (q : Place) (b : List ℕ) (r : Place) → Passes p a q → Passes q b r → Passes p (a ++ b) r
Passes-then p a q b r m n = record {
  bytes = m.bytes ∙ ap (λ (x : List ℕ). a ++ x) n.bytes ∙ sym (append_assoc a b r.rest);
  at = omega (arith, m.at, n.at, length-append a b);
}

pub Passes-none : (p : Place) → Passes p [] p
Passes-none p = record { bytes = refl; at = omega arith }

-- the place after so many bytes
abbrev pub behind : Place → List ℕ → List ℕ → Place
behind p front rest = record { at = p.at + length front; rest = rest }

pub Passes-behind : (p : Place) (front rest : List ℕ) → p.rest ≡ front ++ rest → Passes p front (behind p front rest)
Passes-behind p front rest e = record { bytes = e; at = refl }

-- two parts of what is passed
pub Passes-first : (p : Place) (a b : List ℕ) (q : Place) → Passes p (a ++ b) q → Passes p a (behind p a (b ++ q.rest))
Passes-first p a b q m = Passes-behind p a (b ++ q.rest) (m.bytes ∙ append_assoc a b q.rest)

pub Passes-second : (p : Place) (a b : List ℕ) (q : Place) → Passes p (a ++ b) q → Passes (behind p a (b ++ q.rest)) b q
Passes-second p a b q m = record { bytes = refl; at = omega (arith, m.at, length-append a b) }

place_at : ℕ → List ℕ → Place
place_at at rest = record { at = at; rest = rest }

pub place_is : (p q : Place) → p.at ≡ q.at → p.rest ≡ q.rest → p ≡ q
unfolding place_at
place_is p q at rest = ap (λ (n : ℕ). place_at n p.rest) at ∙ ap (λ (r : List ℕ). place_at q.at r) rest

-- to where bytes of which these are the front are passed
pub Passes-moved : (p : Place) (front rest : List ℕ) → p.rest ≡ front ++ rest → Passes p front (moved p rest)
Passes-moved p front rest e = record { bytes = e; at = omega (arith, ap length e, length-append front rest) }

pub moved-is : (p : Place) (front : List ℕ) (q : Place) → Passes p front q → moved p q.rest ≡ q
moved-is p front q m = place_is (moved p q.rest) q (omega (arith, m.at, ap length m.bytes, length-append front q.rest)) refl

-- ---- results

abbrev pub done : {X : Type 0} → X → Place → Reading X
done x place = Ok (x, place)

pub failed : {X : Type 0} → Fault → Result X Fault
failed f = Err f

abbrev refused : {X : Type 0} → Fault → Result X Fault
refused f = Err f

fault_of : ℕ → DataKind → Fault
fault_of at kind = record { at = at; kind = kind }

pub fault_is : (f g : Fault) → f.at ≡ g.at → f.kind ≡ g.kind → f ≡ g
unfolding fault_of
fault_is f g at kind = ap (λ (n : ℕ). fault_of n f.kind) at ∙ ap (λ (k : DataKind). fault_of g.at k) kind

-- one fault as another at the same place
pub same_fault : {X : Type 0} (f g : Fault) → f.at ≡ g.at → f.kind ≡ g.kind → refused {X = X} f ≡ refused g
same_fault f g at kind = ap (λ (c : Fault). refused c) (fault_is f g at kind)

-- ---- one after the other

-- In what follows a second reader may depend on what the first has read.
module _ {X : Type 0} {Y : X → Type 0} (fits1 : X → Type 0) (spell1 : X → List ℕ) (F1 : Faults) (read1 : Place → Reading X) (one : IsReader fits1 spell1 F1 read1)
    (fits2 : (x : X) → Y x → Type 0) (spell2 : (x : X) → Y x → List ℕ) (F2 : X → Faults) (read2 : (x : X) → Place → Reading (Y x)) (two : (x : X) → fits1 x → IsReader (fits2 x) (spell2 x) (F2 x) (read2 x)) where
  abbrev Both : (x : X) × Y x → Type 0
  Both v = fits1 v.0 × fits2 v.0 v.1

  abbrev pub both_spelling : (x : X) × Y x → List ℕ
  both_spelling v = spell1 v.0 ++ spell2 v.0 v.1

  abbrev BothFault : Faults
  BothFault = Either F1 (BehindValue fits1 spell1 F2)

  abbrev both_at : Place → Reading ((x : X) × Y x)
  both_at p = read1 p >>= λ x. read2 x.0 x.1 >>= λ y. Ok ((x.0, y.0), y.1)

  second_sound : (p : Place) (x : X × Place) → Answers fits1 spell1 F1 p (Ok x) → (r : Reading (Y x.0)) → Answers (fits2 x.0) (spell2 x.0) (F2 x.0) x.1 r
      → Answers Both both_spelling BothFault p (r >>= λ y. Ok ((x.0, y.0), y.1))
  second_sound p x h (Ok y) k = ((h.0, k.0), Passes-then p (spell1 x.0) x.1 (spell2 x.0 y.0) y.1 h.1 k.1)
  second_sound p x h (Err f) k = record {
    off = length (spell1 x.0) + k.off;
    at = omega (arith, k.at, h.1.at);
    first = inr (record { value = x.0; rest = x.1.rest; within = h.0; behind = record { spelled = h.1.bytes; place = k.off; fault = k.first; further = refl } });
  }

  first_sound : (p : Place) → AreBytes p.rest → (r : Reading X) → Answers fits1 spell1 F1 p r
      → Answers Both both_spelling BothFault p (r >>= λ x. read2 x.0 x.1 >>= λ y. Ok ((x.0, y.0), y.1))
  first_sound p fits (Ok x) h = second_sound p x h (read2 x.0 x.1) ((two x.0 h.0).sound x.1 (Passes-bytes p (spell1 x.0) x.1 h.1 fits))
  first_sound p fits (Err f) h = record { off = h.off; at = h.at; first = inl h.first }

  both_again : (p : Place) (v : (x : X) × Y x) (q : Place) → Both v → Passes p (both_spelling v) q → both_at p ≡ Ok (v, q)
  both_again p v q h m =
      let mid = behind p (spell1 v.0) (spell2 v.0 v.1 ++ q.rest) in
      let a : read1 p ≡ Ok (v.0, mid) = one.again p v.0 mid h.0 (Passes-first p (spell1 v.0) (spell2 v.0 v.1) q m) in
      let b : read2 v.0 mid ≡ Ok (v.1, q) = (two v.0 h.0).again mid v.1 q h.1 (Passes-second p (spell1 v.0) (spell2 v.0 v.1) q m) in
      rw (a, b) refl

  behind_told : (p : Place) (off : ℕ) (kind : DataKind) → AreBytes p.rest → BehindValue fits1 spell1 F2 p.rest off kind → both_at p ≡ Err (fault_at p off kind)
  behind_told p off kind fits h =
      let x = h.value in
      let front = spell1 x in
      let mid = behind p front h.rest in
      let passes : Passes p front mid = Passes-behind p front h.rest h.behind.spelled in
      let a : read1 p ≡ Ok (x, mid) = one.again p x mid h.within passes in
      let b : read2 x mid ≡ Err (fault_at mid h.behind.place kind) = (two x h.within).told mid h.behind.place kind (Passes-bytes p front mid passes fits) h.behind.fault in
      rw (a, b) (same_fault (fault_at mid h.behind.place kind) (fault_at p off kind) (omega (arith, h.behind.further)) refl)

  both_told : (p : Place) (off : ℕ) (kind : DataKind) → AreBytes p.rest → BothFault p.rest off kind → both_at p ≡ Err (fault_at p off kind)
  both_told p off kind fits (inl h) = rw (one.told p off kind fits h) refl
  both_told p off kind fits (inr h) = behind_told p off kind fits h

  pub both_reader : IsReader Both both_spelling BothFault both_at
  both_reader = record {
    sound = λ p fits. first_sound p fits (read1 p) (one.sound p fits);
    again = both_again;
    told = both_told;
  }

-- ---- no bytes

pub nothing_reader : IsReader {X = Unit {0}} (λ v. Unit {0}) (λ v. []) NoFault (λ p. Ok (tt, p))
nothing_reader = record {
  sound = λ p fits. (tt, Passes-none p);
  again = λ p v q h m. ap (λ (to : Place). Ok (v, to)) (place_is p q (omega (arith, m.at)) m.bytes);
  told = λ p off kind fits h. absurd h;
}

-- a reader goes on
pub goes_forward : {X : Type 0} (fits : X → Type 0) (spell : X → List ℕ) (F : Faults) (read : Place → Reading X) → IsReader fits spell F read
    → (p : Place) → AreBytes p.rest → (r : Result X DataFault) (q : Place) → Reads r q (read p) → OnOk r (p.at ≤ q.at)
goes_forward fits spell F read one p b (Ok x) q e =
    let h : Answers fits spell F p (Ok (x, q)) = subst (λ (r : Reading _). Answers fits spell F p r) e (one.sound p b) in
    omega (arith, h.1.at)
goes_forward fits spell F read one p b (Err f) q e = tt
