-- What follows of the spellings that a reader reads.
use Rattle.std.proofs.Common.{◌≡◌, ℕ, ◌+◌, List, ◌++◌, length, Result, Ok, Err, refl, sym, ap, subst, ◌∙◌, arith}
use Rattle.std.specs.Prelude.{IfOk}
use Rattle.wire.specs.Spelling.{AreBytes}
use Rattle.wire.specs.declared.fault.DataFault.{DataFault}
use Rattle.wire.specs.declared.fault.DataFault.TheVariants.{At}
use Rattle.wire.specs.Places.{Place, Fault, Reading, Gives, start, whole_at}
use Rattle.wire.specs.FirstFault.{Faults, WholeFault}
use Rattle.wire.specs.Readers.{FaultAt, Answers, fault_at, IsReader, WholeAnswers, IsWholeReader}
use Rattle.wire.specs.LayoutLaws.{BeginsAs, ReadsAs, SpellingLaws}
use Rattle.wire.proofs.Readers.{Passes-behind, behind, same_fault}
use Rattle.wire.proofs.WholeReaders.{whole_reader}

abbrev given : {X : Type 0} → X → Result X Fault
given x = Ok x

abbrev refused : {X : Type 0} → Fault → Result X Fault
refused f = Err f

same_given : {X : Type 0} (x y : X) → given x ≡ given y → x ≡ y
same_given x y e = cc

same_refused : {X : Type 0} (f g : Fault) → refused {X = X} f ≡ refused g → f ≡ g
same_refused f g e = cc

apart : {X : Type 0} (x : X) (f : Fault) → given x ≡ refused f → ⊥
apart x f e = cc

-- the fault of all of the bytes, whose first stands at 0
from_start : (F : Faults) (bytes : List ℕ) (f : Fault) → FaultAt F (start bytes) f → F bytes f.at f.kind
from_start F bytes f h = (let e : h.off ≡ f.at = omega (arith, h.at) in subst (λ (n : ℕ). F bytes n f.kind) e h.first)

module _ {X : Type 0} (fits : X → Type 0) (spell : X → List ℕ) (F : Faults) (read : Place → Reading X) (one : IsReader fits spell F read) where
  whole : IsWholeReader fits spell F (whole_at read)
  whole = whole_reader fits spell F read one

  -- ---- at the front

  begun : (bytes : List ℕ) (r : Reading X) → Answers fits spell F (start bytes) r → (s : Result (X × List ℕ) Fault) × BeginsAs fits spell F bytes s
  begun bytes (Ok x) h = (Ok (x.0, x.1.rest), (h.0, h.1.bytes))
  begun bytes (Err f) h = (Err f, from_start F bytes f h)

  -- how a reader says what bytes begin with
  abbrev placed : Result (X × List ℕ) Fault → Reading X
  placed (Ok x) = Ok (x.0, record { at = 0 + length (spell x.0); rest = x.1 })
  placed (Err f) = Err f

  read_is : (bytes : List ℕ) (r : Result (X × List ℕ) Fault) → AreBytes bytes → BeginsAs fits spell F bytes r → read (start bytes) ≡ placed r
  read_is bytes (Ok x) b h = one.again (start bytes) x.0 (behind (start bytes) (spell x.0) x.1) h.0 (Passes-behind (start bytes) (spell x.0) x.1 h.1)
  read_is bytes (Err f) b h = one.told (start bytes) f.at f.kind b h ∙ same_fault (fault_at (start bytes) f.at f.kind) f (omega arith) refl

  same_placed : (r s : Result (X × List ℕ) Fault) → placed r ≡ placed s → r ≡ s
  same_placed (Ok x) (Ok y) e =
      (let pair = same_given _ _ e in ap (λ (z : X × Place). given (z.0, z.1.rest)) pair)
  same_placed (Ok x) (Err g) e = absurd (apart _ g e)
  same_placed (Err f) (Ok y) e = absurd (apart _ f (sym e))
  same_placed (Err f) (Err g) e = ap (λ (d : Fault). refused d) (same_refused f g e)

  one_form : (v w : X) (x y : List ℕ) → fits v → fits w → spell v ++ x ≡ spell w ++ y → (v ≡ w) × (x ≡ y)
  one_form v w x y hv hw e =
      let p = start (spell v ++ x) in
      let a = one.again p v (behind p (spell v) x) hv (Passes-behind p (spell v) x refl) in
      let b = one.again p w (behind p (spell w) y) hw (Passes-behind p (spell w) y e) in
      let pair = same_given _ _ (sym a ∙ b) in
      (ap (λ (z : X × Place). z.0) pair, ap (λ (z : X × Place). z.1.rest) pair)

  -- ---- all of the bytes

  all_read : (bytes : List ℕ) (r : Result X Fault) → WholeAnswers fits spell F (start bytes) r → ReadsAs fits spell F bytes r
  all_read bytes (Ok x) h = h
  all_read bytes (Err f) h = from_start (WholeFault fits spell F) bytes f h

  pub whole_is : (bytes : List ℕ) (r : Result X Fault) → AreBytes bytes → ReadsAs fits spell F bytes r → whole_at read (start bytes) ≡ r
  whole_is bytes (Ok x) b h = whole.again (start bytes) x h.0 h.1
  whole_is bytes (Err f) b h = whole.told (start bytes) f.at f.kind b h ∙ same_fault (fault_at (start bytes) f.at f.kind) f (omega arith) refl

  pub whole_reads : (bytes : List ℕ) → AreBytes bytes → ReadsAs fits spell F bytes (whole_at read (start bytes))
  whole_reads bytes b = all_read bytes (whole_at read (start bytes)) (whole.sound (start bytes) b)

  pub spelling_laws : SpellingLaws fits spell F
  spelling_laws = record {
    begins = λ bytes b. begun bytes (read (start bytes)) (one.sound (start bytes) b);
    one_beginning = λ bytes r s b hr hs. same_placed r s (sym (read_is bytes r b hr) ∙ read_is bytes s b hs);
    reads = λ bytes b. (whole_at read (start bytes), whole_reads bytes b);
    one_reading = λ bytes r s b hr hs. sym (whole_is bytes r b hr) ∙ whole_is bytes s b hs;
    one_form = one_form;
  }

-- ---- what a function of the code answered

module _ {X : Type 0} (fits : X → Type 0) (spell : X → List ℕ) (F : Faults) (read : Place → Reading X) (one : IsReader fits spell F read)
    (bytes : List ℕ) (b : AreBytes bytes) (r : Result X DataFault) (e : Gives r (whole_at read (start bytes))) where
  is_found : (s : Result X DataFault) → Gives s (whole_at read (start bytes)) → IfOk s (λ x. fits x × (bytes ≡ spell x))
  is_found (Ok x) h = subst (λ (reading : Result X Fault). ReadsAs fits spell F bytes reading) h (whole_reads fits spell F read one bytes b)
  is_found (Err d) h = tt

  pub found : IfOk r (λ x. fits x × (bytes ≡ spell x))
  found = is_found r e

  pub only : (x : X) → fits x → bytes ≡ spell x → Gives r (Ok x)
  only x h spelled = subst (λ (reading : Result X Fault). Gives r reading) (whole_is fits spell F read one bytes (Ok x) b (h, spelled)) e

  pub fault : (f : Fault) → r ≡ Err (At f.at f.kind) → WholeFault fits spell F bytes f.at f.kind
  fault f is =
      let reads : whole_at read (start bytes) ≡ Err f = subst (λ (s : Result X DataFault). Gives s (whole_at read (start bytes))) is e in
      subst (λ (reading : Result X Fault). ReadsAs fits spell F bytes reading) reads (whole_reads fits spell F read one bytes b)

  pub told : (f : Fault) → WholeFault fits spell F bytes f.at f.kind → Gives r (Err f)
  told f h = subst (λ (reading : Result X Fault). Gives r reading) (whole_is fits spell F read one bytes (Err f) b h) e
