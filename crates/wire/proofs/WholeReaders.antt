-- Readers of all of the bytes, and of a record after its length.
use Rattle.std.proofs.Common.{◌≡◌, ℕ, zero, suc, ◌+◌, ◌-◌, ◌≤◌, Bool, true, false, cond, eqb, List, [], ◌∷◌, ◌++◌, length, take, drop, Result, Ok, Err, refl, sym, ap, subst, ◌∙◌, append_assoc, inl, inr, arith}
use Rattle.std.proofs.lemmas.Bool.{eqb-true, ne_eqb}
use Rattle.std.proofs.lemmas.List.{append-nil, length-append, nil_from_length, take-append-drop}
use Rattle.wire.specs.declared.fault.DataKind.{DataKind}
use Rattle.wire.specs.declared.fault.DataKind.TheVariants.{Trailing}
use Rattle.wire.specs.Spelling.{AreBytes, varint, varstring}
use Rattle.wire.specs.Places.{Place, Fault, Reading, ◌>>=◌, fault_here, ended, whole_at, text_at, inside, frame_at}
use Rattle.wire.specs.Layout.{IsNumber, FrameFits, frame_spelling}
use Rattle.wire.specs.FirstFault.{Faults, FaultHere, Left, WholeFault, InFrame, TextFault, FrameFault}
use Rattle.wire.specs.Readers.{Passes, Answers, fault_at, IsReader, WholeAnswers, IsWholeReader}
use Rattle.wire.proofs.Readers.{Passes-behind, behind, same_fault}
use Rattle.wire.proofs.FieldReaders.{text_reader}

AreBytes-rest : (front rest : List ℕ) → AreBytes (front ++ rest) → AreBytes rest
AreBytes-rest [] rest h = h
AreBytes-rest (b ∷ front) rest h = AreBytes-rest front rest (λ i. h (suc i))

AreBytes-front : (front rest : List ℕ) → AreBytes (front ++ rest) → AreBytes front
AreBytes-front [] rest h i = omega arith
AreBytes-front (b ∷ front) rest h zero = h 0
AreBytes-front (b ∷ front) rest h (suc i) = AreBytes-front front rest (λ j. h (suc j)) i

-- bytes that are left are a fault, and bytes that are not left are none
rest_first : (bytes : List ℕ) → eqb (length bytes) 0 ≡ false → (b : ℕ) × (rest : List ℕ) × (bytes ≡ b ∷ rest)
rest_first [] e = absurd cc
rest_first (b ∷ rest) e = (b, rest, refl)

module _ {X : Type 0} (fits : X → Type 0) (spell : X → List ℕ) (F : Faults) (read : Place → Reading X) (one : IsReader fits spell F read) where
  abbrev Whole : Place → Result X Fault → Type 0
  Whole p r = WholeAnswers fits spell F p r

  ended_sound : (p : Place) (x : X × Place) → fits x.0 → Passes p (spell x.0) x.1 → (t : Bool) → eqb (length x.1.rest) 0 ≡ t → Whole p (cond t (Ok x.0) (Err (fault_here x.1 Trailing)))
  ended_sound p x h m true e =
      let none : x.1.rest ≡ [] = nil_from_length x.1.rest (eqb-true _ _ e) in
      (h, m.bytes ∙ ap (λ (rest : List ℕ). spell x.0 ++ rest) none ∙ append-nil (spell x.0))
  ended_sound p x h m false e =
      let first = rest_first x.1.rest e in
      record {
        off = length (spell x.0);
        at = m.at;
        first = inr (record { value = x.0; first = first.0; rest = first.1; within = h; spelled = m.bytes ∙ ap (λ (rest : List ℕ). spell x.0 ++ rest) first.2; at_end = refl; kind_is = refl });
      }

  whole_sound : (p : Place) (r : Reading X) → Answers fits spell F p r → Whole p (r >>= ended)
  whole_sound p (Ok x) h = ended_sound p x h.0 h.1 (eqb (length x.1.rest) 0) refl
  whole_sound p (Err f) h = record { off = h.off; at = h.at; first = inl h.first }

  whole_again : (p : Place) (x : X) → fits x → p.rest ≡ spell x → whole_at read p ≡ Ok x
  whole_again p x h e =
      let q = behind p (spell x) [] in
      let reads : read p ≡ Ok (x, q) = one.again p x q h (Passes-behind p (spell x) [] (e ∙ sym (append-nil (spell x)))) in
      rw reads refl

  left_told : (p : Place) (off : ℕ) (kind : DataKind) → Left fits spell p.rest off kind → whole_at read p ≡ Err (fault_at p off kind)
  left_told p off kind h =
      let q = behind p (spell h.value) (h.first ∷ h.rest) in
      let reads : read p ≡ Ok (h.value, q) = one.again p h.value q h.within (Passes-behind p (spell h.value) (h.first ∷ h.rest) h.spelled) in
      let more : eqb (length (h.first ∷ h.rest)) 0 ≡ false = ne_eqb (length (h.first ∷ h.rest)) 0 (λ e. omega arith) in
      rw (reads, more) (same_fault (fault_here q Trailing) (fault_at p off kind) (omega (arith, h.at_end)) (sym h.kind_is))

  whole_told : (p : Place) (off : ℕ) (kind : DataKind) → AreBytes p.rest → WholeFault fits spell F p.rest off kind → whole_at read p ≡ Err (fault_at p off kind)
  whole_told p off kind b (inl h) = rw (one.told p off kind b h) refl
  whole_told p off kind b (inr h) = left_told p off kind h

  pub whole_reader : IsWholeReader fits spell F (whole_at read)
  whole_reader = record {
    sound = λ p b. whole_sound p (read p) (one.sound p b);
    again = whole_again;
    told = whole_told;
  }

  -- ---- after a length

  module _ (most : ℕ) where
    abbrev Framed : X → Type 0
    Framed = FrameFits most fits spell

    abbrev framed_spelling : X → List ℕ
    framed_spelling = frame_spelling spell

    abbrev FramedFault : Faults
    FramedFault = FrameFault most fits spell F

    -- the bytes of a string stand after their length
    prefix : (text : List ℕ) → length (varstring text) ≡ length (varint (length text)) + length text
    unfolding varstring
    prefix text = length-append (varint (length text)) text

    inside_at : (p : Place) (text : List ℕ × Place) → Passes p (varstring text.0) text.1 → (inside text).at ≡ p.at + length (varint (length text.0))
    inside_at p text m = omega (arith, m.at, prefix text.0)

    held_bytes : (p : Place) (text : List ℕ × Place) → Passes p (varstring text.0) text.1 → AreBytes p.rest → AreBytes text.0
    unfolding varstring
    held_bytes p text m b = AreBytes-front text.0 text.1.rest (AreBytes-rest (varint (length text.0)) (text.0 ++ text.1.rest) (subst AreBytes (m.bytes ∙ append_assoc (varint (length text.0)) text.0 text.1.rest) b))

    held_sound : (p : Place) (text : List ℕ × Place) → IsNumber 0 most (length text.0) → Passes p (varstring text.0) text.1 → (r : Result X Fault) → Whole (inside text) r
        → Answers Framed framed_spelling FramedFault p (r >>= λ x. Ok (x, text.1))
    held_sound p text n m (Ok x) h =
        ((h.0, subst (λ (bytes : List ℕ). IsNumber 0 most (length bytes)) h.1 n), subst (λ (bytes : List ℕ). Passes p (varstring bytes) text.1) h.1 m)
    held_sound p text n m (Err f) h = record {
      off = length (varint (length text.0)) + h.off;
      at = omega (arith, h.at, inside_at p text m);
      first = inr (record { held = text.0; rest = text.1.rest; within = n; spelled = m.bytes; place = h.off; fault = h.first; further = refl });
    }

    frame_sound : (p : Place) → AreBytes p.rest → (r : Reading (List ℕ)) → Answers (λ text. IsNumber 0 most (length text)) varstring (FaultHere (TextFault most)) p r
        → Answers Framed framed_spelling FramedFault p (r >>= λ text. whole_at read (inside text) >>= λ x. Ok (x, text.1))
    frame_sound p b (Ok text) h =
        held_sound p text h.0 h.1 (whole_at read (inside text)) (whole_reader.sound (inside text) (held_bytes p text h.1 b))
    frame_sound p b (Err f) h = record { off = h.off; at = h.at; first = inl h.first }

    frame_again : (p : Place) (x : X) (q : Place) → Framed x → Passes p (framed_spelling x) q → frame_at most read p ≡ Ok (x, q)
    frame_again p x q h m =
        let text : text_at most p ≡ Ok (spell x, q) = (text_reader most).again p (spell x) q h.1 m in
        let held : whole_at read (inside (spell x, q)) ≡ Ok x = whole_again (inside (spell x, q)) x h.0 refl in
        rw (text, held) refl

    inside_told : (p : Place) (off : ℕ) (kind : DataKind) → AreBytes p.rest → InFrame most (WholeFault fits spell F) p.rest off kind → frame_at most read p ≡ Err (fault_at p off kind)
    inside_told p off kind b h =
        let q = behind p (varstring h.held) h.rest in
        let m : Passes p (varstring h.held) q = Passes-behind p (varstring h.held) h.rest h.spelled in
        let text : text_at most p ≡ Ok (h.held, q) = (text_reader most).again p h.held q h.within m in
        let from = inside (h.held, q) in
        let held : whole_at read from ≡ Err (fault_at from h.place kind) = whole_told from h.place kind (held_bytes p (h.held, q) m b) h.fault in
        rw (text, held) (same_fault (fault_at from h.place kind) (fault_at p off kind) (omega (arith, h.further, inside_at p (h.held, q) m)) refl)

    frame_told : (p : Place) (off : ℕ) (kind : DataKind) → AreBytes p.rest → FramedFault p.rest off kind → frame_at most read p ≡ Err (fault_at p off kind)
    frame_told p off kind b (inl h) = rw ((text_reader most).told p off kind b h) refl
    frame_told p off kind b (inr h) = inside_told p off kind b h

    pub frame_reader : IsReader Framed framed_spelling FramedFault (frame_at most read)
    frame_reader = record {
      sound = λ p b. frame_sound p b (text_at most p) ((text_reader most).sound p b);
      again = frame_again;
      told = frame_told;
    }

-- a string is no longer than its spelling
pub text_within : (bytes text : List ℕ) (len : ℕ) → take len bytes ≡ varstring text → length text ≤ length bytes - length (drop len bytes)
unfolding varstring
text_within bytes text len e =
    omega (arith, ap length e, length-append (varint (length text)) text, ap length (take-append-drop len bytes), length-append (take len bytes) (drop len bytes))
