-- Files of records: they read as one thing, and what a loop reads is that.
use Rattle.std.proofs.Common.{◌≡◌, ℕ, zero, suc, ◌+◌, ◌≤◌, ◌<◌, List, [], ◌∷◌, ◌++◌, length, Result, Ok, Err, refl, sym, ap, subst, ◌∙◌, append_assoc, inl, inr, arith}
use Rattle.std.specs.Prelude.{◌⊎◌, IfOk}
use Rattle.std.specs.List.{flat_map, AllByRecursion}
use Rattle.std.proofs.lemmas.List.{length-append, append-nil}
use Rattle.std.proofs.lemmas.List.Concat.{flat_map-cons}
use Rattle.std.proofs.lemmas.Grind.{flat_map-append}
use Rattle.wire.specs.declared.fault.DataKind.{DataKind}
use Rattle.wire.specs.declared.fault.DataFault.{DataFault}
use Rattle.wire.specs.declared.fault.DataFault.TheVariants as told
use Rattle.wire.specs.declared.files.FramesFault.{FramesFault}
use Rattle.wire.specs.declared.files.FramesFault.TheVariants.{At, NoMemory}
use Rattle.wire.specs.Spelling.{AreBytes}
use Rattle.wire.specs.Places.{Place, Fault, Reading, Reads}
use Rattle.wire.specs.FirstFault.{Faults}
use Rattle.wire.specs.Readers.{Answers, Answered, IsReader}
use Rattle.wire.specs.LayoutLaws.{BeginsAs, SpellingLaws}
use Rattle.wire.specs.Files.{FileFault, FirstFileFault, FileReadsAs, FileLaws, FileGives}

AreBytes-rest : (front rest : List ℕ) → AreBytes (front ++ rest) → AreBytes rest
AreBytes-rest [] rest h = h
AreBytes-rest (b ∷ front) rest h = AreBytes-rest front rest (λ i. h (suc i))

-- ---- lists of records

module _ {X : Type 0} (fits : X → Type 0) where
  pub All-append : (xs ys : List X) → AllByRecursion fits xs → AllByRecursion fits ys → AllByRecursion fits (xs ++ ys)
  All-append [] ys hx hy = hy
  All-append (x ∷ xs) ys hx hy = (hx.0, All-append xs ys hx.1 hy)

  All-parts : (xs ys : List X) → AllByRecursion fits (xs ++ ys) → AllByRecursion fits xs × AllByRecursion fits ys
  All-parts [] ys h = (tt, h)
  All-parts (x ∷ xs) ys h = (let parts = All-parts xs ys h.1 in ((h.0, parts.0), parts.1))

abbrev file_refused : {X : Type 0} → FileFault → Result (List X) FileFault
file_refused f = Err f

module _ {X : Type 0} (fits : X → Type 0) (spell : X → List ℕ) (F : Faults) where
  abbrev ReadsFile : List ℕ → Result (List X) FileFault → Type 0
  ReadsFile = FileReadsAs fits spell F

  abbrev Faulty : List ℕ → FileFault → Type 0
  Faulty = FirstFileFault fits spell F

  pub joined : (a b : List ℕ) (xs ys : List X) → ReadsFile a (Ok xs) → ReadsFile b (Ok ys) → ReadsFile (a ++ b) (Ok (xs ++ ys))
  joined a b xs ys ha hb =
      (All-append fits xs ys ha.0 hb.0, ap (λ (x : List ℕ). x ++ b) ha.1 ∙ ap (λ (y : List ℕ). flat_map spell xs ++ y) hb.1 ∙ sym (flat_map-append spell xs ys))

  pub one_more : (x : X) → fits x → ReadsFile (spell x) (Ok (x ∷ []))
  one_more x h = ((h, tt), sym (append-nil (spell x)) ∙ sym (flat_map-cons spell x []))

  pub pushed : (bytes : List ℕ) (xs : List X) (x : X) → ReadsFile bytes (Ok xs) → fits x → ReadsFile (bytes ++ spell x) (Ok (xs ++ x ∷ []))
  pushed bytes xs x h one = joined bytes (spell x) xs (x ∷ []) h (one_more x one)

  parted : (bytes : List ℕ) (xs ys : List X) → ReadsFile bytes (Ok (xs ++ ys)) → (a : List ℕ) × (b : List ℕ) × (bytes ≡ a ++ b) × ReadsFile a (Ok xs) × ReadsFile b (Ok ys)
  parted bytes xs ys h =
      let parts = All-parts fits xs ys h.0 in
      (flat_map spell xs, flat_map spell ys, h.1 ∙ flat_map-append spell xs ys, (parts.0, refl), (parts.1, refl))

  behind : (a b : List ℕ) (xs : List X) (f : FileFault) → ReadsFile a (Ok xs) → Faulty b f → Faulty (a ++ b) (record { index = length xs + f.index; at = length a + f.at; kind = f.kind })
  behind a b xs f ha h = record {
    whole = xs ++ h.whole;
    rest = h.rest;
    place = h.place;
    within = All-append fits xs h.whole ha.0 h.within;
    spelled =
        ap (λ (x : List ℕ). x ++ b) ha.1
        ∙ ap (λ (y : List ℕ). flat_map spell xs ++ y) h.spelled
        ∙ sym (append_assoc (flat_map spell xs) (flat_map spell h.whole) h.rest)
        ∙ ap (λ (x : List ℕ). x ++ h.rest) (sym (flat_map-append spell xs h.whole));
    more = h.more;
    first = h.first;
    index = omega (arith, h.index, length-append xs h.whole);
    at = omega (arith, h.at, ap length ha.1, ap length (flat_map-append spell xs h.whole), length-append (flat_map spell xs) (flat_map spell h.whole));
  }

  -- ---- one reading

  module _ (laws : SpellingLaws fits spell F) (some : (x : X) → fits x → 0 < length (spell x)) where
    cons_is : (x : X) (xs : List X) (r : List ℕ) → flat_map spell (x ∷ xs) ++ r ≡ spell x ++ (flat_map spell xs ++ r)
    cons_is x xs r = ap (λ (bytes : List ℕ). bytes ++ r) (flat_map-cons spell x xs) ∙ append_assoc (spell x) (flat_map spell xs) r

    not_none : (x : X) (after : List ℕ) → fits x → [] ≡ spell x ++ after → ⊥
    not_none x after h e = absurd (omega (arith, ap length e, length-append (spell x) after, some x h))

    one_form : (xs ys : List X) → AllByRecursion fits xs → AllByRecursion fits ys → flat_map spell xs ≡ flat_map spell ys → xs ≡ ys
    one_form [] [] hx hy e = refl
    one_form [] (y ∷ ys) hx hy e = absurd (not_none y (flat_map spell ys) hy.0 (e ∙ flat_map-cons spell y ys))
    one_form (x ∷ xs) [] hx hy e = absurd (not_none x (flat_map spell xs) hx.0 (sym e ∙ flat_map-cons spell x xs))
    one_form (x ∷ xs) (y ∷ ys) hx hy e =
        let first = laws.one_form x y (flat_map spell xs) (flat_map spell ys) hx.0 hy.0 (sym (flat_map-cons spell x xs) ∙ e ∙ flat_map-cons spell y ys) in
        let others : xs ≡ ys = one_form xs ys hx.1 hy.1 first.1 in
        let same : x ≡ y = first.0 in
        cc (same, others)

    -- no record begins these bytes
    abbrev Ends : List ℕ → Type 0
    Ends rest = (rest ≡ []) ⊎ ((f : Fault) × F rest f.at f.kind)

    abbrev begun : X → List ℕ → Result (X × List ℕ) Fault
    begun x after = Ok (x, after)

    abbrev faulty : Fault → Result (X × List ℕ) Fault
    faulty f = Err f

    begun_or_faulty : (x : X) (after : List ℕ) (f : Fault) → begun x after ≡ faulty f → ⊥
    begun_or_faulty x after f e = cc

    same_faulty : (f g : Fault) → faulty f ≡ faulty g → f ≡ g
    same_faulty f g e = cc

    none_begins : (bytes : List ℕ) (x : X) (after : List ℕ) → AreBytes bytes → fits x → bytes ≡ spell x ++ after → Ends bytes → ⊥
    none_begins bytes x after b h e (inl none) = not_none x after h (sym none ∙ e)
    none_begins bytes x after b h e (inr f) = begun_or_faulty x after f.0 (laws.one_beginning bytes (begun x after) (faulty f.0) b (h, e) f.1)

    one_file : (xs ys : List X) (r s : List ℕ) → AllByRecursion fits xs → AllByRecursion fits ys → AreBytes (flat_map spell xs ++ r) → Ends r → Ends s
        → flat_map spell xs ++ r ≡ flat_map spell ys ++ s
        → (xs ≡ ys) × (r ≡ s)
    one_file [] [] r s hx hy b er es e = (refl, e)
    one_file [] (y ∷ ys) r s hx hy b er es e = absurd (none_begins r y (flat_map spell ys ++ s) b hy.0 (e ∙ cons_is y ys s) er)
    one_file (x ∷ xs) [] r s hx hy b er es e = absurd (none_begins s x (flat_map spell xs ++ r) (subst AreBytes e b) hx.0 (sym e ∙ cons_is x xs r) es)
    one_file (x ∷ xs) (y ∷ ys) r s hx hy b er es e =
        let first = laws.one_form x y (flat_map spell xs ++ r) (flat_map spell ys ++ s) hx.0 hy.0 (sym (cons_is x xs r) ∙ e ∙ cons_is y ys s) in
        let rest : AreBytes (flat_map spell xs ++ r) = AreBytes-rest (spell x) (flat_map spell xs ++ r) (subst AreBytes (cons_is x xs r) b) in
        let others = one_file xs ys r s hx.1 hy.1 rest er es first.1 in
        let same : x ≡ y = first.0 in
        let tails : xs ≡ ys = others.0 in
        (cc (same, tails), others.1)

    no_fault : (bytes : List ℕ) (xs : List X) (f : FileFault) → AreBytes bytes → ReadsFile bytes (Ok xs) → Faulty bytes f → ⊥
    no_fault bytes xs f b h k =
        let whole : bytes ≡ flat_map spell xs ++ [] = h.1 ∙ sym (append-nil (flat_map spell xs)) in
        let same = one_file xs k.whole [] k.rest h.0 k.within (subst AreBytes whole b) (inl refl) (inr (record { at = k.place; kind = f.kind }, k.first)) (sym whole ∙ k.spelled) in
        k.more (sym same.1)

    fault_is : (f g : FileFault) → f.index ≡ g.index → f.at ≡ g.at → f.kind ≡ g.kind → f ≡ g
    fault_is f g index at kind = λ i. record { index = index i; at = at i; kind = kind i }

    one_fault : (bytes : List ℕ) (f g : FileFault) → AreBytes bytes → Faulty bytes f → Faulty bytes g → f ≡ g
    one_fault bytes f g b h k =
        let there : Fault = record { at = h.place; kind = f.kind } in
        let here : Fault = record { at = k.place; kind = g.kind } in
        let same = one_file h.whole k.whole h.rest k.rest h.within k.within (subst AreBytes h.spelled b) (inr (there, h.first)) (inr (here, k.first)) (sym h.spelled ∙ k.spelled) in
        let rest : AreBytes h.rest = AreBytes-rest (flat_map spell h.whole) h.rest (subst AreBytes h.spelled b) in
        let second : F h.rest here.at here.kind = subst (λ (r : List ℕ). F r here.at here.kind) (sym same.1) k.first in
        let faults : there ≡ here = same_faulty there here (laws.one_beginning h.rest (faulty there) (faulty here) rest h.first second) in
        let place : h.place ≡ k.place = ap (λ (x : Fault). x.at) faults in
        fault_is f g (h.index ∙ ap length same.0 ∙ sym k.index) (omega (arith, h.at, k.at, place, ap (λ (xs : List X). length (flat_map spell xs)) same.0)) (ap (λ (x : Fault). x.kind) faults)

    one_reading : (bytes : List ℕ) (r s : Result (List X) FileFault) → AreBytes bytes → ReadsFile bytes r → ReadsFile bytes s → r ≡ s
    one_reading bytes (Ok xs) (Ok ys) b h k = ap (λ (zs : List X). Ok zs) (one_form xs ys h.0 k.0 (sym h.1 ∙ k.1))
    one_reading bytes (Ok xs) (Err g) b h k = absurd (no_fault bytes xs g b h k)
    one_reading bytes (Err f) (Ok ys) b h k = absurd (no_fault bytes ys f b k h)
    one_reading bytes (Err f) (Err g) b h k = ap (λ (e : FileFault). file_refused e) (one_fault bytes f g b h k)

    -- ---- some reading

    abbrev SomeReading : List ℕ → Type 0
    SomeReading bytes = (reading : Result (List X) FileFault) × ReadsFile bytes reading

    before : (x : X) (rest : List ℕ) → fits x → (reading : Result (List X) FileFault) → ReadsFile rest reading → SomeReading (spell x ++ rest)
    before x rest h (Ok xs) k = (Ok (x ∷ xs), joined (spell x) rest (x ∷ []) xs (one_more x h) k)
    before x rest h (Err f) k = (Err (record { index = 1 + f.index; at = length (spell x) + f.at; kind = f.kind }), behind (spell x) rest (x ∷ []) f (one_more x h) k)

    at_once : (b : ℕ) (bytes : List ℕ) (f : Fault) → F (b ∷ bytes) f.at f.kind → SomeReading (b ∷ bytes)
    at_once b bytes f first =
        (Err (record { index = 0; at = f.at; kind = f.kind }), record { whole = []; rest = b ∷ bytes; place = f.at; within = tt; spelled = refl; more = λ none. absurd cc; first = first; index = refl; at = omega arith })

    goes_on : (most b : ℕ) (bytes : List ℕ) → AreBytes (b ∷ bytes) → length bytes ≤ most → ((rest : List ℕ) → AreBytes rest → length rest ≤ most → SomeReading rest)
        → (r : Result (X × List ℕ) Fault) → BeginsAs fits spell F (b ∷ bytes) r
        → SomeReading (b ∷ bytes)
    goes_on most b bytes are few others (Ok x) h =
        let shorter : length x.1 ≤ most = omega (arith, few, ap length h.1, length-append (spell x.0) x.1, some x.0 h.0) in
        let rest = others x.1 (AreBytes-rest (spell x.0) x.1 (subst AreBytes h.1 are)) shorter in
        subst SomeReading (sym h.1) (before x.0 x.1 h.0 rest.0 rest.1)
    goes_on most b bytes are few others (Err f) h = at_once b bytes f h

    reads_within : (most : ℕ) (bytes : List ℕ) → AreBytes bytes → length bytes ≤ most → SomeReading bytes
    reads_within most [] are few = (Ok [], (tt, refl))
    reads_within zero (b ∷ bytes) are few = absurd (omega arith)
    reads_within (suc most) (b ∷ bytes) are few =
        let first = laws.begins (b ∷ bytes) are in
        goes_on most b bytes are (omega arith) (λ rest. reads_within most rest) first.0 first.1

    pub file_laws : FileLaws fits spell F
    file_laws = record {
      reads = λ bytes are. reads_within (length bytes) bytes are (omega arith);
      one_reading = one_reading;
      one_form = one_form;
      joined = joined;
      parted = parted;
      pushed = pushed;
      behind = behind;
    }

  -- ---- what the code does

  -- what a reader answered, in the words of bytes
  pub answered : (read : Place → Reading X) → IsReader fits spell F read → (p q : Place) → AreBytes p.rest → (result : Result X DataFault) → Reads result q (read p) → Answered fits spell F p q result
  answered read one p q are (Ok x) h = subst (λ (r : Reading X). Answers fits spell F p r) h (one.sound p are)
  answered read one p q are (Err told.NoMemory) h = tt
  answered read one p q are (Err (told.At at why)) h = subst (λ (r : Reading X). Answers fits spell F p r) h (one.sound p are)

  abbrev stopped : ℕ → ℕ → DataKind → Result (List X) FramesFault
  stopped index at kind = Err (At index at kind)

  -- what was read is what is told of the bytes
  pub file_gives : FileLaws fits spell F → (bytes : List ℕ) (result : Result (List X) FramesFault) (reading : Result (List X) FileFault) → AreBytes bytes → IfOk result (λ xs. ReadsFile bytes (Ok xs))
      → ((f : FileFault) → result ≡ stopped f.index f.at f.kind → Faulty bytes f)
      → ReadsFile bytes reading
      → FileGives result reading
  file_gives laws bytes (Ok xs) reading are found fault h = laws.one_reading bytes reading (Ok xs) are h found
  file_gives laws bytes (Err (At index at kind)) reading are found fault h =
      let f : FileFault = record { index = index; at = at; kind = kind } in
      laws.one_reading bytes reading (Err f) are h (fault f refl)
  file_gives laws bytes (Err NoMemory) reading are found fault h = tt
