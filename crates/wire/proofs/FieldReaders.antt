-- Readers of one field.
use Rattle.std.proofs.Common.{◌≡◌, ℕ, zero, suc, ◌^◌, ◌≤◌, ◌<◌, Bool, true, false, cond, ltb, List, [], ◌∷◌, ◌++◌, length, take, drop, Some, Ok, Err, refl, sym, ap, subst, ◌∙◌, inl, inr, arith}
use Rattle.std.specs.Prelude.{IsTrue, IsFalse, slice_get}
use Rattle.std.specs.Int.{w32, to_be_bytes, from_be_bytes}
use Rattle.std.proofs.lemmas.Nat.{be_bytes_4, from_be_bytes-to_be_bytes_4}
use Rattle.std.proofs.lemmas.Bool.{lt-ltb, le-ltb, ltb-true, ltb-false}
use Rattle.std.proofs.lemmas.List.{length-append, length-take, take-append-drop, take_at, drop_at}
use Rattle.wire.specs.declared.fault.WireFault.{WireFault}
use Rattle.wire.specs.declared.fault.WireFault.TheVariants as wire
use Rattle.wire.specs.declared.fault.DataKind.{DataKind}
use Rattle.wire.specs.declared.fault.DataKind.TheVariants.{Short, NotShortest, TooBig, Zero, Kind}
use Rattle.wire.specs.Spelling.{AreBytes, varint, varstring}
use Rattle.wire.specs.Reading.{Read, varint_at, varstring_at}
use Rattle.wire.specs.Places.{Place, Reading, ◌>>=◌, kind_of, fault_here, moved, spelling_at, limited, number_at, raw_at, text_at, kind_behind, kind_at, mapped, is_one_of, byte_of_behind, byte_of_at, u32_at}
use Rattle.wire.specs.Layout.{IsNumber}
use Rattle.wire.specs.FirstFault.{FaultHere, NumberFault, RawFault, TextFault, KindFault, ByteFault}
use Rattle.wire.specs.Readers.{FaultAt, Answers, fault_at, IsReader}
use Rattle.wire.proofs.NumberLaws.{varint_laws}
use Rattle.wire.proofs.StringLaws.{varstring_laws}
use Rattle.wire.proofs.Readers.{Passes-moved, moved-is, same_fault, done}

-- what is said of a reader of one field: its faults stand at its first byte
pub record IsFieldReader {X : Type 0} (fits : X → Type 0) (spell : X → List ℕ) (F : List ℕ → DataKind → Type 0) (read : Place → Reading X) : Type 0 where
  pub sound : (p : Place) → AreBytes p.rest → Answers fits spell (FaultHere F) p (read p)
  pub again : (p : Place) (x : X) (rest : List ℕ) → fits x → p.rest ≡ spell x ++ rest → read p ≡ Ok (x, moved p rest)
  pub told : (p : Place) (kind : DataKind) → AreBytes p.rest → F p.rest kind → read p ≡ Err (fault_here p kind)

pub field_reader : {X : Type 0} (fits : X → Type 0) (spell : X → List ℕ) (F : List ℕ → DataKind → Type 0) (read : Place → Reading X) → IsFieldReader fits spell F read → IsReader fits spell (FaultHere F) read
field_reader fits spell F read r = record {
  sound = r.sound;
  again = λ p x q h m. r.again p x q.rest h m.bytes ∙ ap (λ (to : Place). done x to) (moved-is p (spell x) q m);
  told = λ p off kind b h. r.told p kind b h.fault ∙ same_fault (fault_here p kind) (fault_at p off kind) (omega (arith, h.at_front)) refl;
}

here : (F : List ℕ → DataKind → Type 0) (p : Place) (kind : DataKind) → F p.rest kind → FaultAt (FaultHere F) p (fault_here p kind)
here F p why h = record { off = 0; at = omega arith; first = record { at_front = refl; fault = h } }

-- ---- numbers

module _ (least most : ℕ) where
  abbrev NumberAnswers : Place → Reading ℕ → Type 0
  NumberAnswers = Answers (IsNumber least most) varint (FaultHere (NumberFault least most))

  limited_sound : (p : Place) (n : ℕ) (rest : List ℕ) → n < 2 ^ 63 → p.rest ≡ varint n ++ rest → (t u : Bool) → ltb most n ≡ t → ltb n least ≡ u
      → NumberAnswers p (cond t (Err (fault_here p TooBig)) (cond u (Err (fault_here p Zero)) (Ok (n, moved p rest))))
  limited_sound p n rest small e true u a b =
      here (NumberFault least most) p TooBig (inr (record { number = n; rest = rest; spelled = e; small = small; holds = ltb-true most n a }))
  limited_sound p n rest small e false true a b =
      here (NumberFault least most) p Zero (record { number = n; rest = rest; spelled = e; small = small; holds = (ltb-false most n a, ltb-true n least b) })
  limited_sound p n rest small e false false a b =
      (record { least_at_most = ltb-false n least b; at_most = ltb-false most n a; spelled = small }, Passes-moved p (varint n) rest e)

  number_kind : (bytes : List ℕ) (d : WireFault) → varint_at bytes ≡ Err d → NumberFault least most bytes (kind_of d)
  number_kind bytes wire.Short e = (varint_laws.short bytes).0 e
  number_kind bytes wire.NotShortest e = (varint_laws.not_shortest bytes).0 e
  number_kind bytes wire.TooBig e = inl ((varint_laws.too_big bytes).0 e)

  number_sound : (p : Place) → AreBytes p.rest → (r : Read ℕ) → varint_at p.rest ≡ r → NumberAnswers p (spelling_at p r >>= limited least most p)
  number_sound p b (Ok x) e =
      let s = varint_laws.spelled p.rest x.0 x.1 b e in
      limited_sound p x.0 x.1 s.0 s.1 (ltb most x.0) (ltb x.0 least) refl refl
  number_sound p b (Err d) e = here (NumberFault least most) p (kind_of d) (number_kind p.rest d e)

  -- a number that is spelled is read, and held against its limits
  number_read : (p : Place) (n : ℕ) (rest : List ℕ) → n < 2 ^ 63 → p.rest ≡ varint n ++ rest → number_at least most p ≡ limited least most p (n, moved p rest)
  unfolding number_at
  number_read p n rest small e =
      let reads : varint_at p.rest ≡ Ok (n, rest) = ap varint_at e ∙ varint_laws.again n rest small in
      rw reads refl

  number_again : (p : Place) (n : ℕ) (rest : List ℕ) → IsNumber least most n → p.rest ≡ varint n ++ rest → number_at least most p ≡ Ok (n, moved p rest)
  number_again p n rest h e =
      let below : ltb most n ≡ false = le-ltb most n h.at_most in
      let above : ltb n least ≡ false = le-ltb n least h.least_at_most in
      number_read p n rest h.spelled e ∙ rw (below, above) refl

  number_told : (p : Place) (kind : DataKind) → AreBytes p.rest → NumberFault least most p.rest kind → number_at least most p ≡ Err (fault_here p kind)
  unfolding number_at
  number_told p Short b h = rw ((varint_laws.short p.rest).1 h) refl
  number_told p NotShortest b h = rw ((varint_laws.not_shortest p.rest).1 h) refl
  number_told p TooBig b (inl h) = rw ((varint_laws.too_big p.rest).1 h) refl
  number_told p TooBig b (inr h) =
      let above : ltb most h.number ≡ true = lt-ltb most h.number h.holds in
      number_read p h.number h.rest h.small h.spelled ∙ rw above refl
  number_told p Zero b h =
      let below : ltb most h.number ≡ false = le-ltb most h.number h.holds.0 in
      let zero : ltb h.number least ≡ true = lt-ltb h.number least h.holds.1 in
      number_read p h.number h.rest h.small h.spelled ∙ rw (below, zero) refl
  number_told p _ b h = absurd h

  pub number_reader : IsReader (IsNumber least most) varint (FaultHere (NumberFault least most)) (number_at least most)
  unfolding number_at
  number_reader =
      field_reader _ _ _ _ (record { sound = λ p b. number_sound p b (varint_at p.rest) refl; again = number_again; told = number_told })

-- ---- strings

module _ (most : ℕ) where
  abbrev TextFits : List ℕ → Type 0
  TextFits text = IsNumber 0 most (length text)

  text_kind : (bytes : List ℕ) (d : WireFault) → AreBytes bytes → varstring_at most bytes ≡ Err d → TextFault most bytes (kind_of d)
  text_kind bytes wire.Short b e = (varstring_laws.short most bytes b).0 e
  text_kind bytes wire.NotShortest b e = (varstring_laws.not_shortest most bytes b).0 e
  text_kind bytes wire.TooBig b e = (varstring_laws.too_big most bytes b).0 e

  text_sound : (p : Place) → AreBytes p.rest → (r : Read (List ℕ)) → varstring_at most p.rest ≡ r → Answers TextFits varstring (FaultHere (TextFault most)) p (spelling_at p r)
  text_sound p b (Ok x) e =
      let s = varstring_laws.spelled most p.rest x.0 x.1 b e in
      (record { least_at_most = omega arith; at_most = s.0; spelled = s.1 }, Passes-moved p (varstring x.0) x.1 s.2)
  text_sound p b (Err d) e = here (TextFault most) p (kind_of d) (text_kind p.rest d b e)

  text_again : (p : Place) (text rest : List ℕ) → TextFits text → p.rest ≡ varstring text ++ rest → text_at most p ≡ Ok (text, moved p rest)
  unfolding text_at
  text_again p text rest h e =
      let reads : varstring_at most p.rest ≡ Ok (text, rest) = ap (varstring_at most) e ∙ varstring_laws.again most text rest h.at_most h.spelled in
      rw reads refl

  text_told : (p : Place) (kind : DataKind) → AreBytes p.rest → TextFault most p.rest kind → text_at most p ≡ Err (fault_here p kind)
  unfolding text_at
  text_told p Short b h = rw ((varstring_laws.short most p.rest b).1 h) refl
  text_told p NotShortest b h = rw ((varstring_laws.not_shortest most p.rest b).1 h) refl
  text_told p TooBig b h = rw ((varstring_laws.too_big most p.rest b).1 h) refl
  text_told p _ b h = absurd h

  pub text_reader : IsReader TextFits varstring (FaultHere (TextFault most)) (text_at most)
  unfolding text_at
  text_reader =
      field_reader _ _ _ _ (record { sound = λ p b. text_sound p b (varstring_at most p.rest) refl; again = text_again; told = text_told })

-- ---- raw bytes

module _ (len : ℕ) where
  raw_sound : (p : Place) (t : Bool) → ltb (length p.rest) len ≡ t
      → Answers (λ x. length x ≡ len) (λ x. x) (FaultHere (RawFault len)) p (cond t (Err (fault_here p Short)) (Ok (take len p.rest, moved p (drop len p.rest))))
  raw_sound p true e = here (RawFault len) p Short (ltb-true (length p.rest) len e)
  raw_sound p false e =
      let long : len ≤ length p.rest = ltb-false (length p.rest) len e in
      (omega (arith, length-take len p.rest), Passes-moved p (take len p.rest) (drop len p.rest) (sym (take-append-drop len p.rest)))

  pub raw_again : (p : Place) (x rest : List ℕ) → length x ≡ len → p.rest ≡ x ++ rest → raw_at len p ≡ Ok (x, moved p rest)
  unfolding raw_at
  raw_again p x rest h e =
      let long : ltb (length p.rest) len ≡ false = le-ltb (length p.rest) len (omega (arith, ap length e, length-append x rest)) in
      let front_is : take len p.rest ≡ x = ap (take len) e ∙ take_at x rest len h in
      let rest_is : drop len p.rest ≡ rest = ap (drop len) e ∙ drop_at x rest len h in
      rw (long, front_is, rest_is) refl

  pub raw_told : (p : Place) (kind : DataKind) → AreBytes p.rest → RawFault len p.rest kind → raw_at len p ≡ Err (fault_here p kind)
  unfolding raw_at
  raw_told p Short b h = (let short : ltb (length p.rest) len ≡ true = lt-ltb (length p.rest) len h in rw short refl)
  raw_told p _ b h = absurd h

  pub raw_reader : IsReader (λ x. length x ≡ len) (λ x. x) (FaultHere (RawFault len)) (raw_at len)
  unfolding raw_at
  raw_reader =
      field_reader _ _ _ _ (record { sound = λ p b. raw_sound p (ltb (length p.rest) len) refl; again = raw_again; told = raw_told })

-- ---- kinds

abbrev one : ℕ → List ℕ
one k = k ∷ []

module _ (count : ℕ) where
  byte_sound : (p : Place) (k : ℕ) (rest : List ℕ) → p.rest ≡ k ∷ rest → (t : Bool) → ltb k count ≡ t
      → Answers (λ k. k < count) one (FaultHere (KindFault count)) p (cond t (Ok (k, moved p rest)) (Err (fault_here p Kind)))
  byte_sound p k rest e true h = (ltb-true k count h, Passes-moved p (one k) rest e)
  byte_sound p k rest e false h = here (KindFault count) p Kind (k, rest, e, ltb-false k count h)

  kind_sound : (p : Place) (bytes : List ℕ) → p.rest ≡ bytes → Answers (λ k. k < count) one (FaultHere (KindFault count)) p (kind_behind count p bytes)
  kind_sound p [] e = here (KindFault count) p Short e
  kind_sound p (k ∷ rest) e = byte_sound p k rest e (ltb k count) refl

  kind_again : (p : Place) (k : ℕ) (rest : List ℕ) → k < count → p.rest ≡ one k ++ rest → kind_at count p ≡ Ok (k, moved p rest)
  unfolding kind_at
  kind_again p k rest h e =
      let below : ltb k count ≡ true = lt-ltb k count h in
      ap (kind_behind count p) e ∙ rw below refl

  kind_told : (p : Place) (kind : DataKind) → AreBytes p.rest → KindFault count p.rest kind → kind_at count p ≡ Err (fault_here p kind)
  unfolding kind_at
  kind_told p Short b h = ap (kind_behind count p) h
  kind_told p Kind b h =
      let past : ltb h.0 count ≡ false = le-ltb h.0 count h.3 in
      ap (kind_behind count p) h.2 ∙ rw past refl
  kind_told p _ b h = absurd h

  pub kind_reader : IsReader (λ k. k < count) one (FaultHere (KindFault count)) (kind_at count)
  unfolding kind_at
  kind_reader =
      field_reader _ _ _ _ (record { sound = λ p b. kind_sound p p.rest refl; again = kind_again; told = kind_told })

-- ---- bytes of a set

module _ (allowed : List ℕ) where
  abbrev ByteAnswers : Place → Reading ℕ → Type 0
  ByteAnswers = Answers (λ b. IsTrue (is_one_of allowed b)) one (FaultHere (ByteFault allowed))

  allowed_sound : (p : Place) (b : ℕ) (rest : List ℕ) → p.rest ≡ b ∷ rest → (t : Bool) → is_one_of allowed b ≡ t
      → ByteAnswers p (cond t (Ok (b, moved p rest)) (Err (fault_here p Kind)))
  allowed_sound p b rest e true h = (h, Passes-moved p (one b) rest e)
  allowed_sound p b rest e false h = here (ByteFault allowed) p Kind (b, rest, e, h)

  byte_of_sound : (p : Place) (bytes : List ℕ) → p.rest ≡ bytes → ByteAnswers p (byte_of_behind allowed p bytes)
  byte_of_sound p [] e = here (ByteFault allowed) p Short e
  byte_of_sound p (b ∷ rest) e = allowed_sound p b rest e (is_one_of allowed b) refl

  byte_of_again : (p : Place) (b : ℕ) (rest : List ℕ) → IsTrue (is_one_of allowed b) → p.rest ≡ one b ++ rest → byte_of_at allowed p ≡ Ok (b, moved p rest)
  unfolding byte_of_at
  byte_of_again p b rest h e = ap (byte_of_behind allowed p) e ∙ rw h refl

  byte_of_told : (p : Place) (kind : DataKind) → AreBytes p.rest → ByteFault allowed p.rest kind → byte_of_at allowed p ≡ Err (fault_here p kind)
  unfolding byte_of_at
  byte_of_told p Short b h = ap (byte_of_behind allowed p) h
  byte_of_told p Kind b h = ap (byte_of_behind allowed p) h.2 ∙ rw h.3 refl
  byte_of_told p _ b h = absurd h

  pub byte_of_reader : IsReader (λ b. IsTrue (is_one_of allowed b)) one (FaultHere (ByteFault allowed)) (byte_of_at allowed)
  unfolding byte_of_at
  byte_of_reader =
      field_reader _ _ _ _ (record { sound = λ p b. byte_of_sound p p.rest refl; again = byte_of_again; told = byte_of_told })

  refused_behind : (p : Place) (bytes : List ℕ) (b : ℕ) → Some b ≡ slice_get bytes 0 → IsFalse (is_one_of allowed b) → byte_of_behind allowed p bytes ≡ Err (fault_here p Kind)
  refused_behind p [] b first not_one = absurd cc
  refused_behind p (x ∷ rest) b first not_one = (let is : b ≡ x = cc in let none : is_one_of allowed x ≡ false = subst (λ (y : ℕ). IsFalse (is_one_of allowed y)) is not_one in rw none refl)

  pub not_allowed : (p : Place) (b : ℕ) → Some b ≡ slice_get p.rest 0 → IsFalse (is_one_of allowed b) → byte_of_at allowed p ≡ Err (fault_here p Kind)
  unfolding byte_of_at
  not_allowed p b first not_one = refused_behind p p.rest b first not_one

-- ---- numbers of four bytes

abbrev four : ℕ → List ℕ
four n = to_be_bytes w32 n

four_small : (bytes : List ℕ) → AreBytes bytes → from_be_bytes w32 bytes < 2 ^ 32
four_small bytes b = omega (arith, b 0, b 1, b 2, b 3)

AreBytes-take : (n : ℕ) (bytes : List ℕ) → AreBytes bytes → AreBytes (take n bytes)
AreBytes-take zero bytes b i = omega arith
AreBytes-take (suc n) [] b i = omega arith
AreBytes-take (suc n) (x ∷ bytes) b zero = b 0
AreBytes-take (suc n) (x ∷ bytes) b (suc i) = AreBytes-take n bytes (λ j. b (suc j)) i

u32_sound : (p : Place) → AreBytes p.rest → (t : Bool) → ltb (length p.rest) 4 ≡ t
    → Answers (λ n. n < 2 ^ 32) four (FaultHere (RawFault 4)) p (mapped (from_be_bytes w32) (cond t (Err (fault_here p Short)) (Ok (take 4 p.rest, moved p (drop 4 p.rest)))))
u32_sound p b true e = here (RawFault 4) p Short (ltb-true (length p.rest) 4 e)
u32_sound p b false e =
    let long : 4 ≤ length p.rest = ltb-false (length p.rest) 4 e in
    let bytes = take 4 p.rest in
    let each : AreBytes bytes = AreBytes-take 4 p.rest b in
    let len : length bytes ≡ 4 = omega (arith, length-take 4 p.rest) in
    let spelled : four (from_be_bytes w32 bytes) ≡ bytes = be_bytes_4 bytes (from_be_bytes w32 bytes) len each refl in
    (four_small bytes each, Passes-moved p (four (from_be_bytes w32 bytes)) (drop 4 p.rest) (sym (take-append-drop 4 p.rest) ∙ ap (λ (front : List ℕ). front ++ drop 4 p.rest) (sym spelled)))

u32_again : (p : Place) (n : ℕ) (rest : List ℕ) → n < 2 ^ 32 → p.rest ≡ four n ++ rest → u32_at p ≡ Ok (n, moved p rest)
u32_again p n rest h e =
    ap (λ (r : Reading (List ℕ)). mapped (from_be_bytes w32) r) (raw_again 4 p (four n) rest refl e)
    ∙ ap (λ (m : ℕ). done m (moved p rest)) (from_be_bytes-to_be_bytes_4 n h)

u32_told : (p : Place) (kind : DataKind) → AreBytes p.rest → RawFault 4 p.rest kind → u32_at p ≡ Err (fault_here p kind)
u32_told p kind b h = ap (λ (r : Reading (List ℕ)). mapped (from_be_bytes w32) r) (raw_told 4 p kind b h)

pub u32_reader : IsReader (λ n. n < 2 ^ 32) four (FaultHere (RawFault 4)) u32_at
unfolding raw_at
u32_reader =
    field_reader _ _ _ _ (record { sound = λ p b. u32_sound p b (ltb (length p.rest) 4) refl; again = u32_again; told = u32_told })
