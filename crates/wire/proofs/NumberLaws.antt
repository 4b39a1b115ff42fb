-- The laws of numbers, and what they say of a reader's answer.
use Rattle.std.proofs.Common.{◌≡◌, ℕ, zero, suc, ◌+◌, ◌/◌, ◌%◌, ◌^◌, ◌≤◌, ◌<◌, List, [], ◌∷◌, ◌++◌, length, take, drop, Result, Ok, Err, sym, ap, ◌∙◌, inl, inr, arith}
use Rattle.std.specs.Prelude.{◌↔◌, MatchResult, IfOk}
use Rattle.std.proofs.lemmas.Bool.{cases_lt}
use Rattle.std.proofs.lemmas.List.{append_cancel_right, take-append-drop, length-append, length-drop}
use Rattle.wire.specs.declared.fault.WireFault.{WireFault}
use Rattle.wire.specs.declared.fault.WireFault.TheVariants.{Short, NotShortest, TooBig}
use Rattle.wire.specs.Spelling.{AreBytes, limit, groups, varint}
use Rattle.wire.specs.Reading.{varint_at, IsTooBig, IsShort, IsNotShortest}
use Rattle.wire.specs.Laws.{VarintLaws}
use Rattle.wire.proofs.Groups.{read, same_read, groups-small, groups-large, groups-more, groups_again, groups_spelled}
use Rattle.wire.proofs.Faults.{too_big_is, too_big_again, short_is, short_again, not_shortest_is, not_shortest_again}

-- ---- numbers

varint-small : (n : ℕ) → n < 128 → varint n ≡ n ∷ []
unfolding varint
varint-small n h = groups-small 8 n h

varint-large : (n : ℕ) → 128 ≤ n → n < 2 ^ 63 → varint n ≡ (128 + n % 128) ∷ varint (n / 128)
unfolding varint
varint-large n large h = groups-large 7 n large ∙ ap (λ (s : List ℕ). (128 + n % 128) ∷ s) (sym (groups-more 7 (n / 128) (omega arith)))

groups_length : (k n : ℕ) → (0 < length (groups k n)) × (length (groups k n) ≤ suc k)
unfolding groups
groups_length zero n = (omega arith, omega arith)
groups_length (suc k) n =
    elim (cases_lt n 128) [
      | inl lt ↦ rw (groups-small (suc k) n lt) (omega arith, omega arith)
      | inr le ↦ (let rest = groups_length k (n / 128) in rw (groups-large k n le) (omega arith, omega (arith, rest.1)))
    ]

AreBytes-more : (b : ℕ) (rest : List ℕ) → b < 256 → AreBytes rest → AreBytes (b ∷ rest)
AreBytes-more b rest h each zero = h
AreBytes-more b rest h each (suc i) = each i

AreBytes-none : AreBytes []
AreBytes-none i = omega arith

groups_are_bytes : (k n : ℕ) → n < limit k → AreBytes (groups k n)
groups_are_bytes zero n h = rw (groups-small zero n h) (AreBytes-more n [] (omega arith) AreBytes-none)
groups_are_bytes (suc k) n h =
    elim (cases_lt n 128) [
      | inl lt ↦ rw (groups-small (suc k) n lt) (AreBytes-more n [] (omega arith) AreBytes-none)
      | inr le ↦ rw (groups-large k n le) (AreBytes-more (128 + n % 128) (groups k (n / 128)) (omega arith) (groups_are_bytes k (n / 128) (omega arith)))
    ]

varint_length : (n : ℕ) → (0 < length (varint n)) × (length (varint n) ≤ 9)
unfolding varint
varint_length n = groups_length 8 n

varint_are_bytes : (n : ℕ) → n < 2 ^ 63 → AreBytes (varint n)
unfolding varint
varint_are_bytes n h = groups_are_bytes 8 n h

pub varint_again : (n : ℕ) (rest : List ℕ) → n < 2 ^ 63 → varint_at (varint n ++ rest) ≡ Ok (n, rest)
unfolding varint varint_at
varint_again n rest h = groups_again 8 n rest h

pub varint_spelled : (bytes : List ℕ) (n : ℕ) (rest : List ℕ) → AreBytes bytes → varint_at bytes ≡ Ok (n, rest) → (n < 2 ^ 63) × (bytes ≡ varint n ++ rest) × AreBytes rest
unfolding varint varint_at
varint_spelled bytes n rest fits e = groups_spelled 8 bytes n rest fits e

varint_one_form : (m n : ℕ) (x y : List ℕ) → m < 2 ^ 63 → n < 2 ^ 63 → varint m ++ x ≡ varint n ++ y → (m ≡ n) × (x ≡ y)
varint_one_form m n x y hm hn e = same_read m n x y (sym (varint_again m x hm) ∙ ap varint_at e ∙ varint_again n y hn)

pub varint_too_big : (bytes : List ℕ) → (varint_at bytes ≡ Err TooBig) ↔ IsTooBig bytes
unfolding varint_at
varint_too_big bytes = (too_big_is 8 bytes, too_big_again 8 bytes)

pub varint_short : (bytes : List ℕ) → (varint_at bytes ≡ Err Short) ↔ IsShort bytes
unfolding varint_at
varint_short bytes = (short_is 8 bytes, λ h. short_again 8 bytes h.0 h.1)

pub varint_not_shortest : (bytes : List ℕ) → (varint_at bytes ≡ Err NotShortest) ↔ IsNotShortest bytes
unfolding varint_at
varint_not_shortest bytes = (λ e. (let h = not_shortest_is 8 bytes e in (h.0, h.1.0, h.1.1, h.1.2, h.1.3)), λ h. not_shortest_again h.0 8 bytes (h.1, h.2, h.3, h.4))

pub varint_laws : VarintLaws
varint_laws = record {
  small = varint-small;
  large = varint-large;
  some = λ n h. (varint_length n).0;
  few = λ n h. (varint_length n).1;
  are_bytes = varint_are_bytes;
  one_form = varint_one_form;
  again = varint_again;
  spelled = varint_spelled;
  too_big = varint_too_big;
  not_shortest = varint_not_shortest;
  short = varint_short;
}

-- ---- a reader's answer

abbrev found : ℕ × ℕ → Result (ℕ × ℕ) WireFault
found p = Ok p

pair_is : (a b c d : ℕ) → a ≡ b → c ≡ d → ◌≡◌ {A = ℕ × ℕ} (a, c) (b, d)
pair_is a b c d p q = ap (λ (x : ℕ). (x, c)) p ∙ ap (λ (x : ℕ). (b, x)) q

-- the number and how many bytes it took, as reading says
abbrev pub Reads : List ℕ → Result (ℕ × ℕ) WireFault → Type 0
Reads bytes r = MatchResult r (λ x. varint_at bytes ≡ Ok (x.0, drop x.1 bytes)) (λ e. varint_at bytes ≡ Err e)

abbrev pub Within : List ℕ → Result (ℕ × ℕ) WireFault → Type 0
Within bytes r = IfOk r (λ x. x.1 ≤ length bytes)

-- what is in front of the bytes that are left
pub front_of : (bytes front : List ℕ) (taken : ℕ) → bytes ≡ front ++ drop taken bytes → take taken bytes ≡ front
front_of bytes front taken e = append_cancel_right (take taken bytes) front (drop taken bytes) (take-append-drop taken bytes ∙ e)

pub is_spelled : (bytes : List ℕ) (r : Result (ℕ × ℕ) WireFault) → AreBytes bytes → Reads bytes r → IfOk r (λ x. (x.0 < 2 ^ 63) × (take x.1 bytes ≡ varint x.0))
is_spelled bytes (Ok x) fits e =
    let h = varint_spelled bytes x.0 (drop x.1 bytes) fits e in
    (h.0, front_of bytes (varint x.0) x.1 h.1)
is_spelled bytes (Err f) fits e = tt

pub taken_is : (bytes front rest : List ℕ) (taken : ℕ) → taken ≤ length bytes → bytes ≡ front ++ rest → drop taken bytes ≡ rest → taken ≡ length front
taken_is bytes front rest taken le e d = omega (arith, ap length e, ap length d, length-append front rest, length-drop taken bytes)

pub is_read : (bytes : List ℕ) (r : Result (ℕ × ℕ) WireFault) → Within bytes r → Reads bytes r → (n : ℕ) (rest : List ℕ) → n < 2 ^ 63 → bytes ≡ varint n ++ rest → r ≡ Ok (n, length (varint n))
is_read bytes (Ok x) within e n rest h spelled =
    let same = same_read x.0 n (drop x.1 bytes) rest (sym e ∙ ap varint_at spelled ∙ varint_again n rest h) in
    ap (λ (p : ℕ × ℕ). found p) (pair_is x.0 n x.1 (length (varint n)) same.0 (taken_is bytes (varint n) rest x.1 within spelled same.1))
is_read bytes (Err f) within e n rest h spelled = absurd (let again = varint_again n rest h in let here = ap varint_at spelled in cc)

-- ---- faults

-- what was returned, seen by view, is what reading gives
abbrev pub Gives : {X Y : Type 0} → (X → Y) → Result X WireFault → Result Y WireFault → Type 0
Gives view r read = MatchResult r (λ x. read ≡ Ok (view x)) (λ e. read ≡ Err e)

abbrev refused : {A : Type 0} → WireFault → Result A WireFault
refused f = Err f

same_fault : {A : Type 0} (f g : WireFault) → refused {A = A} f ≡ refused g → f ≡ g
same_fault f g e = cc

abbrev given : {A : Type 0} → A → Result A WireFault
given x = Ok x

pub apart : {A : Type 0} (x : A) (f : WireFault) → given x ≡ refused f → ⊥
apart x f e = cc

-- a fault is returned exactly where reading gives it
pub fault_is : {X Y : Type 0} (view : X → Y) (f : WireFault) (r : Result X WireFault) (read : Result Y WireFault) → Gives view r read → (r ≡ Err f) ↔ (read ≡ Err f)
fault_is view f (Ok x) read e = (λ h. absurd (apart x f h), λ h. absurd (apart (view x) f (sym e ∙ h)))
fault_is view f (Err g) read e =
    (λ h. e ∙ ap (λ (w : WireFault). refused w) (same_fault g f h), λ h. ap (λ (w : WireFault). refused w) (same_fault g f (sym e ∙ h)))

pub fault_where : {X Y : Type 0} (view : X → Y) (f : WireFault) (r : Result X WireFault) (read : Result Y WireFault) (P : Type 0) → Gives view r read → (read ≡ Err f) ↔ P → (r ≡ Err f) ↔ P
fault_where view f r read P e law =
    let is = fault_is view f r read e in
    (λ h. law.0 (is.0 h), λ p. is.1 (law.1 p))
