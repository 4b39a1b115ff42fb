-- The laws of strings.
use Rattle.std.proofs.Common.{◌≡◌, ℕ, ◌+◌, ◌^◌, ◌≤◌, ◌<◌, Bool, true, false, cond, ltb, List, ◌++◌, length, take, drop, Bor, Result, Ok, Err, refl, sym, ap, subst, ◌∙◌, inl, inr, append_assoc, arith}
use Rattle.std.specs.Prelude.{◌↔◌, ◌⊎◌, IfOk, IsOkAnd}
use Rattle.std.proofs.lemmas.Bool.{lt-ltb, le-ltb, ltb-true, ltb-false, cond-true, cond-false}
use Rattle.std.proofs.lemmas.List.{take-append-drop, length-append, length-take-le, take_at, drop_at, get_or-drop}
use Rattle.wire.specs.declared.fault.WireFault.{WireFault}
use Rattle.wire.specs.declared.fault.WireFault.TheVariants.{Short, NotShortest, TooBig}
use Rattle.wire.specs.Spelling.{AreBytes, varint, varstring}
use Rattle.wire.specs.Reading.{Read, varint_at, varstring_at, cut_at, string_behind, IsNotShortest, IsTooBigString, IsShortString}
use Rattle.wire.specs.Laws.{VarstringLaws}
use Rattle.wire.proofs.Groups.{read, failed, same_read}
use Rattle.wire.proofs.NumberLaws.{Gives, front_of, taken_is, varint_again, varint_spelled, varint_too_big, varint_short, varint_not_shortest}

-- ---- a string after a length that was read

-- so many bytes after a length, and the rest
pub record Cuts (most len : ℕ) (after s rest : List ℕ) : Type 0 where
  pub allowed : len ≤ most
  pub long : len ≤ length after
  pub cut : take len after ≡ s
  pub left : drop len after ≡ rest

cut_ok : (t u : Bool) (s rest x after : List ℕ) → cond t (failed TooBig) (cond u (failed Short) (read s rest)) ≡ read x after → (t ≡ false) × (u ≡ false) × (s ≡ x) × (rest ≡ after)
cut_ok true u s rest x after e = absurd cc
cut_ok false true s rest x after e = absurd cc
cut_ok false false s rest x after e = (let same = same_read s x rest after e in (refl, refl, same.0, same.1))

string_ok : (most : ℕ) (r : Read ℕ) (s rest : List ℕ) → string_behind most r ≡ Ok (s, rest) → (len : ℕ) × (after : List ℕ) × (r ≡ Ok (len, after)) × Cuts most len after s rest
string_ok most (Ok x) s rest e =
    let h = cut_ok (ltb most x.0) (ltb (length x.1) x.0) (take x.0 x.1) (drop x.0 x.1) s rest e in
    (x.0, x.1, refl, record { allowed = ltb-false most x.0 h.0; long = ltb-false (length x.1) x.0 h.1; cut = h.2; left = h.3 })
string_ok most (Err f) s rest e = absurd cc

AreBytes-drop : (n : ℕ) (bytes : List ℕ) → AreBytes bytes → AreBytes (drop n bytes)
AreBytes-drop n bytes h i = rw get_or-drop (h (n + i))

abbrev IsRead : ℕ → List ℕ → List ℕ → List ℕ → Type 0
IsRead most bytes s rest = (length s ≤ most) × (length s < 2 ^ 63) × (bytes ≡ varstring s ++ rest) × AreBytes rest

cut_is_read : (most len : ℕ) (bytes after : List ℕ) → len ≤ most → len ≤ length after → len < 2 ^ 63 → bytes ≡ varint len ++ after → AreBytes after → IsRead most bytes (take len after) (drop len after)
unfolding varstring
cut_is_read most len bytes after allowed long small spelled fits =
    let len-is : length (take len after) ≡ len = length-take-le len after long in
    let parts : (varint len ++ take len after) ++ drop len after ≡ bytes = append_assoc (varint len) (take len after) (drop len after) ∙ ap (λ (x : List ℕ). varint len ++ x) (take-append-drop len after) ∙ sym spelled in
    (omega arith, omega arith, sym (ap (λ (k : ℕ). (varint k ++ take len after) ++ drop len after) len-is ∙ parts), AreBytes-drop len after fits)

pub varstring_spelled : (most : ℕ) (bytes s rest : List ℕ) → AreBytes bytes → varstring_at most bytes ≡ Ok (s, rest) → IsRead most bytes s rest
unfolding varstring_at
varstring_spelled most bytes s rest fits e =
    let h = string_ok most (varint_at bytes) s rest e in
    let number = varint_spelled bytes h.0 h.1 fits h.2 in
    let whole = cut_is_read most h.0 bytes h.1 h.3.allowed h.3.long number.0 number.1 number.2 in
    let first : IsRead most bytes s (drop h.0 h.1) = subst (λ (x : List ℕ). IsRead most bytes x (drop h.0 h.1)) h.3.cut whole in
    subst (λ (x : List ℕ). IsRead most bytes s x) h.3.left first

string_again : (most : ℕ) (s rest : List ℕ) → length s ≤ most → string_behind most (Ok (length s, s ++ rest)) ≡ Ok (s, rest)
string_again most s rest allowed =
    cond-false (ltb most (length s)) (failed TooBig) (cut_at (length s) (s ++ rest)) (le-ltb most (length s) allowed)
    ∙ cond-false (ltb (length (s ++ rest)) (length s)) (failed Short) (read (take (length s) (s ++ rest)) (drop (length s) (s ++ rest))) (le-ltb (length (s ++ rest)) (length s) (omega (arith, length-append s rest)))
    ∙ rw (take_at s rest (length s) refl, drop_at s rest (length s) refl) refl

pub varstring_again : (most : ℕ) (s rest : List ℕ) → length s ≤ most → length s < 2 ^ 63 → varstring_at most (varstring s ++ rest) ≡ Ok (s, rest)
unfolding varstring_at varstring
varstring_again most s rest allowed small =
    ap (λ (x : List ℕ). string_behind most (varint_at x)) (append_assoc (varint (length s)) s rest)
    ∙ ap (λ (r : Read ℕ). string_behind most r) (varint_again (length s) (s ++ rest) small)
    ∙ string_again most s rest allowed

varstring_one_form : (s t x y : List ℕ) → length s < 2 ^ 63 → length t < 2 ^ 63 → varstring s ++ x ≡ varstring t ++ y → (s ≡ t) × (x ≡ y)
varstring_one_form s t x y hs ht e =
    same_read s t x y (sym (varstring_again (2 ^ 63) s x (omega arith) hs) ∙ ap (varstring_at (2 ^ 63)) e ∙ varstring_again (2 ^ 63) t y (omega arith) ht)

varstring_is : (x : List ℕ) → varstring x ≡ varint (length x) ++ x
unfolding varstring
varstring_is x = refl

-- ---- faults

same_failed : (f g : WireFault) → failed {A = List ℕ} f ≡ failed g → failed {A = ℕ} f ≡ failed g
same_failed f g e = (let same : f ≡ g = cc in ap (λ (w : WireFault). failed w) same)

-- why a string after its length is refused
too_long : (t u : Bool) (s rest : List ℕ) → cond t (failed TooBig) (cond u (failed Short) (read s rest)) ≡ failed TooBig → t ≡ true
too_long true u s rest h = refl
too_long false true s rest h = absurd cc
too_long false false s rest h = absurd cc

cut_short : (t u : Bool) (s rest : List ℕ) → cond t (failed TooBig) (cond u (failed Short) (read s rest)) ≡ failed Short → (t ≡ false) × (u ≡ true)
cut_short true u s rest h = absurd cc
cut_short false true s rest h = (refl, refl)
cut_short false false s rest h = absurd cc

never : (t u : Bool) (s rest : List ℕ) → cond t (failed TooBig) (cond u (failed Short) (read s rest)) ≡ failed NotShortest → ⊥
never true u s rest h = cc
never false true s rest h = cc
never false false s rest h = cc

behind_too_big : (most : ℕ) (r : Read ℕ) → string_behind most r ≡ Err TooBig → (r ≡ Err TooBig) ⊎ ((len : ℕ) × (after : List ℕ) × (r ≡ Ok (len, after)) × (most < len))
behind_too_big most (Ok x) e = inr (x.0, x.1, refl, ltb-true most x.0 (too_long (ltb most x.0) (ltb (length x.1) x.0) (take x.0 x.1) (drop x.0 x.1) e))
behind_too_big most (Err f) e = inl (same_failed f TooBig e)

behind_short : (most : ℕ) (r : Read ℕ) → string_behind most r ≡ Err Short → (r ≡ Err Short) ⊎ ((len : ℕ) × (after : List ℕ) × (r ≡ Ok (len, after)) × (len ≤ most) × (length after < len))
behind_short most (Ok x) e =
    let h = cut_short (ltb most x.0) (ltb (length x.1) x.0) (take x.0 x.1) (drop x.0 x.1) e in
    inr (x.0, x.1, refl, ltb-false most x.0 h.0, ltb-true (length x.1) x.0 h.1)
behind_short most (Err f) e = inl (same_failed f Short e)

behind_not_shortest : (most : ℕ) (r : Read ℕ) → string_behind most r ≡ Err NotShortest → r ≡ Err NotShortest
behind_not_shortest most (Ok x) e = absurd (never (ltb most x.0) (ltb (length x.1) x.0) (take x.0 x.1) (drop x.0 x.1) e)
behind_not_shortest most (Err f) e = same_failed f NotShortest e

too_long_again : (most len : ℕ) (after : List ℕ) → most < len → string_behind most (Ok (len, after)) ≡ Err TooBig
too_long_again most len after h = cond-true (ltb most len) (failed TooBig) (cut_at len after) (lt-ltb most len h)

cut_short_again : (most len : ℕ) (after : List ℕ) → len ≤ most → length after < len → string_behind most (Ok (len, after)) ≡ Err Short
cut_short_again most len after allowed short =
    cond-false (ltb most len) (failed TooBig) (cut_at len after) (le-ltb most len allowed)
    ∙ cond-true (ltb (length after) len) (failed Short) (read (take len after) (drop len after)) (lt-ltb (length after) len short)

-- a number that was spelled is read
here : (bytes : List ℕ) (n : ℕ) (rest : List ℕ) → bytes ≡ varint n ++ rest → n < 2 ^ 63 → varint_at bytes ≡ Ok (n, rest)
here bytes n rest spelled small = ap varint_at spelled ∙ varint_again n rest small

module _ (most : ℕ) (bytes : List ℕ) (fits : AreBytes bytes) where
  is_too_big : varstring_at most bytes ≡ Err TooBig → IsTooBigString most bytes
  unfolding varstring_at
  is_too_big e =
      elim (behind_too_big most (varint_at bytes) e) [
        | inl number ↦ inl ((varint_too_big bytes).0 number)
        | inr long ↦ (let number = varint_spelled bytes long.0 long.1 fits long.2 in inr (long.0, long.1, number.1, number.0, long.3))
      ]

  too_big_again : IsTooBigString most bytes → varstring_at most bytes ≡ Err TooBig
  unfolding varstring_at
  too_big_again h =
      elim h [
        | inl number ↦ ap (λ (r : Read ℕ). string_behind most r) ((varint_too_big bytes).1 number)
        | inr long ↦ ap (λ (r : Read ℕ). string_behind most r) (here bytes long.0 long.1 long.2 long.3) ∙ too_long_again most long.0 long.1 long.4
      ]

  is_short : varstring_at most bytes ≡ Err Short → IsShortString most bytes
  unfolding varstring_at
  is_short e =
      elim (behind_short most (varint_at bytes) e) [
        | inl number ↦ inl ((varint_short bytes).0 number)
        | inr cut ↦ (let number = varint_spelled bytes cut.0 cut.1 fits cut.2 in inr (cut.0, cut.1, number.1, number.0, cut.3, cut.4))
      ]

  short_again : IsShortString most bytes → varstring_at most bytes ≡ Err Short
  unfolding varstring_at
  short_again h =
      elim h [
        | inl number ↦ ap (λ (r : Read ℕ). string_behind most r) ((varint_short bytes).1 number)
        | inr cut ↦ ap (λ (r : Read ℕ). string_behind most r) (here bytes cut.0 cut.1 cut.2 cut.3) ∙ cut_short_again most cut.0 cut.1 cut.4 cut.5
      ]

  pub varstring_too_big : (varstring_at most bytes ≡ Err TooBig) ↔ IsTooBigString most bytes
  varstring_too_big = (is_too_big, too_big_again)

  pub varstring_short : (varstring_at most bytes ≡ Err Short) ↔ IsShortString most bytes
  varstring_short = (is_short, short_again)

  pub varstring_not_shortest : (varstring_at most bytes ≡ Err NotShortest) ↔ IsNotShortest bytes
  unfolding varstring_at
  varstring_not_shortest =
      (λ e. (varint_not_shortest bytes).0 (behind_not_shortest most (varint_at bytes) e), λ h. ap (λ (r : Read ℕ). string_behind most r) ((varint_not_shortest bytes).1 h))

pub varstring_laws : VarstringLaws
varstring_laws = record {
  is = varstring_is;
  one_form = varstring_one_form;
  again = varstring_again;
  spelled = varstring_spelled;
  too_big = varstring_too_big;
  not_shortest = varstring_not_shortest;
  short = varstring_short;
}

-- ---- a reader's answer

abbrev pub seen : List ℕ → Bor (List ℕ) × ℕ → List ℕ × List ℕ
seen bytes x = (x.0.now, drop x.1 bytes)

pub string_spelled : (most : ℕ) (bytes : List ℕ) (r : Result (Bor (List ℕ) × ℕ) WireFault) → AreBytes bytes → Gives (seen bytes) r (varstring_at most bytes) → IfOk r (λ x. take x.1 bytes ≡ varstring x.0.now)
string_spelled most bytes (Ok x) fits e = front_of bytes (varstring x.0.now) x.1 (varstring_spelled most bytes x.0.now (drop x.1 bytes) fits e).2
string_spelled most bytes (Err f) fits e = tt

-- no string in fewer than 2 ^ 63 bytes has as many
part_small : (bytes s rest : List ℕ) → length bytes < 2 ^ 63 → bytes ≡ varstring s ++ rest → length s < 2 ^ 63
unfolding varstring
part_small bytes s rest small spelled =
    omega (arith, ap length spelled, length-append (varint (length s) ++ s) rest, length-append (varint (length s)) s)

pub string_read : (most : ℕ) (bytes : List ℕ) (r : Result (Bor (List ℕ) × ℕ) WireFault) → length bytes < 2 ^ 63 → IfOk r (λ x. (length x.0.now ≤ most) × (x.1 ≤ length bytes)) → Gives (seen bytes) r (varstring_at most bytes)
    → (s rest : List ℕ) → length s ≤ most → bytes ≡ varstring s ++ rest → IsOkAnd r (λ x. (x.0.now ≡ s) × (x.1 ≡ length (varstring s)))
string_read most bytes (Ok x) small within e s rest allowed spelled =
    let same = same_read x.0.now s (drop x.1 bytes) rest (sym e ∙ ap (varstring_at most) spelled ∙ varstring_again most s rest allowed (part_small bytes s rest small spelled)) in
    (same.0, taken_is bytes (varstring s) rest x.1 within.1 spelled same.1)
string_read most bytes (Err f) small within e s rest allowed spelled =
    absurd (let again = varstring_again most s rest allowed (part_small bytes s rest small spelled) in let at_front = ap (varstring_at most) spelled in cc)
