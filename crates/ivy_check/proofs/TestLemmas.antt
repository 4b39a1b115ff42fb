-- What the first test of several lists is.
use Rattle.std.proofs.Common.{◌≡◌, ℕ, Bool, true, false, List, [], ◌∷◌, ◌++◌, Option, Some, None, Result, Ok, Err}
use Rattle.std.proofs.Common.{refl, ap, sym, ◌∙◌, ◌+◌, ◌<◌, suc, if◌then◌else◌, IsErrAnd, length, drop, get_or, drop-cons, add-one}
use Rattle.std.proofs.Common.{take}
use Rattle.std.specs.List.{flat_map}
use Rattle.std.proofs.lemmas.List.{take_more}
use Rattle.ivy_check.specs.declared.fault.Fault.{Fault}
use Rattle.ivy_check.specs.Tests.{Test, Reported, first_of, walked}
use Rattle.ivy_check.specs.Walk.{reported, kind_number}

-- the first of these, or the other where there is none
abbrev pub or_first : Option Reported → Option Reported → Option Reported
or_first None other = other
or_first (Some reported) other = Some reported

or_first_if : (holds : Bool) (reported : Reported) (rest other : Option Reported)
    → or_first (if holds then Some reported else rest) other ≡ (if holds then Some reported else or_first rest other)
or_first_if true reported rest other = refl
or_first_if false reported rest other = refl

pub first_of_append : (a b : List Test) → first_of (a ++ b) ≡ or_first (first_of a) (first_of b)
first_of_append [] b = refl
first_of_append (test ∷ a) b =
    ap (λ (later : Option Reported). if test.holds then Some (test.at, test.kind) else later) (first_of_append a b)
    ∙ sym (or_first_if test.holds (test.at, test.kind) (first_of a) (first_of b))

or_none : (a b answer : Option Reported) → None ≡ a → answer ≡ b → answer ≡ or_first a b
or_none None b answer none is = is
or_none (Some reported) b answer none is = cc

or_some : (a b : Option Reported) (reported : Reported) → Some reported ≡ a → Some reported ≡ or_first a b
or_some None b reported is = cc
or_some (Some other) b reported is = is

-- no test of the first list holds, so the second has the answer
pub first_after : (a b : List Test) (answer : Option Reported) → None ≡ first_of a → answer ≡ first_of b
    → answer ≡ first_of (a ++ b)
first_after a b answer none is = or_none (first_of a) (first_of b) answer none is ∙ sym (first_of_append a b)

-- the first list has the answer
pub first_in_prefix : (a b : List Test) (reported : Reported) → Some reported ≡ first_of a → Some reported ≡ first_of (a ++ b)
first_in_prefix a b reported is = or_some (first_of a) (first_of b) reported is ∙ sym (first_of_append a b)

-- a fault that is passed on
pub passed : {X : Type 0} (r : Result X Fault) (f : Fault) → IsErrAnd r (λ other. other ≡ f)
    → reported r ≡ Some (f.at, kind_number f.kind)
passed (Ok x) f is = absurd is
passed (Err other) f is = ap (λ (f : Fault). reported {X = ℕ} (Err f)) is

-- what is left at a place of a list begins with the thing there
pub drop_at : {A : Type 0} (xs : List A) (k : ℕ) (x : A) → k < length xs → x ≡ get_or xs k x
    → drop k xs ≡ x ∷ drop (k + 1) xs
drop_at {A = A} xs k x h is = rw add-one (drop-cons xs k x h ∙ ap (λ (y : A). y ∷ drop (suc k) xs) (sym is))

-- ---- the tests of things in order, from a place on

module _ {A : Type 0} (tests : A → List Test) (xs : List A) (k : ℕ) (x : A) (h : k < length xs) (is : x ≡ get_or xs k x)
  where
    more : List Test
    more = flat_map tests (drop (k + 1) xs)

    here_and_more : first_of (tests x ++ more) ≡ first_of (flat_map tests (drop k xs))
    unfolding more
    here_and_more = ap (λ (ys : List A). first_of (flat_map tests ys)) (sym (drop_at xs k x h is))

    pub flat_here : (reported : Reported) → Some reported ≡ first_of (tests x) → Some reported ≡ first_of (flat_map tests (drop k xs))
    flat_here reported here = first_in_prefix (tests x) more reported here ∙ here_and_more

    pub flat_on : None ≡ first_of (tests x)
        → first_of (flat_map tests (drop (k + 1) xs)) ≡ first_of (flat_map tests (drop k xs))
    unfolding more
    flat_on none = first_after (tests x) more (first_of more) none refl ∙ here_and_more

module _ {A : Type 0} (tests : List A → A → List Test) (xs : List A) (k : ℕ) (x : A) (h : k < length xs)
    (is : x ≡ get_or xs k x) where
  front : List A
  front = take k xs

  later : List Test
  unfolding front
  later = walked tests (front ++ x ∷ []) (drop (k + 1) xs)

  here_and_later : first_of (tests front x ++ later) ≡ first_of (walked tests (take k xs) (drop k xs))
  unfolding later front
  here_and_later = ap (λ (ys : List A). first_of (walked tests front ys)) (sym (drop_at xs k x h is))

  pub walked_here : (reported : Reported) → Some reported ≡ first_of (tests (take k xs) x)
      → Some reported ≡ first_of (walked tests (take k xs) (drop k xs))
  unfolding front
  walked_here reported here = first_in_prefix (tests front x) later reported here ∙ here_and_later

  pub walked_on : None ≡ first_of (tests (take k xs) x)
      → first_of (walked tests (take (k + 1) xs) (drop (k + 1) xs))
      ≡ first_of (walked tests (take k xs) (drop k xs))
  unfolding later front
  walked_on none =
      ap (λ (ys : List A). first_of (walked tests ys (drop (k + 1) xs)))
      (take_more xs k x h ∙ ap (λ (y : A). take k xs ++ y ∷ []) (sym is))
      ∙ first_after (tests front x) later (first_of later) none refl
      ∙ here_and_later
