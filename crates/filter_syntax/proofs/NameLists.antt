-- Names joined by commas, read byte by byte.
use Rattle.std.proofs.Common.{◌≡◌, ◌≢◌, ℕ, ◌<◌, true, false, cond, eqb, List, [], ◌∷◌, ◌++◌, length, arith, refl, sym}
use Rattle.std.proofs.Common.{ap, ◌∙◌, append_assoc, length-append}
use Rattle.std.proofs.lemmas.Bool.{cond-true, cond-false, and_parts, ne_eqb}
use Rattle.std.proofs.lemmas.List.{append-nil}
use Rattle.std.specs.List.{AllByRecursion, join_with_byte, list_all}
use Rattle.filter_syntax.specs.Intermediate.{BeginsNoWord}
use Rattle.filter_syntax.specs.Spelling.{begins_name, is_name_byte, is_word}
use Rattle.filter_syntax.specs.By.{Names, Joins, Begins, GoesOn, IsSyntaxFault, before_next}

abbrev pub AreWords : Names → Type 0
AreWords names = AllByRecursion (λ name. is_word name ≡ true) names

-- ---- where a reader stands

data Spot : Type 0 where
  -- before a word
  Before : Spot
  -- in a word or at its end
  Within : Spot
  -- No text of the grammar begins so.
  Lost : Spot

abbrev step : Spot → ℕ → Spot
step Before b = cond (begins_name b) Within Lost
step Within b = cond (is_name_byte b) Within (cond (eqb b 44) Before Lost)
step Lost b = Lost

abbrev run : Spot → List ℕ → Spot
run s [] = s
run s (b ∷ bs) = run (step s b) bs

run-append : (s : Spot) (a b : List ℕ) → run s (a ++ b) ≡ run (run s a) b
run-append s [] b = refl
run-append s (x ∷ a) b = run-append (step s x) a b

run_bytes : (w : List ℕ) → list_all is_name_byte w ≡ true → run Within w ≡ Within
run_bytes [] are = refl
run_bytes (b ∷ w) are =
    let parts = and_parts (is_name_byte b) (list_all is_name_byte w) are in
    ap (λ (s : Spot). run s w) (cond-true (is_name_byte b) Within (cond (eqb b 44) Before Lost) parts.0)
    ∙ run_bytes w parts.1

run_word : (w : List ℕ) → is_word w ≡ true → run Before w ≡ Within
run_word [] is = cc
run_word (b ∷ w) is =
    let parts = and_parts (begins_name b) (list_all is_name_byte w) is in
    ap (λ (s : Spot). run s w) (cond-true (begins_name b) Within Lost parts.0) ∙ run_bytes w parts.1

run_joined : (n : List ℕ) (names : Names) → AreWords (n ∷ names) → run Before (join_with_byte 44 (n ∷ names)) ≡ Within
run_joined n [] words = run_word n words.0
run_joined n (m ∷ names) words =
    run-append Before n (44 ∷ join_with_byte 44 (m ∷ names))
    ∙ ap (λ (s : Spot). run s (44 ∷ join_with_byte 44 (m ∷ names))) (run_word n words.0)
    ∙ run_joined m names words.1

run_lost : (w : List ℕ) → run Lost w ≡ Lost
run_lost [] = refl
run_lost (b ∷ w) = run_lost w

run_before : (names : Names) → AreWords names → run Before (before_next names) ≡ Before
run_before [] words = refl
run_before (n ∷ names) words =
    run-append Before (n ++ 44 ∷ []) (before_next names)
    ∙ ap (λ (s : Spot). run s (before_next names))
    (run-append Before n (44 ∷ []) ∙ ap (λ (s : Spot). run s (44 ∷ [])) (run_word n words.0))
    ∙ run_before names words.1

joins_within : (text : List ℕ) (names : Names) → Joins text names → run Before text ≡ Within
joins_within text [] joins = absurd (omega (arith, joins.some))
joins_within text (n ∷ names) joins = ap (run Before) joins.joined ∙ run_joined n names joins.words

lost_not_within : Lost ≡ Within → ⊥
lost_not_within e = cc

before_not_within : Before ≡ Within → ⊥
before_not_within e = cc

not_lost : (front : List ℕ) → Begins front → run Before front ≡ Lost → ⊥
not_lost front begins lost =
    lost_not_within (sym (run_lost begins.1) ∙ sym (ap (λ (s : Spot). run s begins.1) lost)
    ∙ sym (run-append Before front begins.1) ∙ joins_within (front ++ begins.1) begins.0 begins.2)

-- ---- names with a comma after each, and one more

join_cons : (x : List ℕ) (xs : Names) → 0 < length xs → join_with_byte 44 (x ∷ xs) ≡ x ++ (44 ∷ join_with_byte 44 xs)
join_cons x [] some = absurd (omega arith)
join_cons x (y ∷ xs) some = refl

pub joined_more : (names : Names) (w : List ℕ) → before_next names ++ w ≡ join_with_byte 44 (names ++ w ∷ [])
joined_more [] w = refl
joined_more (n ∷ names) w =
    append_assoc (n ++ 44 ∷ []) (before_next names) w ∙ append_assoc n (44 ∷ []) (before_next names ++ w)
    ∙ ap (λ (l : List ℕ). n ++ (44 ∷ l)) (joined_more names w)
    ∙ sym (join_cons n (names ++ w ∷ []) (omega (arith, length-append names (w ∷ []))))

pub words_more : (names : Names) (w : List ℕ) → AreWords names → is_word w ≡ true → AreWords (names ++ w ∷ [])
words_more [] w words is = (is, tt)
words_more (n ∷ names) w words is = (words.0, words_more names w words.1 is)

pub before_more : (names : Names) (w : List ℕ) → before_next (names ++ w ∷ []) ≡ before_next names ++ (w ++ 44 ∷ [])
before_more [] w = append-nil (w ++ 44 ∷ [])
before_more (n ∷ names) w = ap (λ (l : List ℕ). (n ++ 44 ∷ []) ++ l) (before_more names w)
    ∙ sym (append_assoc (n ++ 44 ∷ []) (before_next names) (w ++ 44 ∷ []))

pub joins_more : (names : Names) (w text : List ℕ) → AreWords names → is_word w ≡ true → text ≡ before_next names ++ w
    → Joins text (names ++ w ∷ [])
joins_more names w text words is split = record {
  some = omega (arith, length-append names (w ∷ []));
  words = words_more names w words is;
  joined = split ∙ joined_more names w;
}

begins_word : (names : Names) → AreWords names → Begins (before_next names)
begins_word names words = (
  names ++ (97 ∷ []) ∷ [],
  97 ∷ [],
  joins_more names (97 ∷ []) (before_next names ++ 97 ∷ []) words refl refl,
)

begins_within : (names : Names) (w : List ℕ) → AreWords names → is_word w ≡ true → Begins (before_next names ++ w)
begins_within names w words is = (
  names ++ w ∷ [],
  [],
  joins_more names w ((before_next names ++ w) ++ []) words is (append-nil (before_next names ++ w)),
)

-- ---- where no text of the grammar goes on

pub fault_before : (text rest : List ℕ) (names : Names) (at : ℕ) → AreWords names → text ≡ before_next names ++ rest
    → at ≡ length (before_next names)
    → BeginsNoWord rest → IsSyntaxFault text at
fault_before text rest names at words split place starts = record {
  front = before_next names;
  rest = rest;
  split = split;
  place = place;
  begins = begins_word names words;
  ends = ends rest starts;
}
  where
    ends : (rest : List ℕ) → BeginsNoWord rest → GoesOn (before_next names) rest → ⊥
    ends [] starts on = before_not_within (sym (run_before names words) ∙ joins_within (before_next names) on.0 on.1)
    ends (b ∷ rest) starts on = not_lost (before_next names ++ b ∷ []) on
        (run-append Before (before_next names) (b ∷ []) ∙ ap (λ (s : Spot). run s (b ∷ [])) (run_before names words)
        ∙ cond-false (begins_name b) Within Lost starts)

pub fault_within : (text w rest : List ℕ) (b : ℕ) (names : Names) (at : ℕ) → AreWords names → is_word w ≡ true
    → text ≡ (before_next names ++ w) ++ (b ∷ rest)
    → at ≡ length (before_next names ++ w) → is_name_byte b ≡ false → b ≢ 44 → IsSyntaxFault text at
fault_within text w rest b names at words is split place apart other = record {
  front = before_next names ++ w;
  rest = b ∷ rest;
  split = split;
  place = place;
  begins = begins_within names w words is;
  ends = λ on. not_lost ((before_next names ++ w) ++ b ∷ []) on lost;
}
  where
    within : run Before (before_next names ++ w) ≡ Within
    within = run-append Before (before_next names) w ∙ ap (λ (s : Spot). run s w) (run_before names words)
        ∙ run_word w is

    lost : run Before ((before_next names ++ w) ++ b ∷ []) ≡ Lost
    lost = run-append Before (before_next names ++ w) (b ∷ []) ∙ ap (λ (s : Spot). run s (b ∷ [])) within
        ∙ cond-false (is_name_byte b) Within (cond (eqb b 44) Before Lost) apart
        ∙ cond-false (eqb b 44) Before Lost (ne_eqb b 44 other)
