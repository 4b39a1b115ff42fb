-- Each text has one answer as a list of names.
use Rattle.std.proofs.Common.{◌≡◌, ℕ, ◌+◌, ◌<◌, ◌&&◌, true, false, eqb, List, [], ◌∷◌, ◌++◌, length, Result, Ok, Err}
use Rattle.std.proofs.Common.{arith, refl, sym, ap, ◌∙◌, subst, ◌⊎◌, inl, inr, append_assoc, length-append}
use Rattle.std.proofs.lemmas.Bool.{cases_Bool, cases_order, and_parts, and_from, eqb-true, eqb-false, false≢true}
use Rattle.std.proofs.lemmas.List.{append-nil}
use Rattle.std.proofs.lemmas.List.Folds.{list_all-append}
use Rattle.std.specs.List.{AllByRecursion, list_all, join_with_byte}
use Rattle.filter_syntax.specs.Intermediate.{SplitFault}
use Rattle.filter_syntax.specs.Spelling.{begins_name, is_name_byte, is_word}
use Rattle.filter_syntax.specs.Tokens.{IsApart}
use Rattle.filter_syntax.specs.Attributes.{by_attributes}
use Rattle.filter_syntax.specs.By.{Names, Joins, Begins, GoesOn, IsSyntaxFault, IsKnown, IsFirstUnknown, AnswersBy}
use Rattle.wire.specs.Strings.{is_among}
use Rattle.filter_syntax.specs.By.{before_next, each_once}
use Rattle.filter_syntax.specs.Laws.{ByLaws}
use Rattle.filter_syntax.specs.declared.fault.FilterFault.{FilterFault}
use Rattle.filter_syntax.specs.declared.fault.FilterFault.TheVariants.{Syntax, UnknownAttribute, NoMemory}
use Rattle.filter_syntax.proofs.WordTokens.{word_bytes}
use Rattle.filter_syntax.proofs.NameLists.{AreWords, joins_more, words_more, before_more, fault_before, fault_within}
use Rattle.filter_syntax.proofs.Once.{among_once, never_twice, once_front}

-- ---- a text is names joined by commas, or goes wrong at some place

abbrev Reading : List ℕ → Type 0
Reading text = ((names : Names) × Joins text names) ⊎ ((at : ℕ) × IsSyntaxFault text at)

one_word : (b : ℕ) → begins_name b ≡ true → is_word (b ∷ []) ≡ true
one_word b is = and_from (begins_name b) true is refl

word_on : (w : List ℕ) (b : ℕ) → is_word w ≡ true → is_name_byte b ≡ true → is_word (w ++ b ∷ []) ≡ true
word_on [] b is byte = cc
word_on (c ∷ w) b is byte =
    let parts = and_parts (begins_name c) (list_all is_name_byte w) is in
    and_from (begins_name c) (list_all is_name_byte (w ++ b ∷ [])) parts.0
    (list_all-append is_name_byte w (b ∷ []) ∙ and_from (list_all is_name_byte w) (is_name_byte b && true) parts.1
    (and_from (is_name_byte b) true byte refl))

module _ (text : List ℕ) where
  walk : (rest : List ℕ) (names : Names) (w : List ℕ) → AreWords names → (w ≡ []) ⊎ (is_word w ≡ true)
      → text ≡ (before_next names ++ w) ++ rest → Reading text
  walk [] names w words (inl empty) split =
      let front : text ≡ before_next names ++ [] = split ∙ append-nil (before_next names ++ w)
      ∙ ap (λ (l : List ℕ). before_next names ++ l) empty in
      inr (length (before_next names), fault_before text [] names (length (before_next names)) words front refl tt)
  walk [] names w words (inr word) split = inl (
    names ++ w ∷ [],
    joins_more names w text words word (split ∙ append-nil (before_next names ++ w)),
  )
  walk (b ∷ rest) names w words (inl empty) split =
      by (cases_Bool (begins_name b)) (λ starts. walk rest names (b ∷ []) words (inr (one_word b starts))
      (front ∙ sym (append_assoc (before_next names) (b ∷ []) rest)))
    where
      front : text ≡ before_next names ++ (b ∷ rest)
      front = split ∙ ap (λ (l : List ℕ). (before_next names ++ l) ++ (b ∷ rest)) empty
          ∙ ap (λ (l : List ℕ). l ++ (b ∷ rest)) (append-nil (before_next names))

      by : (begins_name b ≡ true) ⊎ (begins_name b ≡ false) → (begins_name b ≡ true → Reading text) → Reading text
      by (inl starts) on = on starts
      by (inr starts) on = inr (
        length (before_next names),
        fault_before text (b ∷ rest) names (length (before_next names)) words front refl starts,
      )
  walk (b ∷ rest) names w words (inr word) split =
      by (cases_Bool (is_name_byte b)) (cases_Bool (eqb b 44))
      (λ byte. walk rest names (w ++ b ∷ []) words (inr (word_on w b word byte)) (split ∙ onto))
      (λ comma. walk rest (names ++ w ∷ []) [] (words_more names w words word) (inl refl) (split ∙ behind comma))
    where
      onto : (before_next names ++ w) ++ (b ∷ rest) ≡ (before_next names ++ (w ++ b ∷ [])) ++ rest
      onto = sym (append_assoc (before_next names ++ w) (b ∷ []) rest)
          ∙ ap (λ (l : List ℕ). l ++ rest) (append_assoc (before_next names) w (b ∷ []))

      behind : eqb b 44 ≡ true → (before_next names ++ w) ++ (b ∷ rest) ≡ (before_next (names ++ w ∷ []) ++ []) ++ rest
      behind comma =
          ap (λ (k : ℕ). (before_next names ++ w) ++ (k ∷ rest)) (eqb-true b 44 comma)
          ∙ sym (append_assoc (before_next names ++ w) (44 ∷ []) rest)
          ∙ ap (λ (l : List ℕ). l ++ rest) (append_assoc (before_next names) w (44 ∷ []) ∙ sym (before_more names w)
          ∙ sym (append-nil (before_next (names ++ w ∷ []))))

      by : (is_name_byte b ≡ true) ⊎ (is_name_byte b ≡ false) → (eqb b 44 ≡ true) ⊎ (eqb b 44 ≡ false)
          → (is_name_byte b ≡ true → Reading text) → (eqb b 44 ≡ true → Reading text) → Reading text
      by (inl byte) comma on next = on byte
      by (inr byte) (inl comma) on next = next comma
      by (inr byte) (inr other) on next =
          inr (
            length (before_next names ++ w),
            fault_within text w rest b names
                (length (before_next names ++ w)) words word split refl byte (eqb-false b 44 other),
          )

reading : (text : List ℕ) → Reading text
reading text = walk text text [] [] tt (inl refl) refl

-- ---- which of its names is the first unknown one

known_or : (names : Names) → AllByRecursion IsKnown names ⊎ ((at : ℕ) × IsFirstUnknown names at)
known_or [] = inl tt
known_or (n ∷ names) = by (cases_Bool (is_among by_attributes n)) (known_or names)
  where
    by : (is_among by_attributes n ≡ true) ⊎ (is_among by_attributes n ≡ false)
        → AllByRecursion IsKnown names ⊎ ((at : ℕ) × IsFirstUnknown names at)
        → AllByRecursion IsKnown (n ∷ names) ⊎ ((at : ℕ) × IsFirstUnknown (n ∷ names) at)
    by (inr fails) rest = inr (
      0,
      record {
        before = [];
        name = n;
        behind = names;
        split = refl;
        known = tt;
        unknown = λ is. false≢true (sym fails ∙ is);
        place = refl;
      },
    )
    by (inl is) (inl all) = inl (is, all)
    by (inl is) (inr first) = inr (
      length (before_next (n ∷ first.1.before)),
      record {
        before = n ∷ first.1.before;
        name = first.1.name;
        behind = first.1.behind;
        split = ap (λ (l : Names). n ∷ l) first.1.split;
        known = (is, first.1.known);
        unknown = first.1.unknown;
        place = refl;
      },
    )

some_answer : (text : List ℕ) → (answer : Result Names FilterFault) × AnswersBy text answer
some_answer text = by (reading text)
  where
    known : (names : Names) → Joins text names → AllByRecursion IsKnown names ⊎ ((at : ℕ) × IsFirstUnknown names at)
        → (answer : Result Names FilterFault) × AnswersBy text answer
    known names joins (inl all) = (
      Ok (each_once names),
      record { names = names; joins = joins; known = all; once = refl },
    )
    known names joins (inr first) = (
      Err (UnknownAttribute first.0),
      record { names = names; joins = joins; first = first.1 },
    )

    by : Reading text → (answer : Result Names FilterFault) × AnswersBy text answer
    by (inl names) = known names.0 names.1 (known_or names.0)
    by (inr fault) = (Err (Syntax fault.0), fault.1)

-- ---- one list of names alone

word_parts : (n m x y : List ℕ) → list_all is_name_byte n ≡ true → list_all is_name_byte m ≡ true → IsApart x
    → IsApart y → n ++ x ≡ m ++ y → (n ≡ m) × (x ≡ y)
word_parts [] [] x y n_is m_is x_is y_is same = (refl, same)
word_parts [] (b ∷ m) x y n_is m_is x_is y_is same =
    absurd (false≢true (sym (subst IsApart same x_is) ∙ (and_parts (is_name_byte b) (list_all is_name_byte m) m_is).0))
word_parts (b ∷ n) [] x y n_is m_is x_is y_is same =
    absurd (false≢true (sym (subst IsApart (sym same) y_is)
    ∙ (and_parts (is_name_byte b) (list_all is_name_byte n) n_is).0))
word_parts (b ∷ n) (c ∷ m) x y n_is m_is x_is y_is same =
    let head : b ≡ c = cc in
    let tails : n ++ x ≡ m ++ y = cc in
    let rest = word_parts n m x y (and_parts (is_name_byte b) (list_all is_name_byte n) n_is).1
    (and_parts (is_name_byte c) (list_all is_name_byte m) m_is).1 x_is y_is tails in
    (ap (λ (k : ℕ). k ∷ n) head ∙ ap (λ (l : List ℕ). c ∷ l) rest.0, rest.1)

tail_same : (x y : List ℕ) → 44 ∷ x ≡ 44 ∷ y → x ≡ y
tail_same x y e = cc

nil_is_cons : (b : ℕ) (x : List ℕ) → [] ≡ b ∷ x → ⊥
nil_is_cons b x e = cc

cons_is_nil : (b : ℕ) (x : List ℕ) → b ∷ x ≡ [] → ⊥
cons_is_nil b x e = cc

joined_one : (n m : List ℕ) (names others : Names) → AreWords (n ∷ names) → AreWords (m ∷ others)
    → join_with_byte 44 (n ∷ names) ≡ join_with_byte 44 (m ∷ others) → n ∷ names ≡ m ∷ others
joined_one n m [] [] words more same = ap (λ (w : List ℕ). w ∷ []) same
joined_one n m [] (k ∷ others) words more same =
    absurd (nil_is_cons 44 (join_with_byte 44 (k ∷ others))
    (word_parts n m [] (44 ∷ join_with_byte 44 (k ∷ others)) (word_bytes n words.0) (word_bytes m more.0) tt refl
    (append-nil n ∙ same)).1)
joined_one n m (k ∷ names) [] words more same =
    absurd (cons_is_nil 44 (join_with_byte 44 (k ∷ names))
    (word_parts n m (44 ∷ join_with_byte 44 (k ∷ names)) [] (word_bytes n words.0) (word_bytes m more.0) refl tt
    (same ∙ sym (append-nil m))).1)
joined_one n m (k ∷ names) (l ∷ others) words more same =
    let parts = word_parts n m (44 ∷ join_with_byte 44 (k ∷ names)) (44 ∷ join_with_byte 44 (l ∷ others))
    (word_bytes n words.0) (word_bytes m more.0) refl refl same in
    let rest = joined_one k l names others words.1 more.1
    (tail_same (join_with_byte 44 (k ∷ names)) (join_with_byte 44 (l ∷ others)) parts.1) in
    ap (λ (w : List ℕ). w ∷ k ∷ names) parts.0 ∙ ap (λ (r : Names). m ∷ r) rest

joins_one : (text : List ℕ) (a b : Names) → Joins text a → Joins text b → a ≡ b
joins_one text [] b one other = absurd (omega (arith, one.some))
joins_one text (n ∷ names) [] one other = absurd (omega (arith, other.some))
joins_one text (n ∷ names) (m ∷ others) one other =
    joined_one n m names others one.words other.words (sym one.joined ∙ other.joined)

-- ---- one place alone

first_one : (names more : Names) (a b : ℕ) → names ≡ more → IsFirstUnknown names a → IsFirstUnknown more b → a ≡ b
first_one names more a b same one other =
    one.place ∙ ap (λ (l : Names). length (before_next l))
    (at one.before other.before (sym one.split ∙ same ∙ other.split) one.known other.known) ∙ sym other.place
  where
    at : (f g : Names) → f ++ one.name ∷ one.behind ≡ g ++ other.name ∷ other.behind → AllByRecursion IsKnown f
        → AllByRecursion IsKnown g → f ≡ g
    at [] [] e f_is g_is = refl
    at [] (x ∷ g) e f_is g_is =
        let head : one.name ≡ x = cc in
        absurd (one.unknown (subst IsKnown (sym head) g_is.0))
    at (x ∷ f) [] e f_is g_is =
        let head : other.name ≡ x = cc in
        absurd (other.unknown (subst IsKnown (sym head) f_is.0))
    at (x ∷ f) (y ∷ g) e f_is g_is =
        let head : x ≡ y = cc in
        let tails : f ++ one.name ∷ one.behind ≡ g ++ other.name ∷ other.behind = cc in
        ap (λ (w : List ℕ). w ∷ f) head ∙ ap (λ (l : Names). y ∷ l) (at f g tails f_is.1 g_is.1)

first_or_all : (names more : Names) (at : ℕ) → names ≡ more → IsFirstUnknown names at → AllByRecursion IsKnown more → ⊥
first_or_all names more at same first all = first.unknown
    (there first.before (subst (λ (l : Names). AllByRecursion IsKnown l) (sym same ∙ first.split) all))
  where
    there : (f : Names) → AllByRecursion IsKnown (f ++ first.name ∷ first.behind) → IsKnown first.name
    there [] known = known.0
    there (x ∷ f) known = there f known.1

begins_front : (a b : List ℕ) → Begins (a ++ b) → Begins a
begins_front a b begins = (
  begins.0,
  b ++ begins.1,
  subst (λ (l : List ℕ). Joins l begins.0) (append_assoc a b begins.1) begins.2,
)

-- of two fronts of one text the shorter one goes on as the longer one does
shorter : (f g r s : List ℕ) → f ++ r ≡ g ++ s → length f < length g
    → (b : ℕ) × (rest : List ℕ) × (more : List ℕ) × (r ≡ b ∷ rest) × (g ≡ (f ++ b ∷ []) ++ more)
shorter f [] r s same less = absurd (omega arith)
shorter [] (b ∷ g) r s same less = (b, g ++ s, g, same, refl)
shorter (x ∷ f) (y ∷ g) r s same less =
    let head : x ≡ y = cc in
    let tails : f ++ r ≡ g ++ s = cc in
    let rest = shorter f g r s tails (omega arith) in
    (rest.0, rest.1, rest.2, rest.3, ap (λ (k : ℕ). k ∷ g) (sym head) ∙ ap (λ (l : List ℕ). x ∷ l) rest.4)

not_shorter : (text : List ℕ) (a b : ℕ) (one : IsSyntaxFault text a) (other : IsSyntaxFault text b)
    → length one.front < length other.front → ⊥
not_shorter text a b one other less =
    let on = shorter one.front other.front one.rest other.rest (sym one.split ∙ other.split) less in
    one.ends (subst (λ (r : List ℕ). GoesOn one.front r) (sym on.3)
    (begins_front (one.front ++ on.0 ∷ []) on.2 (subst Begins on.4 other.begins)))

syntax_one : (text : List ℕ) (a b : ℕ) → IsSyntaxFault text a → IsSyntaxFault text b → a ≡ b
syntax_one text a b one other = by (cases_order (length one.front) (length other.front))
  where
    by : (length one.front ≡ length other.front) ⊎
        ((length one.front < length other.front) ⊎ (length other.front < length one.front)) → a ≡ b
    by (inl same) = one.place ∙ same ∙ sym other.place
    by (inr (inl less)) = absurd (not_shorter text a b one other less)
    by (inr (inr more)) = absurd (not_shorter text b a other one more)

syntax_or_joins : (text : List ℕ) (at : ℕ) (names : Names) → IsSyntaxFault text at → Joins text names → ⊥
syntax_or_joins text at names fault joins = fault.ends
    (on fault.rest (subst (λ (l : List ℕ). Joins l names) fault.split joins))
  where
    on : (rest : List ℕ) → Joins (fault.front ++ rest) names → GoesOn fault.front rest
    on [] whole = (names, subst (λ (l : List ℕ). Joins l names) (append-nil fault.front) whole)
    on (b ∷ rest) whole = (
      names,
      rest,
      subst (λ (l : List ℕ). Joins l names)
          (sym (append_assoc fault.front (b ∷ []) rest)) whole,
    )

one_answer : (text : List ℕ) (a b : Result Names FilterFault) → AnswersBy text a → AnswersBy text b → a ≡ b
one_answer text (Ok a) (Ok b) one other =
    ap Ok (one.once ∙ ap each_once (joins_one text one.names other.names one.joins other.joins) ∙ sym other.once)
one_answer text (Ok a) (Err (Syntax k)) one other = absurd (syntax_or_joins text k one.names other one.joins)
one_answer text (Ok a) (Err (UnknownAttribute k)) one other =
    absurd (first_or_all other.names one.names k
    (joins_one text other.names one.names other.joins one.joins) other.first one.known)
one_answer text (Ok a) (Err NoMemory) one other = absurd other
one_answer text (Err (Syntax j)) (Ok b) one other = absurd (syntax_or_joins text j other.names one other.joins)
one_answer text (Err (Syntax j)) (Err (Syntax k)) one other =
    ap (λ (n : ℕ). Err (Syntax n)) (syntax_one text j k one other)
one_answer text (Err (Syntax j)) (Err (UnknownAttribute k)) one other =
    absurd (syntax_or_joins text j other.names one other.joins)
one_answer text (Err (Syntax j)) (Err NoMemory) one other = absurd other
one_answer text (Err (UnknownAttribute j)) (Ok b) one other =
    absurd (first_or_all one.names other.names j
    (joins_one text one.names other.names one.joins other.joins) one.first other.known)
one_answer text (Err (UnknownAttribute j)) (Err (Syntax k)) one other =
    absurd (syntax_or_joins text k one.names other one.joins)
one_answer text (Err (UnknownAttribute j)) (Err (UnknownAttribute k)) one other =
    ap (λ (n : ℕ). Err (UnknownAttribute n)) (first_one one.names other.names j k
    (joins_one text one.names other.names one.joins other.joins) one.first other.first)
one_answer text (Err (UnknownAttribute j)) (Err NoMemory) one other = absurd other
one_answer text (Err NoMemory) b one other = absurd one

pub by_laws : ByLaws
by_laws = record { some = some_answer; one = one_answer; same = among_once; once = never_twice; order = once_front }

-- ---- how long names are with a comma after each

before_length : (n : List ℕ) (names : Names) → length (before_next (n ∷ names)) ≡ length
    (join_with_byte 44 (n ∷ names)) + 1
before_length n [] = omega (arith, length-append (n ++ 44 ∷ []) [], length-append n (44 ∷ []))
before_length n (m ∷ names) =
    omega (
      arith,
      before_length m names,
      length-append (n ++ 44 ∷ []) (before_next (m ∷ names)),
      length-append n (44 ∷ []),
      length-append n (44 ∷ join_with_byte 44 (m ∷ names)),
    )

pub joins_length : (text : List ℕ) (names : Names) → Joins text names → length (before_next names) ≡ length text + 1
joins_length text [] joins = absurd (omega (arith, joins.some))
joins_length text (n ∷ names) joins =
    let whole = ap (λ (l : List ℕ). length l) joins.joined in
    omega (arith, before_length n names, whole)

-- what is reported of a text that is not split
pub split_told : (text bytes : List ℕ) (fault : FilterFault) (answer : Result Names FilterFault) → bytes ≡ text
    → SplitFault bytes fault
    → (◌≡◌ {A = Result Names FilterFault} (Err fault) (Err NoMemory) → ⊥)
    → AnswersBy text answer
    → ◌≡◌ {A = Result Names FilterFault} (Err fault) answer
split_told text bytes (Syntax at) answer same fault known is =
    one_answer text (Err (Syntax at)) answer (subst (λ (l : List ℕ). IsSyntaxFault l at) same fault) is
split_told text bytes (UnknownAttribute at) answer same fault known is = absurd fault
split_told text bytes NoMemory answer same fault known is = absurd (known refl)
