-- A token with which a text begins is found, or a longer one.
use Rattle.std.proofs.Common.{◌≡◌, ◌≤◌, ◌<◌, ◌+◌, ◌*◌, ◌/◌, ◌^◌, ◌&&◌, ◌==◌, ℕ, suc, true, false}
use Rattle.std.proofs.Common.{List, [], ◌∷◌, ◌++◌, length, take, slice_index, refl, ap, sym, ◌∙◌}
use Rattle.std.proofs.Common.{subst}
use Rattle.std.proofs.Common.{arith, Option, Some, None}
use Rattle.std.proofs.lemmas.Bool.{and_right, eq-eqb}
use Rattle.std.proofs.lemmas.List.{length-append, take_at, get_or_at, append_assoc}
use Rattle.std.proofs.lemmas.Fmt.{decimal_nonempty}
use Rattle.std.specs.Prelude.{codes, decimal, option_map}
use Rattle.std.specs.List.{list_all, prefix_len}
use Rattle.std.specs.Char.{is_ascii_digit, is_ascii_hexdigit}
use Rattle.std.proofs.lemmas.Bool.{cond-true, cond-false, and_parts, and_from}
use Rattle.std.proofs.lemmas.Bool.Decides.{nat_tests}
use Rattle.ivy_syntax.specs.declared.lexeme.Keyword.{Keyword}
use Rattle.ivy_syntax.specs.declared.lexeme.Symbol.{Symbol}
use Rattle.ivy_syntax.specs.declared.lexeme.Symbol.TheVariants as symbol
use Rattle.ivy_syntax.specs.declared.lexeme.Operator.{Operator}
use Rattle.ivy_syntax.specs.declared.lexeme.Operator.TheVariants as operator
use Rattle.ivy_syntax.specs.declared.lexeme.Kind.{Kind}
use Rattle.ivy_syntax.specs.declared.lexeme.Kind.TheVariants as kind
use Rattle.ivy_syntax.specs.Token.{Token, Word, Sign, Operation, Name, Number, Hex, Quoted, End, Bad}
use Rattle.ivy_syntax.specs.Token.{letters, sign, mark, begins_name, goes_on, is_quotable, IsName, StandFor, Spells}
use Rattle.ivy_syntax.specs.Tokens.{is_blank, EndsBefore, lexicon}
use Rattle.grammars.specs.Tokens.{Begins, StopsAt}
use Rattle.ivy_syntax.specs.Lexeme.{value_of, token_of}
use Rattle.ivy_syntax.specs.Cutting.{keyword_of, word_kind, word_at}
use Rattle.wire.specs.Decimal.{decimal_within, decimal_again, digits_written}
use Rattle.wire.specs.Spelling.{greatest}
use Rattle.ivy_syntax.specs.Cutting.{number_at, hex_at, quoted_at, pair_of}
use Rattle.ivy_syntax.specs.Cutting.{symbol_of}
use Rattle.ivy_syntax.specs.Cutting.{operator_of, single_cut, sign_cut, sign_at, token_at}
use Rattle.grammars.specs.Runs.{prefix_no, run_over, run_ends}
use Rattle.ivy_syntax.proofs.Fronts.{name_goes_on, digit_goes_on, keyword_is, keyword_found, IsWordText, letters_are}
use Rattle.ivy_syntax.proofs.Fronts.{quoted_value, at_index, pair_fits}

abbrev pub BlankFollows : List ℕ → Type 0
BlankFollows [] = ⊥
BlankFollows (b ∷ rest) = is_blank b ≡ true

pub record Reaches (text : List ℕ) (t : Token) (bytes rest : List ℕ) : Type 0 where
  pub kind : Kind
  pub len : ℕ
  pub found : token_at text ≡ Some (kind, len)
  pub within : length bytes ≤ len
  pub same : length bytes ≡ len → token_of kind bytes ≡ t
  pub exact : BlankFollows rest → len ≡ length bytes

blank_ends_word : (rest : List ℕ) → BlankFollows rest → prefix_len goes_on rest ≡ 0
blank_ends_word [] h = absurd h
blank_ends_word (b ∷ rest) h =
    let no : goes_on b ≡ false = grind (arith, nat_tests) in prefix_no goes_on b rest no

blank_ends_hex : (rest : List ℕ) → BlankFollows rest → prefix_len is_ascii_hexdigit rest ≡ 0
blank_ends_hex [] h = absurd h
blank_ends_hex (b ∷ rest) h =
    let no : is_ascii_hexdigit b ≡ false = grind (arith, nat_tests) in prefix_no is_ascii_hexdigit b rest no

blank_no_pair : (b : ℕ) (rest : List ℕ) → BlankFollows rest → pair_of b (slice_index rest 0) ≡ None
unfolding pair_of
blank_no_pair b [] h = absurd h
blank_no_pair b (c ∷ rest) h = grind (arith, nat_tests)

word_front : (b : ℕ) (rest : List ℕ) → begins_name b ≡ true → token_at (b ∷ rest) ≡ word_at (b ∷ rest)
unfolding token_at
word_front b rest e = cond-true _ _ _ e

-- a word is read as far as it goes on
word_reach : (t : Token) (word rest : List ℕ) → IsWordText word → token_of (word_kind (keyword_of word)) word ≡ t
    → Reaches (word ++ rest) t word rest
unfolding word_at
word_reach t [] rest h e = absurd h
word_reach t (b ∷ bytes) rest h e =
    let all : list_all goes_on (b ∷ bytes) ≡ true = and_from _ _ (name_goes_on b h.0) h.1 in
    let whole : List ℕ = (b ∷ bytes) ++ rest in
    let len : prefix_len goes_on whole ≡ length (b ∷ bytes) + prefix_len goes_on rest
    = run_over goes_on (b ∷ bytes) rest all in
    record {
      kind = word_kind (keyword_of (take (prefix_len goes_on whole) whole));
      len = prefix_len goes_on whole;
      found = word_front b (bytes ++ rest) h.0;
      within = omega (arith, len);
      same = λ is. (let cut : take (prefix_len goes_on whole) whole ≡ b ∷ bytes
          = ap (λ n. take n whole) (sym is) ∙ take_at (b ∷ bytes) rest (length (b ∷ bytes)) refl in
          ap (λ w. token_of (word_kind (keyword_of w)) (b ∷ bytes)) cut ∙ e);
      exact = λ h. omega (arith, len, blank_ends_word rest h);
    }

name_kind : (word : List ℕ) (found : Option Keyword) → keyword_of word ≡ found → IsName word
    → token_of (word_kind found) word ≡ Name word
name_kind word None e h = refl
name_kind [] (Some k) e h = absurd h
name_kind (b ∷ bytes) (Some k) e h = absurd (h.2 k (keyword_is (b ∷ bytes) k e))

name_text : (word : List ℕ) → IsName word → IsWordText word
name_text [] h = h
name_text (b ∷ bytes) h = (h.0, h.1)

name_reach : (word rest : List ℕ) → IsName word → Reaches (word ++ rest) (Name word) word rest
name_reach word rest h = word_reach (Name word) word rest (name_text word h) (name_kind word (keyword_of word) refl h)

keyword_reach : (k : Keyword) (rest : List ℕ) → Reaches (letters k ++ rest) (Word k) (letters k) rest
keyword_reach k rest =
    word_reach (Word k) (letters k) rest (letters_are k)
    (ap (λ f. token_of (word_kind f) (letters k)) (keyword_found k))

-- ---- numbers are found

digits_go_on : (digits : List ℕ) → list_all is_ascii_digit digits ≡ true → list_all goes_on digits ≡ true
digits_go_on [] e = refl
digits_go_on (d ∷ digits) e =
    let parts = and_parts (is_ascii_digit d) (list_all is_ascii_digit digits) e in
    and_from _ _ (digit_goes_on d parts.0) (digits_go_on digits parts.1)

no_x : (bytes rest : List ℕ) → list_all is_ascii_digit bytes ≡ true → StopsAt goes_on rest
    → (slice_index (bytes ++ rest) 0 == 120) ≡ false
no_x [] [] e h = refl
no_x [] (c ∷ rest) e h = grind (arith, nat_tests)
no_x (c ∷ bytes) rest e h = grind (arith, nat_tests)

digit_front : (b : ℕ) (more : List ℕ) → is_ascii_digit b ≡ true → (slice_index more 0 == 120) ≡ false
    → token_at (b ∷ more) ≡ number_at (b ∷ more)
unfolding token_at
digit_front b more e h =
    let no_name : begins_name b ≡ false = grind (arith, nat_tests) in
    let no_hex : (b == 48 && slice_index more 0 == 120) ≡ false = and_right _ _ h in
    cond-false _ _ _ no_name ∙ cond-false _ _ _ no_hex ∙ cond-true _ _ _ e

pub decimal_all : (n : ℕ) → n < 2 ^ 63 → list_all is_ascii_digit (decimal n) ≡ true
decimal_all n small = digits_written n (omega arith)

number_reach : (digits rest : List ℕ) (n : ℕ) → digits ≡ decimal n → n < 2 ^ 63 → StopsAt goes_on rest
    → Reaches (digits ++ rest) (Number n) digits rest
unfolding number_at
number_reach [] rest n e small h = absurd (omega (arith, ap length e, decimal_nonempty n (omega arith)))
number_reach (b ∷ bytes) rest n e small h =
    let whole : List ℕ = (b ∷ bytes) ++ rest in
    let all : list_all is_ascii_digit (b ∷ bytes) ≡ true
    = subst (λ ds. list_all is_ascii_digit ds ≡ true) (sym e) (decimal_all n small) in
    let parts = and_parts (is_ascii_digit b) (list_all is_ascii_digit bytes) all in
    let word : list_all goes_on (b ∷ bytes) ≡ true = digits_go_on (b ∷ bytes) all in
    let len : prefix_len goes_on whole ≡ length (b ∷ bytes)
    = run_over goes_on (b ∷ bytes) rest word ∙ omega (arith, run_ends goes_on rest h) in
    let cut : take (prefix_len goes_on whole) whole ≡ b ∷ bytes
    = ap (λ n. take n whole) len ∙ take_at (b ∷ bytes) rest (length (b ∷ bytes)) refl in
    let read : decimal_within greatest (take (prefix_len goes_on whole) whole) ≡ Some n
    = ap (decimal_within greatest) (cut ∙ e) ∙ decimal_again greatest n (omega arith) (omega arith) in
    record {
      kind = kind.Number n;
      len = prefix_len goes_on whole;
      found = digit_front b (bytes ++ rest) parts.0 (no_x bytes rest parts.1 h)
          ∙ ap (λ found. option_map (λ m. (kind.Number m, prefix_len goes_on whole)) found) read;
      within = omega (arith, len);
      same = λ _. refl;
      exact = λ _. len;
    }

-- ---- hex is found

even_digits : (digits value : List ℕ) → StandFor digits value → (k : ℕ) × (length digits ≡ 2 * k)
even_digits [] [] h = (0, omega arith)
even_digits [] (b ∷ value) h = absurd h
even_digits (d ∷ []) [] h = absurd h
even_digits (d ∷ []) (b ∷ value) h = absurd h
even_digits (high ∷ low ∷ digits) [] h = absurd h
even_digits (high ∷ low ∷ digits) (b ∷ value) h =
    let less = even_digits digits value h.3 in
    let len : length digits ≡ 2 * less.0 = less.1 in
    (suc less.0, omega (arith, len))

pub stands_value : (digits value : List ℕ) → StandFor digits value → value_of digits ≡ value
stands_value [] [] h = refl
stands_value [] (b ∷ value) h = absurd h
stands_value (d ∷ []) [] h = absurd h
stands_value (d ∷ []) (b ∷ value) h = absurd h
stands_value (high ∷ low ∷ digits) [] h = absurd h
stands_value (high ∷ low ∷ digits) (b ∷ value) h =
    ap (λ c. c ∷ value_of digits) (pair_fits high low h.0 h.1 ∙ sym h.2)
    ∙ ap (λ bs. b ∷ bs) (stands_value digits value h.3)

pub all_hex : (digits value : List ℕ) → StandFor digits value → list_all is_ascii_hexdigit digits ≡ true
all_hex [] [] h = refl
all_hex [] (b ∷ value) h = absurd h
all_hex (d ∷ []) [] h = absurd h
all_hex (d ∷ []) (b ∷ value) h = absurd h
all_hex (high ∷ low ∷ digits) [] h = absurd h
all_hex (high ∷ low ∷ digits) (b ∷ value) h = and_from _ _ h.0 (and_from _ _ h.1 (all_hex digits value h.3))

hex_front : (more : List ℕ) → token_at (48 ∷ 120 ∷ more) ≡ hex_at (48 ∷ 120 ∷ more)
unfolding token_at
hex_front more = refl

hex_reach : (digits value rest : List ℕ) → StandFor digits value
    → Reaches ((48 ∷ 120 ∷ digits) ++ rest) (Hex value) (48 ∷ 120 ∷ digits) rest
unfolding hex_at
hex_reach digits value rest h =
    let even = even_digits digits value h in
    let two : length digits ≡ 2 * even.0 = even.1 in
    let len : prefix_len is_ascii_hexdigit (digits ++ rest) ≡ length digits + prefix_len is_ascii_hexdigit rest
    = run_over is_ascii_hexdigit digits rest (all_hex digits value h) in
    record {
      kind = kind.Hex;
      len = 2 + 2 * (prefix_len is_ascii_hexdigit (digits ++ rest) / 2);
      found = hex_front (digits ++ rest);
      within = omega (arith, len, two);
      same = λ _. ap Hex (stands_value digits value h);
      exact = λ f. omega (arith, len, two, blank_ends_hex rest f);
    }

-- ---- text between quotes is found

quoted_front : (more : List ℕ) → token_at (39 ∷ more) ≡ quoted_at (39 ∷ more)
unfolding token_at
quoted_front more = refl

quoted_reach : (text rest : List ℕ) → list_all is_quotable text ≡ true
    → Reaches ((39 ∷ (text ++ codes "'")) ++ rest) (Quoted text) (39 ∷ (text ++ codes "'")) rest
unfolding quoted_at
quoted_reach text rest h =
    let inner : List ℕ = (text ++ codes "'") ++ rest in
    let group : inner ≡ text ++ (39 ∷ rest) = append_assoc text (39 ∷ []) rest in
    let len : prefix_len is_quotable inner ≡ length text
    = ap (λ bytes. prefix_len is_quotable bytes) group ∙ run_over is_quotable text (39 ∷ rest) h ∙ omega arith in
    let at : slice_index (39 ∷ inner) (1 + prefix_len is_quotable inner) ≡ 39
    = at_index (prefix_len is_quotable inner) inner ∙ ap (λ n. slice_index inner n) len
    ∙ ap (λ bytes. slice_index bytes (length text)) group
    ∙ get_or_at text 39 rest 0 (length text) refl in
    let size : length (39 ∷ (text ++ codes "'")) ≡ 2 + length text = omega (arith, length-append text (39 ∷ [])) in
    record {
      kind = kind.Quoted;
      len = 2 + prefix_len is_quotable inner;
      found = quoted_front inner ∙ cond-true _ _ _ (eq-eqb _ _ at);
      within = omega (arith, len, size);
      same = λ _. quoted_value text;
      exact = λ _. omega (arith, len, size);
    }

-- ---- signs are found

one_sign : (b : ℕ) (s : Symbol) (rest : List ℕ) → token_at (b ∷ rest) ≡ Some (kind.Sign s, 1)
    → Reaches (b ∷ rest) (Sign s) (b ∷ []) rest
one_sign b s rest e = record {
  kind = kind.Sign s;
  len = 1;
  found = e;
  within = omega arith;
  same = λ _. refl;
  exact = λ _. omega arith;
}

symbol_reach : (s : Symbol) (rest : List ℕ) → Reaches (sign s ++ rest) (Sign s) (sign s) rest
unfolding token_at sign_at pair_of symbol_of operator_of
symbol_reach symbol.OpenParen rest = one_sign 40 symbol.OpenParen rest refl
symbol_reach symbol.CloseParen rest = one_sign 41 symbol.CloseParen rest refl
symbol_reach symbol.OpenBrace rest = one_sign 123 symbol.OpenBrace rest refl
symbol_reach symbol.CloseBrace rest = one_sign 125 symbol.CloseBrace rest refl
symbol_reach symbol.OpenBracket rest = one_sign 91 symbol.OpenBracket rest refl
symbol_reach symbol.CloseBracket rest = one_sign 93 symbol.CloseBracket rest refl
symbol_reach symbol.Comma rest = one_sign 44 symbol.Comma rest refl
symbol_reach symbol.Colon rest = one_sign 58 symbol.Colon rest refl

pair_reach : (b c : ℕ) (o : Operator) (rest : List ℕ) → token_at (b ∷ c ∷ rest) ≡ Some (kind.Operation o, 2)
    → Reaches (b ∷ c ∷ rest) (Operation o) (b ∷ c ∷ []) rest
pair_reach b c o rest e = record {
  kind = kind.Operation o;
  len = 2;
  found = e;
  within = omega arith;
  same = λ _. refl;
  exact = λ _. omega arith;
}

-- an operator of one byte, or one of two that begins with it
single_found : (b : ℕ) (o : Operator) (rest : List ℕ) (found : Option Operator) → pair_of b (slice_index rest 0) ≡ found
    → token_at (b ∷ rest) ≡ sign_cut (pair_of b (slice_index rest 0)) b
    → single_cut (symbol_of b) (operator_of b) ≡ Some (kind.Operation o, 1)
    → Reaches (b ∷ rest) (Operation o) (b ∷ []) rest
single_found b o rest None e f g = record {
  kind = kind.Operation o;
  len = 1;
  found = f ∙ ap (λ p. sign_cut p b) e ∙ g;
  within = omega arith;
  same = λ _. refl;
  exact = λ _. omega arith;
}
single_found b o rest (Some p) e f g = record {
  kind = kind.Operation p;
  len = 2;
  found = f ∙ ap (λ p. sign_cut p b) e;
  within = omega arith;
  same = λ h. absurd (omega arith);
  exact = λ h. (let no : Some p ≡ None = sym e ∙ blank_no_pair b rest h in cc);
}

single_reach : (b : ℕ) (o : Operator) (rest : List ℕ)
    → token_at (b ∷ rest) ≡ sign_cut (pair_of b (slice_index rest 0)) b
    → single_cut (symbol_of b) (operator_of b) ≡ Some (kind.Operation o, 1)
    → Reaches (b ∷ rest) (Operation o) (b ∷ []) rest
single_reach b o rest = single_found b o rest (pair_of b (slice_index rest 0)) refl

operator_reach : (o : Operator) (rest : List ℕ) → Reaches (mark o ++ rest) (Operation o) (mark o) rest
unfolding token_at sign_at pair_of symbol_of operator_of
operator_reach operator.Or rest = pair_reach 124 124 operator.Or rest refl
operator_reach operator.And rest = pair_reach 38 38 operator.And rest refl
operator_reach operator.Equal rest = pair_reach 61 61 operator.Equal rest refl
operator_reach operator.NotEqual rest = pair_reach 33 61 operator.NotEqual rest refl
operator_reach operator.LessEqual rest = pair_reach 60 61 operator.LessEqual rest refl
operator_reach operator.GreaterEqual rest = pair_reach 62 61 operator.GreaterEqual rest refl
operator_reach operator.ShiftLeft rest = pair_reach 60 60 operator.ShiftLeft rest refl
operator_reach operator.ShiftRight rest = pair_reach 62 62 operator.ShiftRight rest refl
operator_reach operator.Less rest = single_reach 60 operator.Less rest refl refl
operator_reach operator.Greater rest = single_reach 62 operator.Greater rest refl refl
operator_reach operator.Plus rest = single_reach 43 operator.Plus rest refl refl
operator_reach operator.Minus rest = single_reach 45 operator.Minus rest refl refl
operator_reach operator.Star rest = single_reach 42 operator.Star rest refl refl
operator_reach operator.Slash rest = single_reach 47 operator.Slash rest refl refl
operator_reach operator.Percent rest = single_reach 37 operator.Percent rest refl refl
operator_reach operator.Not rest = single_reach 33 operator.Not rest refl refl

-- ---- every token is found

number_stops : (n : ℕ) (rest : List ℕ) → EndsBefore (Number n) rest → StopsAt goes_on rest
number_stops n [] h = tt
number_stops n (b ∷ rest) h = h

abbrev Reached : List ℕ → Token → List ℕ → Type 0
Reached rest t bytes = Reaches (bytes ++ rest) t bytes rest

spelled_reach : (t : Token) (bytes rest : List ℕ) → Spells t bytes → EndsBefore t rest → Reached rest t bytes
spelled_reach (Word k) bytes rest h e = subst (Reached rest (Word k)) (sym h) (keyword_reach k rest)
spelled_reach (Sign s) bytes rest h e = subst (Reached rest (Sign s)) (sym h) (symbol_reach s rest)
spelled_reach (Operation o) bytes rest h e = subst (Reached rest (Operation o)) (sym h) (operator_reach o rest)
spelled_reach (Name name) bytes rest h e = subst (Reached rest (Name name)) (sym h.0) (name_reach name rest h.1)
spelled_reach (Number n) bytes rest h e = number_reach bytes rest n h.0 h.1 (number_stops n rest e)
spelled_reach (Hex value) bytes rest h e = subst (Reached rest (Hex value)) (sym h.1) (hex_reach h.0 value rest h.2)
spelled_reach (Quoted text) bytes rest h e = subst (Reached rest (Quoted text)) (sym h.0) (quoted_reach text rest h.1)
spelled_reach End bytes rest h e = absurd h
spelled_reach Bad bytes rest h e = absurd h

pub reach : (text : List ℕ) (t : Token) (bytes rest : List ℕ) → Begins lexicon text t bytes rest → Reaches text t bytes rest
reach text t bytes rest h =
    subst (λ text. Reaches text t bytes rest) (sym h.whole) (spelled_reach t bytes rest h.spelled h.ends)
