-- The text that writes tokens has these tokens.
use Rattle.std.proofs.Common.{◌≡◌, ◌<◌, ◌+◌, ◌*◌, ◌/◌, ◌%◌, ◌^◌, ◌==◌, ℕ, true, false}
use Rattle.std.proofs.Common.{List, [], ◌∷◌, ◌++◌, length, refl, ap, sym, ◌∙◌, subst}
use Rattle.std.proofs.Common.{arith}
use Rattle.std.specs.Prelude.{decimal}
use Rattle.std.specs.Fmt.{digit_glyph}
use Rattle.std.specs.List.{list_all}
use Rattle.std.specs.Char.{is_ascii_hexdigit, digit_value}
use Rattle.std.specs.Char.{is_ascii_digit}
use Rattle.std.proofs.lemmas.Fmt.{decimal_nonempty}
use Rattle.std.proofs.lemmas.Bool.{and_parts}
use Rattle.std.proofs.lemmas.Bool.Decides.{nat_tests}
use Rattle.ivy_syntax.specs.declared.lexeme.Keyword.{Keyword}
use Rattle.ivy_syntax.specs.declared.lexeme.Keyword.TheVariants as keyword
use Rattle.ivy_syntax.specs.declared.lexeme.Symbol.{Symbol}
use Rattle.ivy_syntax.specs.declared.lexeme.Symbol.TheVariants as symbol
use Rattle.ivy_syntax.specs.declared.lexeme.Operator.{Operator}
use Rattle.ivy_syntax.specs.declared.lexeme.Operator.TheVariants as operator
use Rattle.ivy_syntax.specs.Token.{Token, Word, Sign, Operation, Name, Number, Hex, Quoted, End, Bad}
use Rattle.ivy_syntax.specs.Token.{letters, sign, mark, begins_name, IsName, StandFor, Spells}
use Rattle.std.proofs.lemmas.Bool.{or_cases, eqb-true}
use Rattle.std.proofs.Common.{inl, inr, None}
use Rattle.std.proofs.lemmas.Option.{none-some}
use Rattle.grammars.specs.Tokens.{NoGap, ends, passes}
use Rattle.grammars.specs.Scanner.{longest_before}
use Rattle.grammars.specs.Written.{StandsBefore, SpaceStands, written_read}
use Rattle.ivy_syntax.specs.Tokens.{EndsBefore, is_blank, blank, comment, lexicon}
use Rattle.ivy_syntax.specs.Tokens.{digits_of, spelling, IsReadBack}
use Rattle.ivy_syntax.specs.Cutting.{comment_len, token_at, sign_at, pair_of, symbol_of, operator_of}
use Rattle.ivy_syntax.proofs.Fronts.{hex_below}
use Rattle.ivy_syntax.proofs.Reach.{BlankFollows, reach, decimal_all}
use Rattle.ivy_syntax.proofs.Comments.{comment_found}
use Rattle.ivy_syntax.proofs.Readings.{scanner}

-- ---- what can be spelled is spelled so

glyph_is_hex : (n : ℕ) → n < 16 → is_ascii_hexdigit (digit_glyph false n) ≡ true
glyph_is_hex n h = grind (arith, nat_tests)

glyph_value : (n : ℕ) → n < 16 → digit_value (digit_glyph false n) ≡ n
glyph_value n h = grind (arith, nat_tests)

pub digits_stand : (digits value : List ℕ) → StandFor digits value → StandFor (digits_of value) value
digits_stand [] [] h = tt
digits_stand [] (b ∷ value) h = absurd h
digits_stand (d ∷ []) [] h = absurd h
digits_stand (d ∷ []) (b ∷ value) h = absurd h
digits_stand (high ∷ low ∷ digits) [] h = absurd h
digits_stand (high ∷ low ∷ digits) (b ∷ value) h =
    let top : digit_value high < 16 = hex_below high h.0 in
    let bottom : digit_value low < 16 = hex_below low h.1 in
    let is : b ≡ 16 * digit_value high + digit_value low = h.2 in
    let first : b / 16 < 16 = omega arith in
    let second : b % 16 < 16 = omega arith in (
      glyph_is_hex (b / 16) first,
      glyph_is_hex (b % 16) second,
      omega (arith, glyph_value (b / 16) first, glyph_value (b % 16) second),
      digits_stand digits value h.3,
    )

spelled_so : (t : Token) (bytes : List ℕ) → Spells t bytes → Spells t (spelling t)
spelled_so (Word k) bytes h = refl
spelled_so (Sign s) bytes h = refl
spelled_so (Operation o) bytes h = refl
spelled_so (Name name) bytes h = (refl, h.1)
spelled_so (Number n) bytes h = (refl, h.1)
spelled_so (Hex value) bytes h = (digits_of value, refl, digits_stand h.0 value h.2)
spelled_so (Quoted text) bytes h = (refl, h.1)
spelled_so End bytes h = absurd h
spelled_so Bad bytes h = absurd h

-- ---- no comment begins with a token and a blank

no_slash : (b : ℕ) (more : List ℕ) → (b == 47) ≡ false → comment_len (b ∷ more) ≡ 0
unfolding comment_len
no_slash b more e = grind (arith, nat_tests)

slash_alone : (b : ℕ) (more : List ℕ) → is_blank b ≡ true → comment_len (47 ∷ b ∷ more) ≡ 0
unfolding comment_len
slash_alone b more e = grind (arith, nat_tests)

abbrev Quiet : ℕ → List ℕ → List ℕ → Type 0
Quiet b more bytes = comment_len (bytes ++ (b ∷ more)) ≡ 0

quiet_word : (k : Keyword) (b : ℕ) (more : List ℕ) → Quiet b more (letters k)
unfolding comment_len
quiet_word keyword.Contract b more = refl
quiet_word keyword.Clause b more = refl
quiet_word keyword.Locks b more = refl
quiet_word keyword.Requires b more = refl
quiet_word keyword.Of b more = refl
quiet_word keyword.Verify b more = refl
quiet_word keyword.Lock b more = refl
quiet_word keyword.Unlock b more = refl
quiet_word keyword.With b more = refl
quiet_word keyword.True b more = refl
quiet_word keyword.False b more = refl

quiet_sign : (s : Symbol) (b : ℕ) (more : List ℕ) → Quiet b more (sign s)
unfolding comment_len
quiet_sign symbol.OpenParen b more = refl
quiet_sign symbol.CloseParen b more = refl
quiet_sign symbol.OpenBrace b more = refl
quiet_sign symbol.CloseBrace b more = refl
quiet_sign symbol.OpenBracket b more = refl
quiet_sign symbol.CloseBracket b more = refl
quiet_sign symbol.Comma b more = refl
quiet_sign symbol.Colon b more = refl

quiet_mark : (o : Operator) (b : ℕ) (more : List ℕ) → is_blank b ≡ true → Quiet b more (mark o)
unfolding comment_len
quiet_mark operator.Or b more e = refl
quiet_mark operator.And b more e = refl
quiet_mark operator.Equal b more e = refl
quiet_mark operator.NotEqual b more e = refl
quiet_mark operator.Less b more e = refl
quiet_mark operator.LessEqual b more e = refl
quiet_mark operator.Greater b more e = refl
quiet_mark operator.GreaterEqual b more e = refl
quiet_mark operator.ShiftLeft b more e = refl
quiet_mark operator.ShiftRight b more e = refl
quiet_mark operator.Plus b more e = refl
quiet_mark operator.Minus b more e = refl
quiet_mark operator.Star b more e = refl
quiet_mark operator.Slash b more e = slash_alone b more e
quiet_mark operator.Percent b more e = refl
quiet_mark operator.Not b more e = refl

quiet_name : (name : List ℕ) (b : ℕ) (more : List ℕ) → IsName name → Quiet b more name
quiet_name [] b more h = absurd h
quiet_name (c ∷ name) b more h =
    let no : (c == 47) ≡ false = first_no_slash c h.0 in no_slash c (name ++ (b ∷ more)) no
  where
    first_no_slash : (c : ℕ) → begins_name c ≡ true → (c == 47) ≡ false
    first_no_slash c e = grind (arith, nat_tests)

quiet_number : (digits : List ℕ) (n b : ℕ) (more : List ℕ) → digits ≡ decimal n → n < 2 ^ 63 → Quiet b more digits
quiet_number [] n b more e small = absurd (omega (arith, ap length e, decimal_nonempty n (omega arith)))
quiet_number (d ∷ digits) n b more e small =
    let all : list_all is_ascii_digit (d ∷ digits) ≡ true
    = subst (λ ds. list_all is_ascii_digit ds ≡ true) (sym e) (decimal_all n small) in
    let first : is_ascii_digit d ≡ true = (and_parts (is_ascii_digit d) (list_all is_ascii_digit digits) all).0 in
    no_slash d (digits ++ (b ∷ more)) (digit_no_slash d first)
  where
    digit_no_slash : (c : ℕ) → is_ascii_digit c ≡ true → (c == 47) ≡ false
    digit_no_slash c e = grind (arith, nat_tests)

quiet : (t : Token) (bytes : List ℕ) (b : ℕ) (more : List ℕ) → Spells t bytes → is_blank b ≡ true → Quiet b more bytes
unfolding comment_len
quiet (Word k) bytes b more h e = subst (Quiet b more) (sym h) (quiet_word k b more)
quiet (Sign s) bytes b more h e = subst (Quiet b more) (sym h) (quiet_sign s b more)
quiet (Operation o) bytes b more h e = subst (Quiet b more) (sym h) (quiet_mark o b more e)
quiet (Name name) bytes b more h e = subst (Quiet b more) (sym h.0) (quiet_name name b more h.1)
quiet (Number n) bytes b more h e = quiet_number bytes n b more h.0 h.1
quiet (Hex value) bytes b more h e = subst (Quiet b more) (sym h.1) refl
quiet (Quoted text) bytes b more h e = subst (Quiet b more) (sym h.0) refl
quiet End bytes b more h e = absurd h
quiet Bad bytes b more h e = absurd h

-- no token begins with a blank

blank_at : (c b : ℕ) (rest : List ℕ) → (b == c) ≡ true → token_at (c ∷ rest) ≡ None → token_at (b ∷ rest) ≡ None
blank_at c b rest e h = ap (λ x. token_at (x ∷ rest)) (eqb-true b c e) ∙ h

blank_none : (b : ℕ) (rest : List ℕ) → is_blank b ≡ true → token_at (b ∷ rest) ≡ None
unfolding token_at sign_at pair_of symbol_of operator_of
blank_none b rest e =
    elim (or_cases _ _ e) [
      | inr cr ↦ blank_at 13 b rest cr refl
      | inl more ↦ elim (or_cases _ _ more) [
        | inr lf ↦ blank_at 10 b rest lf refl
        | inl others ↦ elim (or_cases _ _ others) [
          | inl space ↦ blank_at 32 b rest space refl
          | inr tab ↦ blank_at 9 b rest tab refl
        ]
      ]
    ]

-- ---- a token and a blank

ends_at_blank : (t : Token) (b : ℕ) (more : List ℕ) → is_blank b ≡ true → EndsBefore t (b ∷ more)
ends_at_blank (Word k) b more e = tt
ends_at_blank (Sign s) b more e = tt
ends_at_blank (Operation o) b more e = tt
ends_at_blank (Name name) b more e = tt
ends_at_blank (Number n) b more e = grind (arith, nat_tests)
ends_at_blank (Hex value) b more e = tt
ends_at_blank (Quoted text) b more e = tt
ends_at_blank End b more e = tt
ends_at_blank Bad b more e = tt

bare : (t : Token) (bytes : List ℕ) (b : ℕ) (more : List ℕ) → Spells t bytes → is_blank b ≡ true
    → NoGap lexicon (bytes ++ (b ∷ more))
bare t bytes b more h e gap behind (blank c one whole is) =
    let r = reach (bytes ++ (b ∷ more)) t bytes (b ∷ more)
    (record { whole = refl; spelled = h; ends = ends_at_blank t b more e }) in
    none-some (r.kind, r.len) (sym (blank_none c behind is) ∙ ap token_at (sym whole) ∙ r.found)
bare t bytes b more h e gap behind (comment begins) =
    let found = comment_found (bytes ++ (b ∷ more)) gap behind begins in
    omega (arith, found.0, found.1, quiet t bytes b more h e)

-- ---- all of them

abbrev Can : Token → Type 0
Can t = (bytes : List ℕ) × Spells t bytes

stands : StandsBefore lexicon BlankFollows spelling Can
stands t [] can follows = absurd follows
stands t (b ∷ more) can follows =
    let spelled : Spells t (spelling t) = spelled_so t can.0 can.1 in (
      bare t (spelling t) b more spelled follows,
      longest_before lexicon BlankFollows scanner t (spelling t) (b ∷ more) spelled (ends_at_blank t b more follows)
          follows,
    )

space_stands : SpaceStands lexicon BlankFollows
space_stands rest = (refl, blank 32 refl refl refl)

pub is_read_back : IsReadBack
is_read_back tokens all =
    written_read lexicon BlankFollows spelling Can stands space_stands (10 ∷ []) refl
    (λ at. (
      (End, at + 1) ∷ [],
      passes at (10 ∷ []) (10 ∷ []) [] ((End, at + 1) ∷ []) (blank 10 refl refl refl)
          (ends (at + 1)),
      refl,
    )) tokens all 0
