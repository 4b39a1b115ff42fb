-- How a text is cut into tokens from the left, as a function. Only contracts of private functions name it.
use Rattle.std.specs.Prelude.{◌<◌, ◌≤◌, ◌+◌, ◌*◌, ◌/◌, ℕ, Bool, ◌&&◌, ◌==◌}
use Rattle.std.specs.Prelude.{List, [], ◌∷◌, take, drop, slice_index, if◌then◌else◌}
use Rattle.std.specs.Prelude.{Option, Some, None, option_map, bytes_eq}
use Rattle.std.specs.List.{prefix_len}
use Rattle.std.specs.Char.{is_ascii_digit, is_ascii_hexdigit}
use Rattle.ivy_syntax.specs.declared.lexeme.Keyword.{Keyword}
use Rattle.ivy_syntax.specs.declared.lexeme.Keyword.TheVariants as keyword
use Rattle.ivy_syntax.specs.declared.lexeme.Symbol.{Symbol}
use Rattle.ivy_syntax.specs.declared.lexeme.Symbol.TheVariants as symbol
use Rattle.ivy_syntax.specs.declared.lexeme.Operator.{Operator}
use Rattle.ivy_syntax.specs.declared.lexeme.Operator.TheVariants as operator
use Rattle.ivy_syntax.specs.declared.lexeme.Kind.{Kind}
use Rattle.ivy_syntax.specs.declared.lexeme.Kind.TheVariants as kind
use Rattle.ivy_syntax.specs.declared.lexeme.Front.{Front}
use Rattle.ivy_syntax.specs.declared.lexeme.Front.TheVariants as front
use Rattle.wire.specs.Decimal.{decimal_within}
use Rattle.wire.specs.Spelling.{greatest}
use Rattle.ivy_syntax.specs.Token.{letters, begins_name, goes_on, is_quotable}
use Rattle.ivy_syntax.specs.Tokens.{is_blank, is_in_line}

-- ---- the first token

-- a kind, and how many bytes the token takes
abbrev pub Cut : Type 0
Cut = Option (Kind × ℕ)

abbrev pub keyword_among : List Keyword → List ℕ → Option Keyword
keyword_among [] word = None
keyword_among (k ∷ ks) word = if bytes_eq (letters k) word then Some k else keyword_among ks word

abbrev pub all_keywords : List Keyword
all_keywords =
    keyword.Contract ∷ keyword.Clause ∷ keyword.Locks ∷ keyword.Requires ∷ keyword.Of ∷ keyword.Verify
    ∷ keyword.Lock ∷ keyword.Unlock ∷ keyword.With ∷ keyword.True ∷ keyword.False ∷ []

unfoldable pub keyword_of : List ℕ → Option Keyword
keyword_of word = keyword_among all_keywords word

abbrev pub word_kind : Option Keyword → Kind
word_kind None = kind.Name
word_kind (Some k) = kind.Word k

unfoldable pub word_at : List ℕ → Cut
word_at text =
    let len = prefix_len goes_on text in Some (word_kind (keyword_of (take len text)), len)

unfoldable pub number_at : List ℕ → Cut
number_at text =
    let len = prefix_len goes_on text in
    option_map (λ n. (kind.Number n, len)) (decimal_within greatest (take len text))

unfoldable pub hex_at : List ℕ → Cut
hex_at text = Some (kind.Hex, 2 + 2 * (prefix_len is_ascii_hexdigit (drop 2 text) / 2))

unfoldable pub quoted_at : List ℕ → Cut
quoted_at text =
    let len = prefix_len is_quotable (drop 1 text) in
    if slice_index text (1 + len) == 39 then Some (kind.Quoted, 2 + len) else None

-- an operator of two bytes
unfoldable pub pair_of : ℕ → ℕ → Option Operator
pair_of b next =
    if b == 124 && next == 124 then Some operator.Or
    else (if b == 38 && next == 38 then Some operator.And
    else (if b == 61 && next == 61 then Some operator.Equal
    else (if b == 33 && next == 61 then Some operator.NotEqual
    else (if b == 60 && next == 61 then Some operator.LessEqual
    else (if b == 62 && next == 61 then Some operator.GreaterEqual
    else (if b == 60 && next == 60 then Some operator.ShiftLeft
    else (if b == 62 && next == 62 then Some operator.ShiftRight
    else None)))))))

-- an operator or a sign of one byte
unfoldable pub symbol_of : ℕ → Option Symbol
symbol_of b =
    if b == 40 then Some symbol.OpenParen
    else (if b == 41 then Some symbol.CloseParen
    else (if b == 123 then Some symbol.OpenBrace
    else (if b == 125 then Some symbol.CloseBrace
    else (if b == 91 then Some symbol.OpenBracket
    else (if b == 93 then Some symbol.CloseBracket
    else (if b == 44 then Some symbol.Comma
    else (if b == 58 then Some symbol.Colon
    else None)))))))

unfoldable pub operator_of : ℕ → Option Operator
operator_of b =
    if b == 60 then Some operator.Less
    else (if b == 62 then Some operator.Greater
    else (if b == 43 then Some operator.Plus
    else (if b == 45 then Some operator.Minus
    else (if b == 42 then Some operator.Star
    else (if b == 47 then Some operator.Slash
    else (if b == 37 then Some operator.Percent
    else (if b == 33 then Some operator.Not
    else None)))))))

abbrev pub single_cut : Option Symbol → Option Operator → Cut
single_cut (Some s) o = Some (kind.Sign s, 1)
single_cut None (Some o) = Some (kind.Operation o, 1)
single_cut None None = None

abbrev pub sign_cut : Option Operator → ℕ → Cut
sign_cut (Some o) b = Some (kind.Operation o, 2)
sign_cut None b = single_cut (symbol_of b) (operator_of b)

unfoldable pub sign_at : List ℕ → Cut
sign_at text = sign_cut (pair_of (slice_index text 0) (slice_index text 1)) (slice_index text 0)

unfoldable pub token_at : List ℕ → Cut
token_at text =
    let b = slice_index text 0 in
    if begins_name b then word_at text
    else (if b == 48 && slice_index text 1 == 120 then hex_at text
    else (if is_ascii_digit b then number_at text
    else (if b == 39 then quoted_at text
    else sign_at text)))

-- ---- blanks and comments

-- the place of the first `*/`, where the text's first byte has this place
abbrev pub close_from : ℕ → List ℕ → Option ℕ
close_from at [] = None
close_from at (b ∷ rest) = if b == 42 && slice_index rest 0 == 47 then Some at else close_from (at + 1) rest

abbrev pub close_of : List ℕ → Option ℕ
close_of text = close_from 0 text

abbrev pub begins_block : List ℕ → Bool
begins_block text = slice_index text 0 == 47 && slice_index text 1 == 42

-- how many bytes of a comment the text begins with
abbrev pub closed_len : Option ℕ → ℕ
closed_len None = 0
closed_len (Some before) = 4 + before

unfoldable pub comment_len : List ℕ → ℕ
comment_len text =
    if slice_index text 0 == 47 && slice_index text 1 == 47 then 2 + prefix_len is_in_line (drop 2 text)
    else (if begins_block text then closed_len (close_of (drop 2 text)) else 0)

abbrev pub front_of_cut : Cut → Front
front_of_cut None = front.Wrong
front_of_cut (Some cut) = front.Token cut.0 cut.1

-- how many bytes of a blank or a comment the text begins with
abbrev pub gap_len : List ℕ → ℕ
gap_len text = if is_blank (slice_index text 0) then 1 else comment_len text

unfoldable pub front_at : List ℕ → Front
front_at text = if gap_len text == 0 then front_of_cut (token_at text) else front.Blank (gap_len text)

-- what a text begins with takes at least one byte, and no more than there are
abbrev pub TakesWithin : Front → ℕ → Type 0
TakesWithin (front.Blank len) most = (0 < len) × (len ≤ most)
TakesWithin (front.Token k len) most = (0 < len) × (len ≤ most)
TakesWithin front.Wrong most = Unit {0}
