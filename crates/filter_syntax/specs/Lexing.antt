-- The longest token of a text, found from its first byte on. Only contracts of private functions name it.
use Rattle.std.specs.Prelude.{◌≡◌, ℕ, ◌-◌, ◌≤◌, ◌==◌, ◌&&◌, List, [], ◌∷◌, length, take, drop}
use Rattle.std.specs.Prelude.{codes}
use Rattle.std.specs.Prelude.{Option, Some, None, option_and_then, if◌then◌else◌, nat_le, slice_range}
use Rattle.std.specs.Option.{option_map}
use Rattle.std.specs.List.{prefix_len, take_while}
use Rattle.std.specs.Str.{bytes_eq}
use Rattle.wire.specs.Spelling.{greatest}
use Rattle.wire.specs.Decimal.{decimal_within}
use Rattle.filter_syntax.specs.Spelling.{is_name_byte, is_word, is_quotable}
use Rattle.filter_syntax.specs.Token.{Token, Open, Close, Equals, And, Or, Inputs, Outputs, Name, Quoted, Number, Param}
use Rattle.filter_syntax.specs.Token.{End, Bad, spelling}
use Rattle.filter_syntax.specs.Tokens.{Placed}
use Rattle.filter_syntax.specs.declared.tokens.Lexeme.{Lexeme}
use Rattle.filter_syntax.specs.declared.tokens.Kind.{Kind}
use Rattle.filter_syntax.specs.declared.tokens.Kind.TheVariants as kinds

-- the letters, digits and `_` up to the first other byte
abbrev pub run_of : List ℕ → List ℕ
run_of text = take_while is_name_byte text

-- the token of a word
unfoldable pub word_token : List ℕ → Token
word_token word =
    if bytes_eq word (codes "AND") then And else
    if bytes_eq word (codes "OR") then Or else
    if bytes_eq word (codes "inputs") then Inputs else
    if bytes_eq word (codes "outputs") then Outputs else Name word

-- the token of a whole run: a word or a number
unfoldable pub run_token : List ℕ → Option Token
run_token run = if is_word run then Some (word_token run) else option_map Number (decimal_within greatest run)

-- the token of a `$` and a whole run
abbrev pub numbered : ℕ → Option Token
numbered n = if nat_le 1 n && nat_le n 99 then Some (Param n) else None

unfoldable pub param_token : List ℕ → Option Token
param_token run = option_and_then numbered (decimal_within greatest run)

-- the token of a `'` and what stands after it
abbrev pub closed : List ℕ → List ℕ → Option Token
closed text [] = None
closed text (byte ∷ rest) = if byte == 39 then Some (Quoted text) else None

unfoldable pub quoted_token : List ℕ → Option Token
quoted_token behind =
    closed (take_while is_quotable behind) (drop (prefix_len is_quotable behind) behind)

-- the longest token that a text begins with
unfoldable pub first_token : List ℕ → Option Token
first_token [] = None
first_token (first ∷ rest) =
    if first == 40 then Some Open else
    if first == 41 then Some Close else
    if first == 61 then Some Equals else
    if first == 39 then quoted_token rest else
    if first == 36 then param_token (run_of rest) else run_token (run_of (first ∷ rest))

-- the bytes but the first and the last
abbrev pub between : List ℕ → List ℕ
between bytes = take (length bytes - 2) (drop 1 bytes)

-- the token of a kind that is written with these bytes
abbrev pub token_of : Kind → List ℕ → Token
token_of kinds.Open bytes = Open
token_of kinds.Close bytes = Close
token_of kinds.Equals bytes = Equals
token_of kinds.And bytes = And
token_of kinds.Or bytes = Or
token_of kinds.Inputs bytes = Inputs
token_of kinds.Outputs bytes = Outputs
token_of kinds.Name bytes = Name bytes
token_of kinds.Quoted bytes = Quoted (between bytes)
token_of (kinds.Number n) bytes = Number n
token_of (kinds.Param n) bytes = Param n
token_of kinds.End bytes = End
token_of kinds.Bad bytes = Bad

-- The token of a kind that takes so many bytes of the text is what was read.
pub record IsFound (text : List ℕ) (kind : Kind) (len : ℕ) (read : Option Token) : Type 0 where
  pub is : read ≡ Some (token_of kind (take len text))
  pub takes : len ≡ length (spelling (token_of kind (take len text)))
  pub some : 1 ≤ len
  pub within : len ≤ length text

-- A kind and a number of bytes, or nothing, is what was read.
abbrev pub Finds : List ℕ → Option (Kind × ℕ) → Option Token → Type 0
Finds text None read = read ≡ None
Finds text (Some found) read = IsFound text found.0 found.1 read

-- what stands where a lexeme of the text does
abbrev pub seen : List ℕ → Lexeme → Placed
seen text lexeme = (token_of lexeme.kind (slice_range text lexeme.from lexeme.to), lexeme.from)
