-- The tokens of a text, and which bytes are a token of which kind. Public statements rest on this file.
use Rattle.std.specs.Prelude.{◌≡◌, ◌<◌, ◌+◌, ◌*◌, ◌^◌, ℕ, Bool, ◌&&◌, ◌||◌, not, ◌==◌, nat_le}
use Rattle.std.specs.Prelude.{List, [], ◌∷◌, ◌++◌, codes, decimal, IsTrue}
use Rattle.std.specs.List.{list_all}
use Rattle.std.specs.Char.{is_ascii_alphabetic, is_ascii_alphanumeric, is_ascii_hexdigit, digit_value}
use Rattle.ivy_syntax.specs.declared.lexeme.Keyword.{Keyword}
use Rattle.ivy_syntax.specs.declared.lexeme.Keyword.TheVariants as keyword
use Rattle.ivy_syntax.specs.declared.lexeme.Symbol.{Symbol}
use Rattle.ivy_syntax.specs.declared.lexeme.Symbol.TheVariants as symbol
use Rattle.ivy_syntax.specs.declared.lexeme.Operator.{Operator}
use Rattle.ivy_syntax.specs.declared.lexeme.Operator.TheVariants as operator
use Rattle.ivy_syntax.specs.declared.lexeme.Kind.{Kind}
use Rattle.ivy_syntax.specs.declared.lexeme.Kind.TheVariants as kind

-- End is the end of the text, and Bad a byte with which no token begins.
pub data Token : Type 0 where
  Word : Keyword → Token
  Sign : Symbol → Token
  Operation : Operator → Token
  Name : List ℕ → Token
  Number : ℕ → Token
  Hex : List ℕ → Token
  Quoted : List ℕ → Token
  End : Token
  Bad : Token

-- what a token is, apart from its bytes
abbrev pub kind_of : Token → Kind
kind_of (Word k) = kind.Word k
kind_of (Sign s) = kind.Sign s
kind_of (Operation o) = kind.Operation o
kind_of (Name name) = kind.Name
kind_of (Number n) = kind.Number n
kind_of (Hex value) = kind.Hex
kind_of (Quoted text) = kind.Quoted
kind_of End = kind.End
kind_of Bad = kind.Bad

-- ---- words and signs, as they are written

abbrev pub letters : Keyword → List ℕ
letters keyword.Contract = codes "contract"
letters keyword.Clause = codes "clause"
letters keyword.Locks = codes "locks"
letters keyword.Requires = codes "requires"
letters keyword.Of = codes "of"
letters keyword.Verify = codes "verify"
letters keyword.Lock = codes "lock"
letters keyword.Unlock = codes "unlock"
letters keyword.With = codes "with"
letters keyword.True = codes "true"
letters keyword.False = codes "false"

abbrev pub sign : Symbol → List ℕ
sign symbol.OpenParen = codes "("
sign symbol.CloseParen = codes ")"
sign symbol.OpenBrace = codes "{"
sign symbol.CloseBrace = codes "}"
sign symbol.OpenBracket = codes "["
sign symbol.CloseBracket = codes "]"
sign symbol.Comma = codes ","
sign symbol.Colon = codes ":"

abbrev pub mark : Operator → List ℕ
mark operator.Or = codes "||"
mark operator.And = codes "&&"
mark operator.Equal = codes "=="
mark operator.NotEqual = codes "!="
mark operator.Less = codes "<"
mark operator.LessEqual = codes "<="
mark operator.Greater = codes ">"
mark operator.GreaterEqual = codes ">="
mark operator.ShiftLeft = codes "<<"
mark operator.ShiftRight = codes ">>"
mark operator.Plus = codes "+"
mark operator.Minus = codes "-"
mark operator.Star = codes "*"
mark operator.Slash = codes "/"
mark operator.Percent = codes "%"
mark operator.Not = codes "!"

-- ---- names

-- a letter or `_`, and then also a digit
abbrev pub begins_name : ℕ → Bool
begins_name b = is_ascii_alphabetic b || b == 95

abbrev pub goes_on : ℕ → Bool
goes_on b = is_ascii_alphanumeric b || b == 95

-- a name is no keyword
abbrev pub IsName : List ℕ → Type 0
IsName [] = ⊥
IsName (b ∷ bytes) =
    IsTrue (begins_name b) × IsTrue (list_all goes_on bytes) × ((k : Keyword) → b ∷ bytes ≡ letters k → ⊥)

-- ---- literals

-- two digits, of either case, for each byte
abbrev pub StandFor : List ℕ → List ℕ → Type 0
StandFor [] [] = Unit {0}
StandFor (high ∷ low ∷ digits) (b ∷ bytes) =
    IsTrue (is_ascii_hexdigit high) × IsTrue (is_ascii_hexdigit low)
    × (b ≡ 16 * digit_value high + digit_value low) × StandFor digits bytes
StandFor _ _ = ⊥

-- what stands between quotes: 20 to 7e, but neither `'` nor `\`
abbrev pub is_quotable : ℕ → Bool
is_quotable b = nat_le 32 b && nat_le b 126 && not (b == 39) && not (b == 92)

-- ---- each token, as it is written

abbrev pub Spells : Token → List ℕ → Type 0
Spells (Word k) bytes = bytes ≡ letters k
Spells (Sign s) bytes = bytes ≡ sign s
Spells (Operation o) bytes = bytes ≡ mark o
Spells (Name name) bytes = (bytes ≡ name) × IsName name
Spells (Number n) bytes = (bytes ≡ decimal n) × (n < 2 ^ 63)
Spells (Hex value) bytes = (digits : List ℕ) × (bytes ≡ codes "0x" ++ digits) × StandFor digits value
Spells (Quoted text) bytes = (bytes ≡ 39 ∷ (text ++ codes "'")) × IsTrue (list_all is_quotable text)
Spells End bytes = ⊥
Spells Bad bytes = ⊥
