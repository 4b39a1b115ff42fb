-- A lexeme of the code, as a token with its place. Only contracts of private functions name it.
use Rattle.std.specs.Prelude.{◌+◌, ◌-◌, ◌*◌, ◌%◌, ℕ, List, [], ◌∷◌, length, map, take, drop}
use Rattle.std.specs.Char.{digit_value}
use Rattle.ivy_syntax.specs.declared.lexeme.Kind.{Kind}
use Rattle.ivy_syntax.specs.declared.lexeme.Kind.TheVariants as kind
use Rattle.ivy_syntax.specs.declared.lexeme.Lexeme.{Lexeme}
use Rattle.ivy_syntax.specs.Token.{Token, Word, Sign, Operation, Name, Number, Hex, Quoted, End, Bad}
use Rattle.ivy_syntax.specs.Tokens.{Placed}

-- the bytes that pairs of digits stand for
abbrev pub value_of : List ℕ → List ℕ
value_of [] = []
value_of (high ∷ []) = []
value_of (high ∷ low ∷ digits) = (16 * digit_value high + digit_value low) % 256 ∷ value_of digits

-- what these bytes are, if they are a token of this kind
abbrev pub token_of : Kind → List ℕ → Token
token_of (kind.Word k) bytes = Word k
token_of (kind.Sign s) bytes = Sign s
token_of (kind.Operation o) bytes = Operation o
token_of kind.Name bytes = Name bytes
token_of (kind.Number n) bytes = Number n
token_of kind.Hex bytes = Hex (value_of (drop 2 bytes))
token_of kind.Quoted bytes = Quoted (take (length bytes - 2) (drop 1 bytes))
token_of kind.End bytes = End
token_of kind.Bad bytes = Bad

-- a lexeme as a token with its place
abbrev pub placed : Lexeme → Placed
placed lexeme = (token_of lexeme.kind lexeme.bytes.now, lexeme.at)

abbrev pub tokens : List Lexeme → List Placed
tokens lexemes = map placed lexemes
