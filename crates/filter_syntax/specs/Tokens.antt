-- Which tokens a text has, and where each of them begins. Public statements name it.
use Rattle.std.specs.Prelude.{◌≡◌, ℕ, List, [], ◌∷◌}
use Rattle.grammars.specs.Tokens.{Lexicon, StopsAt}
use Rattle.grammars.specs.Tokens as tokens
use Rattle.filter_syntax.specs.Spelling.{is_name_byte}
use Rattle.filter_syntax.specs.Token.{Token, Number, Param, End, Bad, spelling, CanBeWritten}

-- It begins with no letter, digit or `_`.
abbrev pub IsApart : List ℕ → Type 0
IsApart text = StopsAt is_name_byte text

-- A number has no letter, digit or `_` after it.
abbrev pub EndsBefore : Token → List ℕ → Type 0
EndsBefore (Number n) rest = IsApart rest
EndsBefore (Param n) rest = IsApart rest
EndsBefore _ rest = Unit {0}

-- A token is written in one way, and a space is passed over.
abbrev pub lexicon : Lexicon Token
lexicon = record {
  Spells = λ token bytes. CanBeWritten token × (bytes ≡ spelling token);
  EndsBefore = EndsBefore;
  BeginsGap = λ text gap rest. (gap ≡ 32 ∷ []) × (text ≡ 32 ∷ rest);
  end = End;
  bad = Bad;
}

-- a token, and the place of its first byte
abbrev pub Placed : Type 0
Placed = Token × ℕ

-- The text, whose first byte has the place `at`, has these tokens.
abbrev pub AreTokens : (at : ℕ) → (text : List ℕ) → (tokens : List Placed) → Type 0
AreTokens at text placed = tokens.AreTokens lexicon at text placed
