-- The tokens of a text, each with its place: the number of bytes that stand before it. Public statements rest on this
-- file.
use Rattle.std.specs.Prelude.{◌≡◌, ◌≤◌, ◌/◌, ◌%◌, ℕ, Bool, false, not, ◌==◌, ◌||◌, List, [], ◌∷◌, ◌++◌}
use Rattle.std.specs.Prelude.{length, map, flat_map, codes, decimal, IsTrue, IsFalse}
use Rattle.std.specs.List.{list_all, AllByRecursion}
use Rattle.std.specs.Fmt.{digit_glyph}
use Rattle.grammars.specs.Tokens.{Lexicon}
use Rattle.grammars.specs.Tokens as tokens
use Rattle.ivy_syntax.specs.Token.{Token, Word, Sign, Operation, Name, Number, Hex, Quoted, End, Bad}
use Rattle.ivy_syntax.specs.Token.{letters, sign, mark, goes_on, Spells}

-- ---- what may stand after a token

-- A number has no letter, digit or `_` after it.
abbrev pub EndsBefore : Token → List ℕ → Type 0
EndsBefore (Number n) (b ∷ rest) = IsFalse (goes_on b)
EndsBefore _ _ = Unit {0}

-- ---- blanks and comments

-- space, tab, LF, CR
abbrev pub is_blank : ℕ → Bool
is_blank b = b == 32 || b == 9 || b == 10 || b == 13

-- a text that has ended, or whose line has
abbrev pub LineEnds : List ℕ → Type 0
LineEnds [] = Unit {0}
LineEnds (b ∷ rest) = b ≡ 10

abbrev pub is_in_line : ℕ → Bool
is_in_line b = not (b == 10)

-- the text has a `*/` after these bytes, and none before
pub record Closes (text before after : List ℕ) : Type 0 where
  pub whole : text ≡ before ++ (codes "*/" ++ after)
  pub first : (others more : List ℕ) → text ≡ others ++ (codes "*/" ++ more) → length before ≤ length others

-- The text begins with a comment, and then goes on with the rest: `//` to the line's end, or `/*` to the next `*/`.
pub data BeginsComment (text comment rest : List ℕ) : Type 0 where
  line : (body : List ℕ)
      → text ≡ comment ++ rest
      → comment ≡ codes "//" ++ body
      → IsTrue (list_all is_in_line body)
      → LineEnds rest
      → BeginsComment text comment rest
  block : (body more : List ℕ)
      → text ≡ codes "/*" ++ more
      → Closes more body rest
      → comment ≡ codes "/*" ++ (body ++ codes "*/")
      → BeginsComment text comment rest

-- A blank or a comment is passed over.
pub data BeginsGap (text gap rest : List ℕ) : Type 0 where
  blank : (b : ℕ)
      → gap ≡ b ∷ []
      → text ≡ b ∷ rest
      → IsTrue (is_blank b)
      → BeginsGap text gap rest
  comment : BeginsComment text gap rest
      → BeginsGap text gap rest

-- ---- the tokens of a text

abbrev pub lexicon : Lexicon Token
lexicon = record { Spells = Spells; EndsBefore = EndsBefore; BeginsGap = BeginsGap; end = End; bad = Bad }

abbrev pub Placed : Type 0
Placed = Token × ℕ

-- The text, before which stand so many bytes, has these tokens.
abbrev pub AreTokens : ℕ → List ℕ → List Placed → Type 0
AreTokens at text placed = tokens.AreTokens lexicon at text placed

-- Each text has exactly one list of tokens.
abbrev pub EachHasOneReading : Type 0
EachHasOneReading = tokens.EachHasOneReading lexicon

-- ---- the text that writes tokens

-- two digits for each byte, letters in lower case
abbrev pub digits_of : List ℕ → List ℕ
digits_of bytes = flat_map (λ b. digit_glyph false (b / 16) ∷ digit_glyph false (b % 16) ∷ []) bytes

abbrev pub spelling : Token → List ℕ
spelling (Word k) = letters k
spelling (Sign s) = sign s
spelling (Operation o) = mark o
spelling (Name name) = name
spelling (Number n) = decimal n
spelling (Hex value) = codes "0x" ++ digits_of value
spelling (Quoted text) = 39 ∷ (text ++ codes "'")
spelling End = []
spelling Bad = []

-- one space between two, and a newline at the end
abbrev pub written : List Token → List ℕ
written placed = tokens.written spelling placed ++ (10 ∷ [])

-- Each token can be written.
abbrev pub CanBeWritten : List Token → Type 0
CanBeWritten tokens = AllByRecursion (λ token. (bytes : List ℕ) × Spells token bytes) tokens

-- The written text has these tokens, and End after them.
abbrev pub IsReadBack : Type 0
IsReadBack = (tokens : List Token) → CanBeWritten tokens → (placed : List Placed)
    × AreTokens 0 (written tokens) placed × (map (λ p. p.0) placed ≡ tokens ++ (End ∷ []))
