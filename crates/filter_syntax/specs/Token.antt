-- The tokens of filters, and the bytes that each of them is written with. Public statements name it.
use Rattle.std.specs.Prelude.{ℕ, ◌^◌, ◌<◌, ◌≤◌, List, [], ◌∷◌, ◌++◌, IsTrue, codes, decimal}
use Rattle.std.specs.List.{list_all}
use Rattle.grammars.specs.Tokens as texts
use Rattle.filter_syntax.specs.Spelling.{is_quotable, IsName}

pub data Token : Type 0 where
  Open : Token
  Close : Token
  Equals : Token
  And : Token
  Or : Token
  Inputs : Token
  Outputs : Token
  -- an attribute
  Name : List ℕ → Token
  -- the text between two `'`
  Quoted : List ℕ → Token
  Number : ℕ → Token
  -- the parameter with this number
  Param : ℕ → Token
  -- the text's end
  End : Token
  -- bytes with which no token begins
  Bad : Token

-- the bytes of a token
abbrev pub spelling : Token → List ℕ
spelling Open = codes "("
spelling Close = codes ")"
spelling Equals = codes "="
spelling And = codes "AND"
spelling Or = codes "OR"
spelling Inputs = codes "inputs"
spelling Outputs = codes "outputs"
spelling (Name word) = word
spelling (Quoted text) = 39 ∷ (text ++ 39 ∷ [])
spelling (Number n) = decimal n
spelling (Param n) = 36 ∷ decimal n
spelling End = []
spelling Bad = []

-- A name is a word but the four with a meaning of their own, a quoted text has bytes 20 to 7e but `'`, a number is at
-- most 2^63 - 1, and a parameter has a number of 1 to 99. The end and bytes with which no token begins cannot be.
abbrev pub CanBeWritten : Token → Type 0
CanBeWritten (Name word) = IsName word
CanBeWritten (Quoted text) = IsTrue (list_all is_quotable text)
CanBeWritten (Number n) = n < 2 ^ 63
CanBeWritten (Param n) = (1 ≤ n) × (n ≤ 99)
CanBeWritten End = ⊥
CanBeWritten Bad = ⊥
CanBeWritten _ = Unit {0}

-- the tokens with a space before each
abbrev pub spaced : List Token → List ℕ
spaced tokens = texts.spaced spelling tokens

-- the tokens with one space between two
abbrev pub written : List Token → List ℕ
written tokens = texts.written spelling tokens
