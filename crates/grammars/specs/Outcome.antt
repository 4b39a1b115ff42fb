-- What reading a part of a text comes to. Only proofs and contracts of private functions name it.
use Rattle.std.specs.Prelude.{List}

-- A value, and the tokens after the part; or the tokens from the first on with which no part goes on; or the tokens
-- from the first on that stands too deep.
pub data Outcome (T V : Type 0) : Type 0 where
  Got : V → List T → Outcome T V
  Wrong : List T → Outcome T V
  Deep : List T → Outcome T V

-- what comes of going on with what was got
infixl 10 ◌>>=◌
abbrev pub ◌>>=◌ : {T V W : Type 0} → Outcome T V → (V × List T → Outcome T W) → Outcome T W
(Got v rest) >>= f = f (v, rest)
(Wrong rest) >>= f = Wrong rest
(Deep rest) >>= f = Deep rest
