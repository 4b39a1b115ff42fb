-- What is added to a text as a source is printed: tokens after those that stand there. Only contracts of private
-- functions name it.
use Rattle.std.specs.Prelude.{ℕ, Bool, true, false, List, [], ◌∷◌}
use Rattle.grammars.specs.Tokens as texts
use Rattle.ivy_syntax.specs.declared.lexeme.Keyword.{Keyword}
use Rattle.ivy_syntax.specs.declared.lexeme.Keyword.TheVariants as keyword
use Rattle.ivy_syntax.specs.declared.lexeme.Symbol.{Symbol}
use Rattle.ivy_syntax.specs.Token.{Token, Sign}
use Rattle.ivy_syntax.specs.Tokens.{spelling}

-- the tokens with a space before each
abbrev pub spaced : List Token → List ℕ
spaced tokens = texts.spaced spelling tokens

-- a sign, where it is wanted
abbrev pub sign_if : Bool → Symbol → List Token
sign_if true symbol = Sign symbol ∷ []
sign_if false symbol = []

-- how a truth value is written
abbrev pub truth_word : Bool → Keyword
truth_word true = keyword.True
truth_word false = keyword.False
