-- Which texts are sources, and what else a text has: a fault of syntax, or too many of something. Public statements
-- rest on this file.
use Rattle.std.specs.Prelude.{◌≡◌, ◌≤◌, ℕ, List, [], ◌∷◌, ◌++◌, map, reverse, Some, None, Result, Ok, Err}
use Rattle.grammars.specs.Text.{Begins, Ended, FirstWrong}
use Rattle.grammars.specs.Places.{kinds}
use Rattle.ivy_syntax.specs.declared.tree.Source.{Source}
use Rattle.ivy_syntax.specs.declared.fault.ParseFault.{ParseFault}
use Rattle.ivy_syntax.specs.declared.fault.ParseFault.TheVariants as faults
use Rattle.ivy_syntax.specs.Token.{Token, End, kind_of}
use Rattle.ivy_syntax.specs.Tokens.{Placed, AreTokens}
use Rattle.ivy_syntax.specs.Grammar.{File}
use Rattle.ivy_syntax.specs.Limits.{passes, FirstPassed}

-- ---- sources

-- These are the tokens of a text that is a source, without its end. So many parentheses, calls, lists and unary
-- operators may stand within one another.
pub record IsSource (depth : ℕ) (tokens : List Token) : Type 0 where
  pub text : List ℕ
  pub placed : List Placed
  pub end : ℕ
  pub are : AreTokens 0 text (placed ++ ((End, end) ∷ []))
  pub same : kinds placed ≡ tokens
  pub tree : Source
  pub reads : File depth placed tree

-- however many stand within one another
abbrev pub IsAnySource : List Token → Type 0
IsAnySource tokens = (depth : ℕ) × IsSource depth tokens

-- a source begins with these tokens, its end among them
abbrev pub BeginsSource : List Token → Type 0
BeginsSource front = Begins (Ended IsAnySource End) front

-- and one in which at most 32 stand within one another
abbrev pub BeginsWithin : List Token → Type 0
BeginsWithin front = Begins (Ended (IsSource 32) End) front

-- ---- limits

-- Behind these tokens this one passes a limit, by its number. It passes that of nesting where a source begins with them
-- and it, and none in which at most 32 parentheses, calls, lists and unary operators stand within one another.
pub data Passes (front : List Token) (token : Token) : ℕ → Type 0 where
  counted : (number : ℕ)
      → passes (reverse (map kind_of front)) (kind_of token) ≡ Some number
      → Passes front token number
  nested : BeginsSource (front ++ (token ∷ []))
      → (BeginsWithin (front ++ (token ∷ [])) → ⊥)
      → Passes front token 7

-- none of these tokens passes a counted limit
abbrev pub AreFew : List Token → Type 0
AreFew tokens = FirstPassed (map kind_of tokens) None

-- None of these tokens passes a limit.
pub record AreWithin (tokens : List Token) : Type 0 where
  pub nested : BeginsWithin tokens
  pub counted : AreFew tokens

-- ---- what a text is

-- The text reads as this source, and is within the limits.
pub record ReadsAs (text : List ℕ) (source : Source) : Type 0 where
  pub tokens : List Placed
  pub end : ℕ
  pub are : AreTokens 0 text (tokens ++ ((End, end) ∷ []))
  pub reads : File 32 tokens source
  pub few : AreFew (kinds tokens)

-- With the token at this place, the end of the text and a byte with which none begins among them, no source begins that
-- has the same tokens before it; and one begins with those. No token before it passes a limit.
pub record SyntaxAt (text : List ℕ) (at : ℕ) : Type 0 where
  pub tokens : List Placed
  pub are : AreTokens 0 text tokens
  pub front : List Placed
  pub wrong : Token
  pub behind : List Placed
  pub split : tokens ≡ front ++ ((wrong, at) ∷ behind)
  pub first : FirstWrong (Ended IsAnySource End) (kinds tokens) (kinds front) wrong (kinds behind)
  pub within : AreWithin (kinds front)

-- The token at this place is the first to pass a limit, and a source begins with the tokens up to it. Of the limits
-- that it passes this is the smallest number.
pub record TooManyAt (text : List ℕ) (what at : ℕ) : Type 0 where
  pub tokens : List Placed
  pub are : AreTokens 0 text tokens
  pub front : List Placed
  pub token : Token
  pub behind : List Placed
  pub split : tokens ≡ front ++ ((token, at) ∷ behind)
  pub begins : BeginsSource (kinds front ++ (token ∷ []))
  pub within : AreWithin (kinds front)
  pub passed : Passes (kinds front) token what
  pub smallest : (number : ℕ) → Passes (kinds front) token number → what ≤ number

-- Some text is this source.
abbrev pub IsOfSomeText : Source → Type 0
IsOfSomeText source = (text : List ℕ) × ReadsAs text source

-- ---- answers

-- what is to be answered for a text; nothing where memory runs out
abbrev pub AnswersText : List ℕ → Result Source ParseFault → Type 0
AnswersText text (Ok source) = ReadsAs text source
AnswersText text (Err (faults.Syntax at)) = SyntaxAt text at
AnswersText text (Err (faults.TooMany what at)) = TooManyAt text what at
AnswersText text (Err faults.NoMemory) = ⊥

-- Each text has one answer: it is one source, or has one fault.
pub record TextLaws : Type 0 where
  pub some : (text : List ℕ) → (answer : Result Source ParseFault) × AnswersText text answer
  pub one : (text : List ℕ) (a b : Result Source ParseFault) → AnswersText text a → AnswersText text b → a ≡ b
