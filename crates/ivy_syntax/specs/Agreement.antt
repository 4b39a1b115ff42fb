-- What the parser's functions give, and that it is what the parser's way over the tokens gives. Only contracts of
-- private functions name it.
use Rattle.std.specs.Prelude.{◌≡◌, ◌≤◌, length, Bool, true, false, List, [], ◌∷◌, Option, Some, None, Result, Ok, Err}
use Rattle.std.specs.Borrow.{Bor}
use Rattle.grammars.specs.Outcome.{Outcome, Got, Wrong, Deep}
use Rattle.ivy_syntax.specs.declared.lexeme.Lexeme.{Lexeme}
use Rattle.ivy_syntax.specs.declared.reading.Stop.{Stop}
use Rattle.ivy_syntax.specs.declared.reading.Stop.TheVariants as stops
use Rattle.ivy_syntax.specs.declared.reading.Wanted.{Wanted}
use Rattle.ivy_syntax.specs.declared.reading.Wanted.TheVariants as wanted
use Rattle.ivy_syntax.specs.declared.reading.Head.{Head}
use Rattle.ivy_syntax.specs.declared.reading.Head.TheVariants as heads
use Rattle.ivy_syntax.specs.Tokens.{Placed}
use Rattle.ivy_syntax.specs.declared.lexeme.Symbol.TheVariants as symbol
use Rattle.ivy_syntax.specs.Token.{Token, Sign, Operation}
use Rattle.ivy_syntax.specs.Lexeme.{placed, tokens}
use Rattle.ivy_syntax.specs.Descent.{is_sign, is_word, joins, begins_stmt}
use Rattle.ivy_syntax.specs.Descent.{Start, Literal, Named, Paren, Bracket, Prefix, NoStart}

-- ---- tokens that are looked for

abbrev pub test : Wanted → Placed → Bool
test (wanted.Sign s) t = is_sign s t
test (wanted.Word k) t = is_word k t
test (wanted.Joins level) t = joins level t
test wanted.Statement t = begins_stmt t.0

abbrev pub Stops : (Placed → Bool) → List Placed → Type 0
Stops on [] = Unit {0}
Stops on (t ∷ ts) = on t ≡ false

-- This token comes next, of which that holds, and then these.
pub record GoesOn (on : Placed → Bool) (ts : List Placed) (t : Placed) (behind : List Placed) : Type 0 where
  pub goes : on t ≡ true
  pub first : ts ≡ t ∷ behind

-- a token of which this holds comes next, with the tokens after it; or none does
abbrev pub Follows : (Placed → Bool) → List Lexeme → Option (Lexeme × Bor (List Lexeme)) → Type 0
Follows on rest None = Stops on (tokens rest)
Follows on rest (Some found) = GoesOn on (tokens rest) (placed found.0) (tokens found.1.now)

-- what an operand begins with
abbrev pub start_of : Head → Start
start_of (heads.Literal form) = Literal form
start_of (heads.Named name) = Named name
start_of heads.Paren = Paren
start_of heads.Bracket = Bracket
start_of (heads.Prefix op) = Prefix op
start_of heads.NoStart = NoStart

-- ---- what reading gave

-- an opening parenthesis or bracket, or an operator
abbrev pub nests : Token → Bool
nests (Sign symbol.OpenParen) = true
nests (Sign symbol.OpenBracket) = true
nests (Operation o) = true
nests _ = false

-- the first of the tokens nests what is after it
abbrev pub Nests : List Placed → Type 0
Nests [] = ⊥
Nests (t ∷ ts) = nests t.0 ≡ true

-- what reading gave is what this gives, unless memory ran out
abbrev pub Agrees : {V : Type 0} → Result (V × Bor (List Lexeme)) Stop → Outcome Placed V → Type 0
Agrees (Ok found) model = model ≡ Got found.0 (tokens found.1.now)
Agrees (Err (stops.Wrong rest)) model = model ≡ Wrong (tokens rest.now)
Agrees (Err (stops.Deep rest)) model = (model ≡ Deep (tokens rest.now)) × Nests (tokens rest.now)
Agrees (Err stops.NoMemory) model = Unit {0}

-- and so for one token, which never stands too deep
abbrev pub AgreesOn : Result (Lexeme × Bor (List Lexeme)) Stop → Outcome Placed Placed → Type 0
AgreesOn (Ok found) model = model ≡ Got (placed found.0) (tokens found.1.now)
AgreesOn (Err (stops.Wrong rest)) model = model ≡ Wrong (tokens rest.now)
AgreesOn (Err _) model = ⊥

-- what is read leaves no more tokens than there were
abbrev pub Shortens : {V : Type 0} → (List Placed → Outcome Placed V) → Type 0
Shortens {V} read = (ts rest : List Placed) (v : V) → read ts ≡ Got v rest → length rest ≤ length ts
