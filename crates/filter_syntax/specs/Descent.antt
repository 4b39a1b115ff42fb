-- How the parser goes over the tokens, rule by rule. Only contracts of private functions name it.
use Rattle.std.specs.Prelude.{◌≡◌, ℕ, suc, Bool, true, false, List, [], ◌∷◌, map, cond, Option, Some, None}
use Rattle.std.specs.Prelude.{Result, Ok, Err}
use Rattle.std.specs.Borrow.{Bor}
use Rattle.filter_syntax.specs.declared.tokens.Lexeme.{Lexeme}
use Rattle.filter_syntax.specs.declared.parser.Stop.{Stop}
use Rattle.filter_syntax.specs.declared.parser.Stop.TheVariants as stops
use Rattle.filter_syntax.specs.Lexing.{seen}
use Rattle.grammars.specs.Outcome.{Outcome, Got, Wrong, ◌>>=◌}
use Rattle.grammars.specs.Heads.{expect}
use Rattle.grammars.specs.Chain.{chained}
use Rattle.filter_syntax.specs.declared.tree.Cond.{Cond}
use Rattle.filter_syntax.specs.declared.tree.Cond.TheVariants as conditions
use Rattle.filter_syntax.specs.declared.tree.FilterValue.{FilterValue}
use Rattle.filter_syntax.specs.declared.tree.FilterValue.TheVariants as values
use Rattle.filter_syntax.specs.Tokens.{Placed}
use Rattle.filter_syntax.specs.Token.{Token, Open, Close, Equals, And, Or, Inputs, Outputs, Name, Quoted, Number, Param}
use Rattle.filter_syntax.specs.Token.{End, Bad}

abbrev pub is_and : Placed → Bool
is_and (And, at) = true
is_and _ = false

abbrev pub is_or : Placed → Bool
is_or (Or, at) = true
is_or _ = false

-- a token that stands for itself
abbrev pub opens : Placed → Option (Unit {0})
opens (Open, at) = Some tt
opens _ = None

abbrev pub closes : Placed → Option (Unit {0})
closes (Close, at) = Some tt
closes _ = None

abbrev pub equals : Placed → Option (Unit {0})
equals (Equals, at) = Some tt
equals _ = None

abbrev pub value_of : Placed → Option FilterValue
value_of (Quoted bytes, at) = Some (values.Quoted bytes)
value_of (Number n, at) = Some (values.Number n)
value_of (Param n, at) = Some (values.Param n)
value_of _ = None

abbrev pub Reader : Type 0
Reader = List Placed → Outcome Placed Cond

abbrev pub conjunction_by : Reader → Reader
conjunction_by unit = chained is_and (λ t a b. conditions.And a b) unit

abbrev pub alternatives_by : Reader → Reader
alternatives_by unit = chained is_or (λ t a b. conditions.Or a b) (conjunction_by unit)

-- what stands in parentheses, of which the first has been read
abbrev pub enclosed_by : Reader → Reader
enclosed_by inner ts = inner ts >>= λ c. expect closes c.1 >>= λ e. Got c.0 e.1

abbrev pub scope_by : Bool → Reader → Reader
scope_by inputs inner ts =
    (expect opens ts >>= λ o. enclosed_by inner o.1) >>= λ c. Got (conditions.Scope inputs c.0) c.1

abbrev pub comparison : List ℕ → Reader
comparison name ts = expect equals ts >>= λ e. expect value_of e.1 >>= λ v. Got (conditions.Is name v.0) v.1

abbrev pub unit_at : ℕ → Bool → Reader
unit_at depth scopes ((Name name, at) ∷ ts) = comparison name ts
unit_at (suc depth) scopes ((Open, at) ∷ ts) = enclosed_by (alternatives_by (unit_at depth scopes)) ts
unit_at (suc depth) true ((Inputs, at) ∷ ts) = scope_by true (alternatives_by (unit_at depth false)) ts
unit_at (suc depth) true ((Outputs, at) ∷ ts) = scope_by false (alternatives_by (unit_at depth false)) ts
unit_at depth scopes ts = Wrong ts

-- ---- the code and this

-- what reading gave is what this gives, unless memory ran out
abbrev pub Agrees : {V : Type 0} → List ℕ → Result (V × Bor (List Lexeme)) Stop → Outcome Placed V → Type 0
Agrees text (Ok found) model = model ≡ Got found.0 (map (seen text) found.1.now)
Agrees text (Err (stops.Wrong rest)) model = model ≡ Wrong (map (seen text) rest.now)
Agrees text (Err stops.NoMemory) model = Unit {0}

-- and so for one token, whose value does not count
abbrev pub AgreesOn : List ℕ → Result (Bor (List Lexeme)) Stop → Outcome Placed (Unit {0}) → Type 0
AgreesOn text (Ok rest) model = model ≡ Got tt (map (seen text) rest.now)
AgreesOn text (Err (stops.Wrong rest)) model = model ≡ Wrong (map (seen text) rest.now)
AgreesOn text (Err stops.NoMemory) model = Unit {0}

abbrev pub Stops : (Placed → Bool) → List Placed → Type 0
Stops on [] = Unit {0}
Stops on (t ∷ ts) = on t ≡ false

pub record GoesOn (on : Placed → Bool) (ts behind : List Placed) : Type 0 where
  pub token : Placed
  pub goes : on token ≡ true
  pub first : ts ≡ token ∷ behind

-- a token of which this holds comes next, and these are the tokens after it; or none does
abbrev pub Follows : (Placed → Bool) → List ℕ → List Lexeme → Option (Bor (List Lexeme)) → Type 0
Follows on text rest None = Stops on (map (seen text) rest)
Follows on text rest (Some behind) = GoesOn on (map (seen text) rest) (map (seen text) behind.now)

-- ---- whole filters

-- the text's end, or bytes with which no token begins
abbrev pub ends_text : Token → Bool
ends_text End = true
ends_text Bad = true
ends_text _ = false

abbrev pub root_at : Bool → List Placed → Outcome Placed (Option Cond)
root_at scopes [] = Got None []
root_at scopes (p ∷ ts) = cond (ends_text p.0) (Got None (p ∷ ts))
    (alternatives_by (unit_at 32 scopes) (p ∷ ts) >>= λ c. Got (Some c.0) c.1)
