-- What holds of the tokens that filters are printed with. Public statements name it.
use Rattle.std.specs.Prelude.{◌≡◌, ◌↔◌, ℕ, ◌≤◌, Bool, true, false, List, [], ◌∷◌, ◌++◌, count_by}
use Rattle.std.specs.List.{AllByRecursion}
use Rattle.grammars.specs.Places.{kinds}
use Rattle.filter_syntax.specs.declared.tree.Cond.{Cond}
use Rattle.filter_syntax.specs.declared.tree.Cond.TheVariants as conditions
use Rattle.filter_syntax.specs.Token.{Token, Open, Close, And, Or, Name, End, CanBeWritten, written}
use Rattle.filter_syntax.specs.Tokens.{Placed, AreTokens}
use Rattle.filter_syntax.specs.Grammar.{Rule, Alternatives, Conjunction, Reads}
use Rattle.filter_syntax.specs.Grammar as grammar
use Rattle.filter_syntax.specs.Shown.{tokens_at, is_enclosed}

abbrev pub is_open : Token → Bool
is_open Open = true
is_open _ = false

-- how many `(` stand there
abbrev pub opened : List Token → ℕ
opened tokens = count_by is_open tokens

-- a comparison begins with its attribute
abbrev pub is_attribute : Token → Bool
is_attribute (Name name) = true
is_attribute _ = false

-- how many comparisons stand there
abbrev pub compared : List Token → ℕ
compared tokens = count_by is_attribute tokens

-- By this rule, at some places and some depth, the tokens read as this condition.
pub record TokensRead (rule : Rule) (scopes : Bool) (tokens : List Token) (condition : Cond) : Type 0 where
  pub depth : ℕ
  pub placed : List Placed
  pub same : kinds placed ≡ tokens
  pub reads : Reads rule depth scopes placed condition

-- The tokens of this text, up to its end, read as this condition.
pub record TextReads (depth : ℕ) (scopes : Bool) (text : List ℕ) (condition : Cond) : Type 0 where
  pub tokens : List Placed
  pub end : ℕ
  pub are : AreTokens 0 text (tokens ++ ((End, end) ∷ []))
  pub reads : Reads Alternatives depth scopes tokens condition

-- which of the two operands of `OR` or of `AND`
pub data Side : Type 0 where
  OrLeft OrRight AndLeft AndRight : Side

-- the condition of two operands
abbrev pub whole : Side → Cond → Cond → Cond
whole OrLeft a b = conditions.Or a b
whole OrRight a b = conditions.Or a b
whole AndLeft a b = conditions.And a b
whole AndRight a b = conditions.And a b

-- It stands in parentheses as this operand.
abbrev pub operand_is_enclosed : Side → Cond → Cond → Bool
operand_is_enclosed OrLeft a b = is_enclosed Alternatives a
operand_is_enclosed OrRight a b = is_enclosed Conjunction b
operand_is_enclosed AndLeft a b = is_enclosed Conjunction a
operand_is_enclosed AndRight a b = is_enclosed grammar.Unit b

-- the tokens of two operands, this one of them bare
abbrev pub with_bare : Side → Cond → Cond → List Token
with_bare OrLeft a b = tokens_at Alternatives a ++ (Or ∷ tokens_at Conjunction b)
with_bare OrRight a b = tokens_at Alternatives a ++ (Or ∷ tokens_at Alternatives b)
with_bare AndLeft a b = tokens_at Alternatives a ++ (And ∷ tokens_at grammar.Unit b)
with_bare AndRight a b = tokens_at Conjunction a ++ (And ∷ tokens_at Alternatives b)

pub record PrintLaws : Type 0 where
  -- What some tokens read as by a rule, those that are printed of it do by the same rule, within as many parentheses
  -- and scopes.
  pub again : (rule : Rule) (depth : ℕ) (scopes : Bool) (u w : List Placed) (c : Cond)
      → Reads rule depth scopes u c
      → kinds w ≡ tokens_at rule c
      → Reads rule depth scopes w c
  -- They can be written where those can.
  pub formed : (rule : Rule) (depth : ℕ) (scopes : Bool) (u : List Placed) (c : Cond)
      → Reads rule depth scopes u c
      → AllByRecursion CanBeWritten (kinds u)
      → AllByRecursion CanBeWritten (tokens_at rule c)
  -- They have as many comparisons.
  pub as_many : (rule : Rule) (depth : ℕ) (scopes : Bool) (u : List Placed) (c : Cond)
      → Reads rule depth scopes u c
      → compared (tokens_at rule c) ≡ compared (kinds u)
  -- So their text reads as the same condition.
  pub text : (depth : ℕ) (scopes : Bool) (u : List Placed) (c : Cond)
      → Reads Alternatives depth scopes u c
      → AllByRecursion CanBeWritten (kinds u)
      → TextReads depth scopes (written (tokens_at Alternatives c)) c
  -- Tokens are one condition at most.
  pub one : (depth other : ℕ) (scopes : Bool) (u : List Placed) (a b : Cond)
      → Reads Alternatives depth scopes u a
      → Reads Alternatives other scopes u b
      → a ≡ b
  -- No tokens with fewer parentheses read as the condition.
  pub fewest : (rule : Rule) (depth : ℕ) (scopes : Bool) (u : List Placed) (c : Cond)
      → Reads rule depth scopes u c
      → opened (tokens_at rule c) ≤ opened (kinds u)
  -- So none of those that are printed can be left out, whichever `(` and `)` they are and however deep they stand.
  pub needed : (scopes : Bool) (c : Cond) (before between behind : List Token)
      → tokens_at Alternatives c ≡ before ++ (Open ∷ (between ++ (Close ∷ behind)))
      → ¬ TokensRead Alternatives scopes (before ++ (between ++ behind)) c
  -- An operand stands bare exactly where the tokens with the operand bare read as the same condition.
  pub bare : (side : Side) (scopes : Bool) (tokens : List Token) (a b : Cond)
      → TokensRead Alternatives scopes tokens (whole side a b)
      → ((operand_is_enclosed side a b ≡ false) ↔ TokensRead Alternatives scopes (with_bare side a b) (whole side a b))

-- What two conditions read as where one that would stand in parentheses is bare: `AND` and `OR` group to the left, and
-- `AND` before `OR`.
pub record GroupingLaws : Type 0 where
  -- a OR (b OR c) without its parentheses is (a OR b) OR c, and a OR b is what it is with b bare.
  pub or_or : (scopes : Bool) (tokens : List Token) (a b c d : Cond)
      → TokensRead Alternatives scopes (with_bare OrRight a b) d
      → TokensRead Conjunction scopes tokens c
      → TokensRead Alternatives scopes (with_bare OrRight a (conditions.Or b c)) (conditions.Or d c)
  -- (a OR b) AND c is a OR (b AND c).
  pub or_and : (scopes : Bool) (first second third : List Token) (a b c : Cond)
      → TokensRead Alternatives scopes first a
      → TokensRead Conjunction scopes second b
      → TokensRead grammar.Unit scopes third c
      → TokensRead Alternatives scopes (with_bare AndLeft (conditions.Or a b) c) (conditions.Or a (conditions.And b c))
  -- a AND (b OR c) is (a AND b) OR c, and a AND b is what it is with b bare.
  pub and_or : (scopes : Bool) (tokens : List Token) (a b c d : Cond)
      → TokensRead Alternatives scopes (with_bare AndRight a b) d
      → TokensRead Conjunction scopes tokens c
      → TokensRead Alternatives scopes (with_bare AndRight a (conditions.Or b c)) (conditions.Or d c)
  -- a AND (b AND c) is (a AND b) AND c, and a AND b is what it is where b is read by the rule of `AND`.
  pub and_and : (scopes : Bool) (tokens : List Token) (a b c d : Cond)
      → TokensRead Conjunction scopes (tokens_at Conjunction a ++ (And ∷ tokens_at Conjunction b)) d
      → TokensRead grammar.Unit scopes tokens c
      → TokensRead Conjunction scopes (with_bare AndRight a (conditions.And b c)) (conditions.And d c)
