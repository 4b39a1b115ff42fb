-- The grammar of filters, over tokens with their places. Public statements name it.
use Rattle.std.specs.Prelude.{ℕ, suc, Bool, true, false, List, [], ◌∷◌, ◌++◌}
use Rattle.filter_syntax.specs.declared.tree.Cond.{Cond}
use Rattle.filter_syntax.specs.declared.tree.Cond.TheVariants as conditions
use Rattle.filter_syntax.specs.declared.tree.FilterValue.{FilterValue}
use Rattle.filter_syntax.specs.declared.tree.FilterValue.TheVariants as values
use Rattle.filter_syntax.specs.Tokens.{Placed}
use Rattle.filter_syntax.specs.Token.{Token, Open, Close, Equals, And, Or, Inputs, Outputs, Name, Quoted, Number, Param}

-- which of the grammar's rules a condition is read by: `or`, `and` or `unit`
pub data Rule : Type 0 where
  Alternatives Conjunction Unit : Rule

-- a value is one token
pub data IsValue : Token → FilterValue → Type 0 where
  Text : (bytes : List ℕ) → IsValue (Quoted bytes) (values.Quoted bytes)
  Decimal : (n : ℕ) → IsValue (Number n) (values.Number n)
  Parameter : (n : ℕ) → IsValue (Param n) (values.Param n)

-- By this rule the tokens read as this condition. So many parentheses and scopes may stand within one another there,
-- and scopes only where they are allowed.
--
--     or = and { "OR" and }      and = unit { "AND" unit }
--     unit = "(" or ")" | ("inputs" | "outputs") "(" or ")" | attribute "=" value
pub data Reads : Rule → (depth : ℕ) → (scopes : Bool) → List Placed → Cond → Type 0 where
  conjunction : {depth : ℕ} {scopes : Bool} {u : List Placed} {c : Cond}
      → Reads Conjunction depth scopes u c
      → Reads Alternatives depth scopes u c
  or : {depth : ℕ} {scopes : Bool} {u w : List Placed} {a b : Cond} (at : ℕ)
      → Reads Alternatives depth scopes u a
      → Reads Conjunction depth scopes w b
      → Reads Alternatives depth scopes (u ++ ((Or, at) ∷ w)) (conditions.Or a b)
  unit : {depth : ℕ} {scopes : Bool} {u : List Placed} {c : Cond}
      → Reads Unit depth scopes u c
      → Reads Conjunction depth scopes u c
  and : {depth : ℕ} {scopes : Bool} {u w : List Placed} {a b : Cond} (at : ℕ)
      → Reads Conjunction depth scopes u a
      → Reads Unit depth scopes w b
      → Reads Conjunction depth scopes (u ++ ((And, at) ∷ w)) (conditions.And a b)
  parentheses : {depth : ℕ} {scopes : Bool} {u : List Placed} {c : Cond} (at close : ℕ)
      → Reads Alternatives depth scopes u c
      → Reads Unit (suc depth) scopes ((Open, at) ∷ (u ++ ((Close, close) ∷ []))) c
  inputs : {depth : ℕ} {u : List Placed} {c : Cond} (at first close : ℕ)
      → Reads Alternatives depth false u c
      → Reads Unit (suc depth) true ((Inputs, at) ∷ (Open, first) ∷ (u ++ ((Close, close) ∷ [])))
      (conditions.Scope true c)
  outputs : {depth : ℕ} {u : List Placed} {c : Cond} (at first close : ℕ)
      → Reads Alternatives depth false u c
      → Reads Unit (suc depth) true ((Outputs, at) ∷ (Open, first) ∷ (u ++ ((Close, close) ∷ [])))
      (conditions.Scope false c)
  comparison : {depth : ℕ} {scopes : Bool} {name : List ℕ} {token : Token} {value : FilterValue} (at equals place : ℕ)
      → IsValue token value
      → Reads Unit depth scopes ((Name name, at) ∷ (Equals, equals) ∷ (token, place) ∷ []) (conditions.Is name value)
