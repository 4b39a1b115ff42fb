-- The tokens that a filter is printed with. Public statements name it.
use Rattle.std.specs.Prelude.{Bool, true, false, List, [], ◌∷◌, ◌++◌, Option, Some, None}
use Rattle.filter_syntax.specs.declared.tree.Cond.{Cond, out-Cond}
use Rattle.filter_syntax.specs.declared.tree.Cond.TheOpen.{Cond-F}
use Rattle.filter_syntax.specs.declared.tree.Cond.TheFolds.{fold-Cond}
use Rattle.filter_syntax.specs.declared.tree.FilterValue.{FilterValue}
use Rattle.filter_syntax.specs.declared.tree.FilterValue.TheVariants as values
use Rattle.filter_syntax.specs.Token.{Token, Open, Close, Equals, And, Or, Inputs, Outputs, Name, Quoted, Number, Param}
use Rattle.filter_syntax.specs.Grammar.{Rule, Alternatives, Conjunction}
use Rattle.filter_syntax.specs.Grammar as grammar

abbrev pub value_token : FilterValue → Token
value_token (values.Quoted bytes) = Quoted bytes
value_token (values.Number n) = Number n
value_token (values.Param n) = Param n

abbrev pub scope_token : Bool → Token
scope_token true = Inputs
scope_token false = Outputs

-- in parentheses, or bare
abbrev pub enclosed_if : Bool → List Token → List Token
enclosed_if true tokens = Open ∷ (tokens ++ Close ∷ [])
enclosed_if false tokens = tokens

-- An `OR` stands in parentheses below the rule of `AND`, and an `AND` where a unit stands.
abbrev pub or_is_enclosed : Rule → Bool
or_is_enclosed Alternatives = false
or_is_enclosed _ = true

abbrev pub and_is_enclosed : Rule → Bool
and_is_enclosed grammar.Unit = true
and_is_enclosed _ = false

-- One condition, with the tokens of those inside it in their place, as they stand where a rule reads them.
abbrev pub tokens_by : Cond-F (Rule → List Token) → Rule → List Token
tokens_by (Cond-F.Or a b) rule = enclosed_if (or_is_enclosed rule) (a Alternatives ++ (Or ∷ b Conjunction))
tokens_by (Cond-F.And a b) rule = enclosed_if (and_is_enclosed rule) (a Conjunction ++ (And ∷ b grammar.Unit))
tokens_by (Cond-F.Scope inputs inner) rule = scope_token inputs ∷ enclosed_if true (inner Alternatives)
tokens_by (Cond-F.Is name value) rule = Name name ∷ Equals ∷ value_token value ∷ []

-- the tokens of a condition where this rule reads it
abbrev pub tokens_at : Rule → Cond → List Token
tokens_at rule condition = fold-Cond (Rule → List Token) tokens_by condition rule

-- It stands in parentheses where this rule reads it.
abbrev pub layer_is_enclosed : Cond-F Cond → Rule → Bool
layer_is_enclosed (Cond-F.Or a b) rule = or_is_enclosed rule
layer_is_enclosed (Cond-F.And a b) rule = and_is_enclosed rule
layer_is_enclosed _ rule = false

abbrev pub is_enclosed : Rule → Cond → Bool
is_enclosed rule condition = layer_is_enclosed (out-Cond condition) rule

-- a filter: the empty one has no tokens
abbrev pub shown : Option Cond → List Token
shown None = []
shown (Some condition) = tokens_at Alternatives condition
