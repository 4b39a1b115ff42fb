-- Which texts are filters, and the first token with which none begins. Public statements name it.
use Rattle.std.specs.Prelude.{◌≡◌, ℕ, zero, suc, Bool, true, false, List, [], ◌∷◌, ◌++◌, map, cond, Option, Some}
use Rattle.std.specs.Prelude.{None, Result, Ok, Err}
use Rattle.std.specs.Prelude.{slice_get}
use Rattle.std.specs.List.{AllByRecursion}
use Rattle.filter_syntax.specs.declared.tree.Filter.{Filter}
use Rattle.filter_syntax.specs.declared.fault.FilterFault.{FilterFault}
use Rattle.filter_syntax.specs.declared.fault.FilterFault.TheVariants as faults
use Rattle.filter_syntax.specs.Compared.{comparisons, IsKnown, FirstUnknown, places_of_names}
use Rattle.grammars.specs.Text.{Ended, FirstWrong}
use Rattle.filter_syntax.specs.declared.tree.Cond.{Cond}
use Rattle.filter_syntax.specs.declared.tree.RowKind.{RowKind}
use Rattle.filter_syntax.specs.declared.tree.RowKind.TheVariants as rows
use Rattle.filter_syntax.specs.Token.{Token, Name, End, Bad, CanBeWritten, written}
use Rattle.filter_syntax.specs.Shown.{shown}
use Rattle.filter_syntax.specs.Tokens.{Placed, AreTokens}
use Rattle.filter_syntax.specs.Grammar.{Alternatives, Reads}

-- Only in filters of transactions may a scope stand.
abbrev pub has_scopes : RowKind → Bool
has_scopes rows.Transactions = true
has_scopes _ = false

-- filter = [ or ], with at most 32 parentheses and scopes within one another
abbrev pub IsFilter : RowKind → List Placed → Option Cond → Type 0
IsFilter kind tokens None = tokens ≡ []
IsFilter kind tokens (Some c) = Reads Alternatives 32 (has_scopes kind) tokens c

abbrev pub kind_of : Placed → Token
kind_of p = p.0

-- These are the tokens of a text that is a filter, without its end.
pub record IsFilterText (kind : RowKind) (tokens : List Token) : Type 0 where
  pub text : List ℕ
  pub placed : List Placed
  pub end : ℕ
  pub are : AreTokens 0 text (placed ++ ((End, end) ∷ []))
  pub same : map kind_of placed ≡ tokens
  pub root : Option Cond
  pub reads : IsFilter kind placed root

-- a comparison begins with its attribute
abbrev pub is_comparison : Placed → Bool
is_comparison (Name name, at) = true
is_comparison _ = false

-- The first token of a comparison past so many counts as bytes with which no token begins, and nothing stands after it.
abbrev pub limited_to : ℕ → List Placed → List Placed
limited_to most [] = []
limited_to zero (p ∷ ps) = cond (is_comparison p) ((Bad, p.1) ∷ []) (p ∷ limited_to zero ps)
limited_to (suc most) (p ∷ ps) = p ∷ limited_to (cond (is_comparison p) most (suc most)) ps

-- The text's tokens, cut at the first token of its 257th comparison, which is Bad there.
pub record HasTokens (text : List ℕ) (tokens : List Placed) : Type 0 where
  pub placed : List Placed
  pub are : AreTokens 0 text placed
  pub limited : tokens ≡ limited_to 256 placed

-- With the token at this place, the end of the text or a comparison past the 256th among them, no filter of the kind
-- begins that has the same tokens before it; and one begins with those.
pub record SyntaxAt (kind : RowKind) (text : List ℕ) (at : ℕ) : Type 0 where
  pub tokens : List Placed
  pub has : HasTokens text tokens
  pub front : List Placed
  pub wrong : Token
  pub behind : List Placed
  pub split : tokens ≡ front ++ ((wrong, at) ∷ behind)
  pub first : FirstWrong (Ended (IsFilterText kind) End) (map kind_of tokens) (map kind_of front) wrong
      (map kind_of behind)

-- The text reads as this filter of the kind.
pub record ReadsAs (kind : RowKind) (text : List ℕ) (root : Option Cond) : Type 0 where
  pub tokens : List Placed
  pub end : ℕ
  pub has : HasTokens text (tokens ++ ((End, end) ∷ []))
  pub reads : IsFilter kind tokens root

-- ---- attributes

-- Rows of the kind have each attribute that the filter compares.
abbrev pub AreKnown : RowKind → Option Cond → Type 0
AreKnown kind None = Unit {0}
AreKnown kind (Some c) = AllByRecursion (IsKnown kind) (comparisons None c)

-- The text reads as a filter, and the first attribute that rows of the kind do not have stands at this place.
pub record UnknownAt (kind : RowKind) (text : List ℕ) (at : ℕ) : Type 0 where
  pub root : Cond
  pub reads : ReadsAs kind text (Some root)
  pub index : ℕ
  pub first : FirstUnknown kind (comparisons None root) index
  pub place : slice_get (places_of_names reads.tokens) index ≡ Some at

-- ---- answers

-- what is to be answered for a text; nothing is said of where memory runs out
abbrev pub AnswersFilter : RowKind → List ℕ → Result Filter FilterFault → Type 0
AnswersFilter kind text (Ok filter) = (filter.kind ≡ kind) × ReadsAs kind text filter.root × AreKnown kind filter.root
AnswersFilter kind text (Err (faults.Syntax at)) = SyntaxAt kind text at
AnswersFilter kind text (Err (faults.UnknownAttribute at)) = UnknownAt kind text at
AnswersFilter kind text (Err faults.NoMemory) = ⊥

-- each text has one answer, and what is printed is read again
pub record FilterLaws : Type 0 where
  pub some : (kind : RowKind) (text : List ℕ) → (answer : Result Filter FilterFault) × AnswersFilter kind text answer
  pub one : (kind : RowKind) (text : List ℕ) (a b : Result Filter FilterFault)
      → AnswersFilter kind text a
      → AnswersFilter kind text b
      → a ≡ b
  -- what is printed of a filter that a text is can be written, and is a text of that filter
  pub printed : (kind : RowKind) (text : List ℕ) (filter : Filter)
      → AnswersFilter kind text (Ok filter)
      → AllByRecursion CanBeWritten (shown filter.root)
      × AnswersFilter kind (written (shown filter.root)) (Ok filter)
