-- The lexemes of a text up to a comparison past the last that it may have. Only contracts of private functions name it.
use Rattle.std.specs.Prelude.{◌≡◌, ℕ, List, [], ◌∷◌, ◌++◌, map, take, get_or, Option, Result, Ok, Err}
use Rattle.filter_syntax.specs.declared.tokens.Lexeme.{Lexeme}
use Rattle.filter_syntax.specs.declared.tokens.Kind.TheVariants as kinds
use Rattle.filter_syntax.specs.Token.{Bad}
use Rattle.filter_syntax.specs.Lexing.{seen}
use Rattle.filter_syntax.specs.Texts.{limited_to, ReadsAs, SyntaxAt, AnswersFilter}
use Rattle.filter_syntax.specs.declared.tree.Filter.{Filter}
use Rattle.filter_syntax.specs.declared.tree.Cond.{Cond}
use Rattle.filter_syntax.specs.declared.tree.RowKind.{RowKind}
use Rattle.filter_syntax.specs.declared.fault.FilterFault.{FilterFault}
use Rattle.filter_syntax.specs.declared.fault.FilterFault.TheVariants as faults

-- the lexeme at a place
abbrev pub lexeme_at : List Lexeme → ℕ → Lexeme
lexeme_at lexemes at = get_or lexemes at (record { kind = kinds.Open; from = 0; to = 0 })

-- within the limit are those before the place, and this one counts as one with which no token begins
abbrev pub IsLimited : List ℕ → List Lexeme → ℕ → ℕ → Type 0
IsLimited text lexemes most at = limited_to most (map (seen text) lexemes)
    ≡ map (seen text) (take at lexemes) ++ ((Bad, (lexeme_at lexemes at).from) ∷ [])

-- ---- answers

-- the fault's place is that of the first of these lexemes
abbrev pub IsSyntaxOf : List Lexeme → FilterFault → Type 0
IsSyntaxOf [] fault = fault ≡ faults.Syntax 0
IsSyntaxOf (l ∷ ls) fault = fault ≡ faults.Syntax l.from

-- Behind what was read stands the end of the text, or the fault is at the first lexeme there.
abbrev pub Closes : Option Cond → List Lexeme → Result (Option Cond) FilterFault → Type 0
Closes root rest (Ok found) = (found ≡ root)
    × ((l : Lexeme) × (ls : List Lexeme) × (rest ≡ l ∷ ls) × (l.kind ≡ kinds.End))
Closes root rest (Err fault) = IsSyntaxOf rest fault
    × ((l : Lexeme) (ls : List Lexeme) → rest ≡ l ∷ ls → l.kind ≡ kinds.End → ⊥)

-- the text reads as this filter, or has this fault, or memory ran out
abbrev pub ReadsOr : RowKind → List ℕ → Result (Option Cond) FilterFault → Type 0
ReadsOr kind text (Ok root) = ReadsAs kind text root
ReadsOr kind text (Err (faults.Syntax at)) = SyntaxAt kind text at
ReadsOr kind text (Err (faults.UnknownAttribute at)) = ⊥
ReadsOr kind text (Err faults.NoMemory) = Unit {0}

-- the answer for the text, or out of memory
abbrev pub AnswersOr : RowKind → List ℕ → Result Filter FilterFault → Type 0
AnswersOr kind text (Err faults.NoMemory) = Unit {0}
AnswersOr kind text answer = AnswersFilter kind text answer
