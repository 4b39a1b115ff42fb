-- What is answered for a text, by how reading its lexemes came out and by the first counted limit that one of them
-- passes. Only contracts of private functions name it.
use Rattle.std.specs.Prelude.{◌≡◌, ◌+◌, ℕ, Bool, true, false, nat_lt, if◌then◌else◌}
use Rattle.std.specs.Prelude.{List, [], ◌∷◌, ◌++◌, length, map, take, slice_index, Option, Some, None, Result, Ok, Err}
use Rattle.ivy_syntax.specs.declared.lexeme.Lexeme.{Lexeme}
use Rattle.ivy_syntax.specs.declared.tree.Source.{Source}
use Rattle.ivy_syntax.specs.declared.fault.ParseFault.{ParseFault}
use Rattle.ivy_syntax.specs.declared.fault.ParseFault.TheVariants as faults
use Rattle.ivy_syntax.specs.declared.lexeme.Kind.TheVariants as kind
use Rattle.ivy_syntax.specs.declared.lexeme.Kind.{Kind}
use Rattle.grammars.specs.Places.{kinds}
use Rattle.ivy_syntax.specs.Token.{Bad, kind_of}
use Rattle.ivy_syntax.specs.Tokens.{Placed, AreTokens}
use Rattle.ivy_syntax.specs.Limits.{FirstPassed}
use Rattle.ivy_syntax.specs.Texts.{AnswersText}

abbrev pub is_end : Kind → Bool
is_end kind.End = true
is_end _ = false

-- where the lexemes begin
abbrev pub places : List Lexeme → List ℕ
places lexemes = map (λ l. l.at) lexemes

-- the first of these places
abbrev pub first_place : List ℕ → ℕ
first_place [] = 0
first_place (at ∷ places) = at

-- the text ends here
abbrev pub ends : List Lexeme → Bool
ends [] = false
ends (l ∷ lexemes) = is_end l.kind

-- the tokens up to the one that passes a counted limit, and Bad in the place of those after it
abbrev pub cut_after : List Placed → Option (ℕ × ℕ) → List Placed
cut_after tokens None = tokens
cut_after tokens (Some found) =
    if nat_lt (found.0 + 1) (length tokens)
    then take (found.0 + 1) tokens ++ ((Bad, slice_index (map (λ t. t.1) tokens) (found.0 + 1)) ∷ [])
    else tokens

-- These are the tokens of the text, cut after the first that passes a counted limit.
pub record IsCut (text : List ℕ) (tokens : List Placed) (passed : Option (ℕ × ℕ)) : Type 0 where
  pub all : List Placed
  pub are : AreTokens 0 text all
  pub first : FirstPassed (map kind_of (kinds all)) passed
  pub cut : tokens ≡ cut_after all passed

-- nothing, or the counted limit that a token before the last ones passes, of which there are so many
abbrev pub unpassed : List ℕ → ℕ → Option (ℕ × ℕ) → Result (Unit {0}) ParseFault
unpassed places left None = Ok tt
unpassed places left (Some found) =
    if nat_lt (found.0 + left) (length places) then Err (faults.TooMany found.1 (slice_index places found.0)) else Ok tt

-- the answer for the text, or none where memory ran out
abbrev pub AnswersOr : List ℕ → Result Source ParseFault → Type 0
AnswersOr text (Err faults.NoMemory) = Unit {0}
AnswersOr text answer = AnswersText text answer
