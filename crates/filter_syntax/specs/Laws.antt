-- What holds of tokens and of lists of names. Public statements name it.
use Rattle.std.specs.Prelude.{◌≡◌, ℕ, List, [], ◌∷◌, ◌++◌, map, Result, IsFalse}
use Rattle.std.specs.List.{AllByRecursion}
use Rattle.filter_syntax.specs.Token.{Token, End, CanBeWritten, written}
use Rattle.filter_syntax.specs.Tokens.{Placed, AreTokens}
use Rattle.wire.specs.Strings.{is_among}
use Rattle.filter_syntax.specs.By.{Names, AnswersBy, each_once}
use Rattle.filter_syntax.specs.declared.fault.FilterFault.{FilterFault}

pub record TokenLaws : Type 0 where
  -- each text has one list of tokens
  pub some : (at : ℕ) (text : List ℕ) → (tokens : List Placed) × AreTokens at text tokens
  pub one : (at : ℕ) (text : List ℕ) (a b : List Placed) → AreTokens at text a → AreTokens at text b → a ≡ b
  -- Tokens with one space between two are the tokens of what is written so.
  pub again : (tokens : List Token)
      → AllByRecursion CanBeWritten tokens
      → (read : List Placed)
      × AreTokens 0 (written tokens) read
      × (map (λ placed. placed.0) read ≡ tokens ++ End ∷ [])

pub record ByLaws : Type 0 where
  -- each text has one answer
  pub some : (text : List ℕ) → (answer : Result Names FilterFault) × AnswersBy text answer
  pub one : (text : List ℕ) (a b : Result Names FilterFault) → AnswersBy text a → AnswersBy text b → a ≡ b
  -- Each name once: the same names, none of them twice, and in the order in which they first stand.
  pub same : (names : Names) (name : List ℕ) → is_among (each_once names) name ≡ is_among names name
  pub once : (names before : Names) (name : List ℕ) (behind : Names)
      → each_once names ≡ before ++ name ∷ behind
      → IsFalse (is_among behind name)
  pub order : (names more : Names) → (rest : Names) × (each_once (names ++ more) ≡ each_once names ++ rest)
