-- Lists of attribute names, joined by commas. Public statements name it.
use Rattle.std.specs.Prelude.{◌≡◌, ℕ, ◌<◌, not, List, [], ◌∷◌, ◌++◌, length, IsTrue, filter}
use Rattle.std.specs.Prelude.{Result, Ok, Err}
use Rattle.std.specs.List.{AllByRecursion, flat_map, join_with_byte}
use Rattle.std.specs.Str.{bytes_eq}
use Rattle.wire.specs.Strings.{is_among}
use Rattle.filter_syntax.specs.Spelling.{is_word}
use Rattle.filter_syntax.specs.Attributes.{by_attributes}
use Rattle.filter_syntax.specs.declared.fault.FilterFault.{FilterFault}
use Rattle.filter_syntax.specs.declared.fault.FilterFault.TheVariants.{Syntax, UnknownAttribute, NoMemory}

abbrev pub Names : Type 0
Names = List (List ℕ)

-- The text is these names, at least one, joined by commas.
pub record Joins (text : List ℕ) (names : Names) : Type 0 where
  pub some : 0 < length names
  pub words : AllByRecursion (λ name. IsTrue (is_word name)) names
  pub joined : text ≡ join_with_byte 44 names

-- Some text of names joined by commas begins with these bytes.
abbrev pub Begins : List ℕ → Type 0
Begins front = (names : Names) × (behind : List ℕ) × Joins (front ++ behind) names

-- Some such text begins with the prefix, and goes on as the rest does: it ends there too, or has the rest's first byte.
abbrev pub GoesOn : List ℕ → List ℕ → Type 0
GoesOn front [] = (names : Names) × Joins front names
GoesOn front (byte ∷ rest) = Begins (front ++ byte ∷ [])

-- The place of the first byte, or of the end, with which no such text goes on after the same bytes.
pub record IsSyntaxFault (text : List ℕ) (at : ℕ) : Type 0 where
  pub front : List ℕ
  pub rest : List ℕ
  pub split : text ≡ front ++ rest
  pub place : at ≡ length front
  pub begins : Begins front
  pub ends : ¬ GoesOn front rest

abbrev pub IsKnown : List ℕ → Type 0
IsKnown name = IsTrue (is_among by_attributes name)

-- names with a comma after each
abbrev pub before_next : Names → List ℕ
before_next names = flat_map (λ name. name ++ 44 ∷ []) names

-- The place of the first of the names that is unknown, where they are joined by commas.
pub record IsFirstUnknown (names : Names) (at : ℕ) : Type 0 where
  pub before : Names
  pub name : List ℕ
  pub behind : Names
  pub split : names ≡ before ++ name ∷ behind
  pub known : AllByRecursion IsKnown before
  pub unknown : ¬ IsKnown name
  pub place : at ≡ length (before_next before)

-- The text is names joined by commas, the first unknown one of which stands at this place.
pub record IsUnknownFault (text : List ℕ) (at : ℕ) : Type 0 where
  pub names : Names
  pub joins : Joins text names
  pub first : IsFirstUnknown names at

-- each name once, where it first stands
abbrev pub each_once : Names → Names
each_once [] = []
each_once (name ∷ names) = name ∷ filter (λ other. not (bytes_eq other name)) (each_once names)

-- The text is known names joined by commas, and these are they, each once.
pub record IsBy (text : List ℕ) (by : Names) : Type 0 where
  pub names : Names
  pub joins : Joins text names
  pub known : AllByRecursion IsKnown names
  pub once : by ≡ each_once names

-- What a text is read as, memory aside.
abbrev pub AnswersBy : List ℕ → Result Names FilterFault → Type 0
AnswersBy text (Ok by) = IsBy text by
AnswersBy text (Err (Syntax at)) = IsSyntaxFault text at
AnswersBy text (Err (UnknownAttribute at)) = IsUnknownFault text at
AnswersBy text (Err NoMemory) = ⊥
