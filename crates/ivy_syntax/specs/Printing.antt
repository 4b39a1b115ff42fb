-- What holds of the tokens that sources are printed with. Public statements rest on this file.
use Rattle.std.specs.Prelude.{◌≡◌, ◌≤◌, ℕ, Bool, true, false, List, ◌∷◌, ◌++◌, count_by}
use Rattle.grammars.specs.Places.{kinds}
use Rattle.ivy_syntax.specs.declared.tree.Source.{Source}
use Rattle.ivy_syntax.specs.declared.lexeme.Symbol.TheVariants as symbol
use Rattle.ivy_syntax.specs.Token.{Token, Sign}
use Rattle.ivy_syntax.specs.Tokens.{Placed, CanBeWritten, written}
use Rattle.ivy_syntax.specs.Grammar.{File}
use Rattle.ivy_syntax.specs.Shown.{shown}
use Rattle.ivy_syntax.specs.Texts.{ReadsAs}
use Rattle.ivy_syntax.specs.Unplaced.{unplaced}

abbrev pub is_open : Token → Bool
is_open (Sign symbol.OpenParen) = true
is_open _ = false

-- how many `(` stand there
abbrev pub opened : List Token → ℕ
opened tokens = count_by is_open tokens

-- The text reads as this source, apart from the places.
pub record ReadsLike (text : List ℕ) (source : Source) : Type 0 where
  pub tree : Source
  pub reads : ReadsAs text tree
  pub same : unplaced tree ≡ unplaced source

-- By the grammar, at some places and within some nesting, the tokens read as this source, apart from the places.
pub record TokensReadLike (tokens : List Token) (source : Source) : Type 0 where
  pub depth : ℕ
  pub placed : List Placed
  pub are : kinds placed ≡ tokens
  pub tree : Source
  pub reads : File depth placed tree
  pub same : unplaced tree ≡ unplaced source

pub record PrintLaws : Type 0 where
  -- What is printed of a source that a text is can be written, and its text is that source, apart from the places.
  pub again : (text : List ℕ) (source : Source)
      → ReadsAs text source
      → CanBeWritten (shown source) × ReadsLike (written (shown source)) source
  -- What some tokens read as, those that are printed of it do, within as many parentheses, calls, lists and operators.
  pub reads : (depth : ℕ) (u w : List Placed) (source : Source)
      → File depth u source
      → kinds w ≡ shown source
      → (tree : Source) × File depth w tree × (unplaced tree ≡ unplaced source)
  -- No tokens with fewer parentheses read as the source.
  pub fewest : (tokens : List Token) (source : Source)
      → TokensReadLike tokens source
      → opened (shown source) ≤ opened tokens
  -- So none of those that are printed can be left out, whichever `(` and `)` they are.
  pub needed : (source : Source) (before between behind : List Token)
      → shown source ≡ before ++ (Sign symbol.OpenParen ∷ (between ++ (Sign symbol.CloseParen ∷ behind)))
      → TokensReadLike (before ++ (between ++ behind)) source
      → ⊥
