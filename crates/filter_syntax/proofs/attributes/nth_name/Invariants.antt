use Rattle.std.proofs.Common.{◌≡◌, ℕ, List, map, drop, slice_get}
use Rattle.filter_syntax.specs.Lexing.{seen}
use Rattle.filter_syntax.specs.Compared.{places_of_names}
use Rattle.filter_syntax.proofs.attributes.nth_name.Given as goal

-- the name is the one with what is left of the index among those from here on
abbrev pub invariant-loop-lexeme : goal.invariant-loop-lexeme
invariant-loop-lexeme l = (text : List ℕ)
    → slice_get (places_of_names (map (seen text) l.lexemes)) l.index
    ≡ slice_get (places_of_names (map (seen text) (drop l.lexeme-index l.lexemes))) l.left
