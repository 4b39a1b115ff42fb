use Rattle.std.proofs.Common.{◌-◌, ◌≤◌, length, map}
use Rattle.grammars.specs.Steps.{ReadUpTo}
use Rattle.filter_syntax.specs.Tokens.{lexicon}
use Rattle.filter_syntax.specs.Lexing.{seen}
use Rattle.filter_syntax.proofs.tokens.tokenize.Given as goal

-- the tokens so far, and those of the bytes that are left
abbrev pub invariant-loop-at : goal.invariant-loop-at
invariant-loop-at l = record {
  within : l.at ≤ length l.text;
  onto : ReadUpTo lexicon l.text l.at (map (seen l.text) l.lexemes.items);
}

abbrev pub decreases-loop-at : goal.decreases-loop-at
decreases-loop-at l = length l.text - l.at
