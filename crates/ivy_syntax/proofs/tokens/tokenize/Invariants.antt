use Rattle.std.proofs.Common.{◌≡◌, ◌+◌, ◌-◌, ◌≤◌, true, length, drop, None}
use Rattle.ivy_syntax.specs.Lexeme.{tokens}
use Rattle.ivy_syntax.specs.Cutting.{close_from}
use Rattle.grammars.specs.Steps.{ReadUpTo}
use Rattle.ivy_syntax.specs.Tokens.{lexicon}
use Rattle.ivy_syntax.proofs.tokens.tokenize.Given as goal

abbrev pub invariant-loop-at : goal.invariant-loop-at
invariant-loop-at l = record {
  onto : ReadUpTo lexicon l.text l.at (tokens l.lexemes.items);
  within : l.at ≤ length l.text;
  unclosed : l.unclosed ≡ true → close_from 0 (drop (l.at + 1) l.text) ≡ None;
}

abbrev pub decreases-loop-at : goal.decreases-loop-at
decreases-loop-at l = length l.text - l.at
