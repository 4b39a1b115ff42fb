use Rattle.std.proofs.Common.{◌≡◌, ◌-◌, ◌≤◌, ◌++◌, drop, length, map}
use Rattle.filter_syntax.specs.By.{before_next}
use Rattle.filter_syntax.proofs.NameLists.{AreWords}
use Rattle.filter_syntax.proofs.by.split_names.Given as goal

-- the text up to here is words with a comma after each
abbrev pub invariant-loop-names : goal.invariant-loop-names
invariant-loop-names l = record {
  within : l.at ≤ length l.text;
  words : AreWords (map (λ name. name.now) l.names.items);
  split : l.text ≡ before_next (map (λ name. name.now) l.names.items) ++ drop l.at l.text;
  place : l.at ≡ length (before_next (map (λ name. name.now) l.names.items));
}

abbrev pub decreases-loop-names : goal.decreases-loop-names
decreases-loop-names l = length l.text - l.at
