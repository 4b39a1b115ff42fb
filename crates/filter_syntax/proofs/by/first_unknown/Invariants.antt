use Rattle.std.proofs.Common.{◌≡◌, length, map, take}
use Rattle.std.specs.List.{AllByRecursion}
use Rattle.filter_syntax.specs.By.{IsKnown, before_next}
use Rattle.filter_syntax.proofs.by.first_unknown.Given as goal

-- the names so far are known, and the next one stands after them
abbrev pub invariant-loop-name : goal.invariant-loop-name
invariant-loop-name l = record {
  known : AllByRecursion IsKnown (map (λ name. name.now) (take l.name-index l.names));
  place : l.at ≡ length (before_next (map (λ name. name.now) (take l.name-index l.names)));
}
