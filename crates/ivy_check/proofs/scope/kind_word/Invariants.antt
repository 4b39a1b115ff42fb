-- No group that was passed has the name.
use Rattle.std.proofs.Common.{◌≡◌, drop}
use Rattle.ivy_check.specs.Scope.{kind_word}
use Rattle.ivy_check.proofs.scope.kind_word.Given as goal

abbrev pub invariant-loop-group : goal.invariant-loop-group
invariant-loop-group l = kind_word l.name (drop l.group-index l.groups) ≡ kind_word l.name l.groups
