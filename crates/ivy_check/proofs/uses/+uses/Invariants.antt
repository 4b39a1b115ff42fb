-- No argument that was passed uses the name.
use Rattle.std.proofs.Common.{◌≡◌, map, drop}
use Rattle.std.specs.List.{list_any}
use Rattle.ivy_check.specs.Uses.{uses}
use Rattle.ivy_check.proofs.uses.+uses.Given as goal

abbrev pub invariant-any_uses-loop-arg : goal.invariant-any_uses-loop-arg
invariant-any_uses-loop-arg l =
    list_any (λ uses. uses) (map (uses l.name) (drop l.arg-index l.args))
    ≡ list_any (λ uses. uses) (map (uses l.name) l.args)
