use Rattle.std.proofs.Common.{◌≡◌, map, take}
use Rattle.filter_syntax.specs.By.{each_once}
use Rattle.filter_syntax.proofs.by.each_once.Given as goal

-- the names so far, each once
abbrev pub invariant-loop-name : goal.invariant-loop-name
invariant-loop-name l = l.kept ≡ each_once (map (λ name. name.now) (take l.name-index l.names))
