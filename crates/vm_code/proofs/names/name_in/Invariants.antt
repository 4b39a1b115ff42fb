use Rattle.std.proofs.Common.{◌≡◌, drop, map}
use Rattle.vm_code.specs.Names.{name_in}
use Rattle.vm_code.proofs.names.name_in.Given as goal

abbrev pub invariant-loop-line : goal.invariant-loop-line
invariant-loop-line l = name_in (map (λ line. (line.0, line.1.now)) (drop l.line-index l.lines)) l.code ≡ name_in (map (λ line. (line.0, line.1.now)) l.lines) l.code
