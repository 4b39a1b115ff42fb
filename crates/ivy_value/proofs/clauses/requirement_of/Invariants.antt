-- No requirement that was passed is of the value.
use Rattle.std.proofs.Common.{◌≡◌, drop}
use Rattle.ivy_value.specs.Holds.{requirement_of}
use Rattle.ivy_value.proofs.clauses.requirement_of.Given as goal

abbrev pub invariant-loop-req : goal.invariant-loop-req
invariant-loop-req l = requirement_of l.name (drop l.req-index l.reqs) ≡ requirement_of l.name l.reqs
