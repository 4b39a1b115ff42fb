-- The required values that were passed are disposed of.
use Rattle.std.proofs.Common.{◌≡◌, drop}
use Rattle.std.specs.List.{flat_map}
use Rattle.ivy_check.specs.Tests.{first_of}
use Rattle.ivy_check.specs.Statements.{left}
use Rattle.ivy_check.proofs.statement.required_disposed.Given as goal

abbrev pub invariant-loop-req : goal.invariant-loop-req
invariant-loop-req l =
    first_of (flat_map (λ req. left l.stmts req.name) (drop l.req-index l.reqs))
    ≡ first_of (flat_map (λ req. left l.stmts req.name) l.reqs)
