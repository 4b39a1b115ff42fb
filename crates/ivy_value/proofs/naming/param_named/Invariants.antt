-- No parameter that was passed has the name.
use Rattle.std.proofs.Common.{◌≡◌, drop}
use Rattle.ivy_value.specs.Naming.{param_from}
use Rattle.ivy_value.proofs.naming.param_named.Given as goal

abbrev pub invariant-loop-param : goal.invariant-loop-param
invariant-loop-param l =
    (l.place ≡ l.param-index) × (param_from 0 l.name l.params ≡ param_from l.param-index l.name (drop l.param-index l.params))
