use Rattle.vm_straight.proofs.Wraps.{only, enough}
use Rattle.vm_straight.proofs.laws.wrapped_form.Goals as goal

pub returns : goal.returns
returns c = λ context check. record {
  only = only c.known.ensures context check;
  enough = enough c.known.ensures context check;
}
