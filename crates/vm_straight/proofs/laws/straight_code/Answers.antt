use Rattle.vm_straight.proofs.Straight.{reached, carried}
use Rattle.vm_straight.proofs.laws.straight_code.Goals as goal

pub returns : goal.returns
returns c = λ context check. record {
  reached = λ program. reached c.known.ensures context check program;
  carried = λ program. carried c.known.ensures context check program;
}
