use Rattle.ivy_value.proofs.Selected.{one_selected}
use Rattle.ivy_value.proofs.laws.selection.Goals as goal

pub returns : goal.returns
returns c = record { one = one_selected }
