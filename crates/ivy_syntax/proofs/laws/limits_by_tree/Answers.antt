use Rattle.ivy_syntax.proofs.TreeLimits.{limits_by_tree}
use Rattle.ivy_syntax.proofs.laws.limits_by_tree.Goals as goal

pub returns : goal.returns
returns c = limits_by_tree
