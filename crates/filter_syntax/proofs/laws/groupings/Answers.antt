use Rattle.filter_syntax.proofs.Groupings.{grouping_laws}
use Rattle.filter_syntax.proofs.laws.groupings.Goals as goal

pub returns : goal.returns
returns c = grouping_laws
