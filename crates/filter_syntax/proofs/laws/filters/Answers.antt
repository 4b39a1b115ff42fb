use Rattle.filter_syntax.proofs.FilterAnswers.{filter_laws}
use Rattle.filter_syntax.proofs.laws.filters.Goals as goal

pub returns : goal.returns
returns c = filter_laws
