use Rattle.filter_syntax.proofs.NameAnswers.{by_laws}
use Rattle.filter_syntax.proofs.laws.lists_of_names.Goals as goal

pub returns : goal.returns
returns c = by_laws
