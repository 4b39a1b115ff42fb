use Rattle.ivy_syntax.proofs.TextAnswers.{text_laws}
use Rattle.ivy_syntax.proofs.laws.texts.Goals as goal

pub returns : goal.returns
returns c = text_laws
