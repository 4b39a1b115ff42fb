use Rattle.filter_syntax.proofs.TokenLists.{token_laws}
use Rattle.filter_syntax.proofs.laws.tokens.Goals as goal

pub returns : goal.returns
returns c = token_laws
