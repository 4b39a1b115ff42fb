use Rattle.ivy_syntax.proofs.Written.{is_read_back}
use Rattle.ivy_syntax.proofs.laws.token_spellings.Goals as goal

pub returns : goal.returns
returns c = is_read_back
