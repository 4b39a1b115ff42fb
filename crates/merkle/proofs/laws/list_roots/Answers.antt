use Rattle.merkle.proofs.Lists.{list_roots}
use Rattle.merkle.proofs.laws.list_roots.Goals as goal

pub returns : goal.returns
returns c hash = list_roots hash
