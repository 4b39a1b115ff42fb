use Rattle.merkle.proofs.SetLaws.{set_roots}
use Rattle.merkle.proofs.laws.set_roots.Goals as goal

pub returns : goal.returns
returns c hash = set_roots hash
