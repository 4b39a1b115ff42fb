use Rattle.hash_sigs.proofs.Sizes.{sizes}
use Rattle.hash_sigs.proofs.laws.sizes.Goals as goal

pub returns : goal.returns
returns c = λ key message signature good. sizes key message signature good
