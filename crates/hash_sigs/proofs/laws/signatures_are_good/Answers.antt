use Rattle.hash_sigs.proofs.Good.{good}
use Rattle.hash_sigs.proofs.laws.signatures_are_good.Goals as goal

pub returns : goal.returns
returns c = λ o q message tall id lt. good o q message tall id lt
