use Rattle.std.proofs.Common.{refl}
use Rattle.vm_ops.specs.Signatures.{is_multi_good}
use Rattle.vm_ops.proofs.Placing.{by_places}
use Rattle.vm_ops.proofs.laws.signatures_have_places.Goals as goal

pub returns : goal.returns
returns c = λ check keys message signatures.
    by_places check keys message signatures (is_multi_good check keys message signatures) refl
