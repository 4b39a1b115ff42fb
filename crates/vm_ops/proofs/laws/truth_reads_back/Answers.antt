use Rattle.std.proofs.Common.{◌≡◌, Bool, true, false, refl}
use Rattle.vm_num.specs.Item.{is_true}
use Rattle.vm_ops.specs.Results.{truth_item}
use Rattle.vm_ops.proofs.laws.truth_reads_back.Goals as goal

reads : (holds : Bool) → is_true (truth_item holds) ≡ holds
reads true = refl
reads false = refl

pub returns : goal.returns
returns c = reads
