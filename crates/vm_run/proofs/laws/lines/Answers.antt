use Rattle.vm_run.proofs.Fair.{row-sizes, works_on_data, row-jump, row-jump_if}
use Rattle.vm_run.proofs.laws.lines.Goals as goal

pub returns : goal.returns
returns c = λ context check.
    record {
      sizes = row-sizes context check;
      only_data = works_on_data context check;
      jumps = row-jump context check;
      jumps_if = row-jump_if context check;
    }
