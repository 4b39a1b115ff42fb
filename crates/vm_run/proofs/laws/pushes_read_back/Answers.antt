use Rattle.vm_run.proofs.Pushed as pushed
use Rattle.vm_run.proofs.laws.pushes_read_back.Goals as goal

pub returns-clause-bytes : goal.returns-clause-bytes
returns-clause-bytes c = pushed.reads_data

pub returns-clause-item : goal.returns-clause-item
returns-clause-item c = pushed.reads_item

pub returns-clause-number : goal.returns-clause-number
returns-clause-number c = pushed.reads_number
