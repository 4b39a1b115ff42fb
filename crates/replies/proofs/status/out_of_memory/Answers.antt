use Rattle.replies.proofs.Ending.{ended-none}
use Rattle.replies.proofs.status.out_of_memory.Goals as goal

pub returns : goal.returns
returns c = λ reply io. ended-none reply io
