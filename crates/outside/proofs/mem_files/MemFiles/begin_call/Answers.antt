use Rattle.std.proofs.Common.{◌↔◌, IsTrue, Contains, subst}
use Rattle.outside.proofs.mem_files.MemFiles.begin_call.Goals as goal

pub returns-clause-fails : goal.returns-clause-fails
returns-clause-fails c =
    subst (λ s. IsTrue c.is_to_fail.result ↔ Contains s.fails s.calls) c.self.view_is (rw c.deref.ensures.value at c.is_to_fail.ensures)
