use Rattle.std.proofs.Common.{◌↔◌, IsTrue, Contains, subst, refl}
use Rattle.outside.proofs.mem_sink.MemSinkSink.write.Goals as goal

pub returns-then-is_to_fail-clause-fails : goal.returns-then-is_to_fail-clause-fails
returns-then-is_to_fail-clause-fails c =
    let planned = subst (λ s. IsTrue c.is_to_fail.result ↔ Contains s.fails s.calls) c.self.view_is (rw c.deref.ensures.value at c.is_to_fail.ensures) in
    (λ _. planned.0 c.if-is_to_fail.true, λ _. refl)
