use Rattle.std.proofs.Common.{◌≡◌, ℕ, false, true, List, length, Err, ap, sym, subst, ◌∙◌, arith}
use Rattle.std.specs.Prelude.{◌==◌}
use Rattle.wire.specs.Places.{Fails}
use Rattle.vote_book.proofs.Books.{fault_told, fault_is, one_fault, no_fault, read_of}
use Rattle.vote_book.proofs.book.decode_book.Goals as goal

false_is_not_true : false ≡ true → ⊥
false_is_not_true e = cc

pub returns-in-Ok-clause-told : goal.returns-in-Ok-clause-told
returns-in-Ok-clause-told c = λ at kind h.
    absurd (no_fault _ _ _ c.in-Ok.ensures.exact (fault_told c.record_readings.ensures.whole c.args.b.now at kind (λ i. omega (arith, c.type_inv.b i)) h.1))

pub returns-in-Err-At-clause-fault : goal.returns-in-Err-At-clause-fault
returns-in-Err-At-clause-fault c = (
  λ empty. absurd (false_is_not_true (sym c.if-is_empty.false ∙ c.is_empty.ensures ∙ ap (λ (bytes : List ℕ). length bytes == 0) empty)),
  fault_is c.record_readings.ensures.whole c.args.b.now _ _ (λ i. omega (arith, c.type_inv.b i)) (subst (λ fault. Fails fault (read_of c.args.b.now)) c.in-Err-At.field-0-is c.in-Err-At.ensures.exact),
)

pub returns-in-Err-At-clause-told : goal.returns-in-Err-At-clause-told
returns-in-Err-At-clause-told c = λ at kind h.
    ap Err (one_fault (read_of c.args.b.now) _ _ _ _ (subst (λ fault. Fails fault (read_of c.args.b.now)) c.in-Err-At.field-0-is c.in-Err-At.ensures.exact) (fault_told c.record_readings.ensures.whole c.args.b.now at kind (λ i. omega (arith, c.type_inv.b i)) h.1))
