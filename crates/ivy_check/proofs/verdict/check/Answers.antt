-- The walk over the contracts reports the first cause of the table that holds, or that none does.
use Rattle.std.proofs.Common.{ℕ, None, Some, refl, ap, ◌∙◌}
use Rattle.ivy_check.specs.TypeFault.{tests_of}
use Rattle.ivy_check.proofs.TableLemmas.{answers, reported_is, no_fault, is_first, is_reported}
use Rattle.ivy_check.proofs.WellTypedLemmas.{passed_is_typed, refused_is_not}
use Rattle.ivy_check.proofs.verdict.check.Goals as goal

pub returns-in-Ok-clause-ok : goal.returns-in-Ok-clause-ok
returns-in-Ok-clause-ok c =
    (refl, answers (tests_of c.args.source) None (reported_is c.args.source _ c.as_slice.ensures None c.in-Ok.ensures))

pub returns-in-Ok-clause-fault : goal.returns-in-Ok-clause-fault
returns-in-Ok-clause-fault c = λ at kind.
    ((λ e. cc), (λ first. absurd (no_fault c.args.source _ c.as_slice.ensures at kind c.in-Ok.ensures first)))

pub returns-in-Err-clause-fault : goal.returns-in-Err-clause-fault
returns-in-Err-clause-fault c = λ at kind.
    let reported = λ (n : ℕ). Some (c.in-Err.fault.at, n) in
    let h = ap reported c.number.ensures ∙ c.in-Err.ensures in (
      (λ e. is_first c.args.source _ c.as_slice.ensures _ _ h at kind e),
      (λ first. is_reported c.args.source _ c.as_slice.ensures _ _ h at kind first),
    )

pub returns-in-Ok-clause-typed : goal.returns-in-Ok-clause-typed
returns-in-Ok-clause-typed c =
    ((λ ok. passed_is_typed c.args.source _ c.as_slice.ensures c.in-Ok.ensures), (λ typed. refl))

pub returns-in-Err-clause-typed : goal.returns-in-Err-clause-typed
returns-in-Err-clause-typed c =
    ((λ ok. cc), (λ typed. absurd (refused_is_not c.args.source _ c.as_slice.ensures _ c.in-Err.ensures typed)))
