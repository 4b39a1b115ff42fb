use Rattle.std.proofs.Common.{◌∙◌, List, refl, ap, subst}
use Rattle.std.specs.Prelude.{Contains}
use Rattle.tx_check.specs.View.{Unspent}
use Rattle.ledger_core.specs.Roots.{output_ids}
use Rattle.ledger_core.proofs.ledger.Ledger.unspent.Goals as goal

pub returns-in-None-clause-none : goal.returns-in-None-clause-none
returns-in-None-clause-none c = (
  λ e. subst (λ (xs : List Unspent). Contains (output_ids xs) c.args.id.now → ⊥) (c.as_slice.ensures.value ∙ ap (λ l. l.unspent) c.self.view_is) (c.in-None.ensures.none.0 refl),
  λ n. refl,
)
