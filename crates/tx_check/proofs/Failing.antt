-- Programs that fail, as the machine's answer and as a cause of the table.
use Rattle.std.proofs.Common.{ℕ, refl, ap}
use Rattle.wire.specs.Tables.{HoldsNot}
use Rattle.data_model.specs.declared.tx.Tx.{Tx}
use Rattle.keyed.specs.Functions.{Hash}
use Rattle.vm_num.specs.declared.failure.Failure.{Failure}
use Rattle.keyed.specs.Functions.{Check}
use Rattle.tx_check.specs.declared.refusal.TxRefusal.TheVariants.{X14}
use Rattle.tx_check.specs.FirstPlace.{AtFirst}
use Rattle.tx_check.specs.Contexts.{FailsAs}
use Rattle.tx_check.specs.Table.{HasFailing}

module _ (hash : Hash) (check : Check) (tx : Tx) where
  pub told_failing : (k : ℕ) (kind : Failure) (at : ℕ) → AtFirst (FailsAs hash check tx) tx.inputs (k, kind, at) → HasFailing hash check tx (X14 k kind at)
  told_failing k kind at f = record {
    place = f.place;
    item = f.item;
    there = f.there;
    reports = (kind, at, f.reports.0, ap (λ (n : ℕ). X14 n kind at) f.reports.1);
    none_before = λ j y l e reported h. f.none_before j y l e (j, h.0, h.1) (h.2, refl);
  }

  pub none_failing : HoldsNot (AtFirst (FailsAs hash check tx) tx.inputs) → HoldsNot (HasFailing hash check tx)
  none_failing none reported f =
      none (f.place, f.reports.0, f.reports.1)
      (record {
        place = f.place;
        item = f.item;
        there = f.there;
        reports = (f.reports.2, refl);
        none_before = λ j y l e t h. f.none_before j y l e (X14 j t.1 t.2) (t.1, t.2, h.0, refl);
      })
