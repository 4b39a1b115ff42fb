use Rattle.std.proofs.Common.{ℕ, ◌<◌, List, take, subst, sym}
use Rattle.std.proofs.lemmas.List.{take_all}
use Rattle.std.proofs.lemmas.Result.{err_from_is_err_and}
use Rattle.data_model.specs.declared.tx.Tx.{Tx}
use Rattle.ledger_core.specs.Offering.{AreChanges}
use Rattle.ledger_core.proofs.Taken.{as_many, ids_at}
use Rattle.ledger_core.proofs.Changing.{no_changes, changes_next, shown_after, none_yet, none_at_all, next_valid, first_refused}
use Rattle.ledger_core.proofs.ledger.Ledger.changes_of.Goals as goal

pub loop-k-init : goal.loop-k-init
loop-k-init g c =
    let hash = g.H.IdHash.hash_of c.args.hash.now in
    record {
      changes = no_changes hash c.new-changes.result c.new-changes.ensures.made c.new-changes.ensures.spent c.new-changes.ensures.used;
      none = none_yet hash (g.C.SigCheck.good_of c.args.sigs.now) c.args.self.now.blocks c.args.time c.args.txs.now;
      many = as_many hash c.args.txs.now c.args.ids.now c.requires.ids;
    }

pub check_with_ids-checked-requires-clause-ids : goal.check_with_ids-checked-requires-clause-ids
check_with_ids-checked-requires-clause-ids g c =
    let there = subst (λ (n : ℕ). c.loop-k.k < n) (sym c.loop-k.invariant.many) c.loop-k-test.true in
    ids_at (g.H.IdHash.hash_of c.args.hash.now) c.args.txs.now c.args.ids.now c.loop-k.k c.index-txs-k.result c.index-ids-k.result c.requires.ids
    (record { there = c.loop-k-test.true; is = c.index-txs-k.is })
    (record { there = there; is = c.index-ids-k.is })

pub returns-in_err-refused_at-clause-refused : goal.returns-in_err-refused_at-clause-refused
returns-in_err-refused_at-clause-refused g c =
    let hash = g.H.IdHash.hash_of c.args.hash.now in
    let check = g.C.SigCheck.good_of c.args.sigs.now in
    let k = c.loop-k.k in
    let shows = shown_after hash check c.args.self.now (take k c.args.txs.now) c.loop-k.changes c.requires.stands c.loop-k.invariant.changes in
    let refused = first_refused hash check c.args.self.now.blocks c.args.time c.args.txs.now k c.index-txs-k.result _ shows
    c.check_with_ids-checked.result c.refused_at.result _ c.loop-k.invariant.none
    (record { there = c.loop-k-test.true; is = c.index-txs-k.is })
    c.check_with_ids-checked.ensures.refused c.refused_at.ensures c.in_err-refused_at.was in
    let p = err_from_is_err_and c.from_residual.result c.from_residual.ensures.1 in
    rw (p.1, p.2) refused

pub add-requires-clause-ids : goal.add-requires-clause-ids
add-requires-clause-ids g c =
    let hash = g.H.IdHash.hash_of c.args.hash.now in
    let there = subst (λ (n : ℕ). c.loop-k.k < n) (sym c.loop-k.invariant.many) c.loop-k-test.true in (
      hash,
      ids_at hash c.args.txs.now c.args.ids.now c.loop-k.k c.index-txs-k.result c.index-ids-k-in-loop-k.result c.requires.ids
          (record { there = c.loop-k-test.true; is = c.index-txs-k.is })
          (record { there = there; is = c.index-ids-k-in-loop-k.is }),
    )

pub loop-k-preserved : goal.loop-k-preserved
loop-k-preserved g c =
    let hash = g.H.IdHash.hash_of c.args.hash.now in
    let check = g.C.SigCheck.good_of c.args.sigs.now in
    let txs = c.args.txs.now in
    let k = c.loop-k.k in
    let one = c.index-txs-k.result in
    let there = subst (λ (n : ℕ). k < n) (sym c.loop-k.invariant.many) c.loop-k-test.true in
    let are = ids_at hash txs c.args.ids.now k one c.index-ids-k-in-loop-k.result c.requires.ids (record { there = c.loop-k-test.true; is = c.index-txs-k.is })
    (record { there = there; is = c.index-ids-k-in-loop-k.is }) in
    let shows = shown_after hash check c.args.self.now (take k txs) c.loop-k.changes c.requires.stands c.loop-k.invariant.changes in
    record {
      changes = changes_next hash txs k one c.loop-k.changes c.add.new.self (record { there = c.loop-k-test.true; is = c.index-txs-k.is }) c.loop-k.invariant.changes
          (record { made = c.in_ok-add.ensures.made hash are; spent = c.in_ok-add.ensures.spent hash are; used_are = c.in_ok-add.ensures.used hash are });
      none = next_valid hash check c.args.self.now.blocks c.args.time txs k one _ shows (c.one_refusal.ensures hash check)
          c.check_with_ids-checked.result c.refused_at.result _ c.loop-k.invariant.none
          (record { there = c.loop-k-test.true; is = c.index-txs-k.is })
          c.check_with_ids-checked.ensures.valid c.refused_at.ensures c.in_ok-refused_at.was;
      many = c.loop-k.invariant.many;
    }

pub returns-clause-valid : goal.returns-clause-valid
returns-clause-valid g c =
    none_at_all (g.H.IdHash.hash_of c.args.hash.now) (g.C.SigCheck.good_of c.args.sigs.now) c.args.self.now.blocks c.args.time c.args.txs.now c.loop-k.k
    c.loop-k-test.false c.loop-k.invariant.none

pub returns-clause-changes : goal.returns-clause-changes
returns-clause-changes g c =
    let hash = g.H.IdHash.hash_of c.args.hash.now in
    subst (λ (txs : List Tx). AreChanges hash txs c.loop-k.changes) (take_all c.loop-k.k c.args.txs.now c.loop-k-test.false) c.loop-k.invariant.changes
