use Rattle.std.proofs.Common.{◌≡◌, ◌∙◌, sym, subst, true, nat_eq, ◌<◌, arith}
use Rattle.vm_ops.specs.Signatures.{keys_in, message_in, signatures_in}
use Rattle.vm_ops.proofs.Placing.{by_places}
use Rattle.vm_ops.proofs.Trying.{tried, all_found, next_taken, next_skipped, no_key_left}
use Rattle.vm_ops.proofs.signatures.multi_good.Goals.{then-is_good, else-is_good}
use Rattle.vm_ops.proofs.signatures.multi_good.Goals as goal

pub returns-then-found-m-clause-places : goal.returns-then-found-m-clause-places
returns-then-found-m-clause-places g c =
    let check = g.C.SigCheck.good_of c.args.sigs.now in
    let items = g.P.Pile.items_of c.args.pile.now in
    let n = c.args.n in
    let m = c.args.m in
    let found = subst (λ f. tried check items m n c.loop-k.k f ≡ tried check items m n 0 0) c.if-found-m.true c.loop-k.invariant.1 in
    by_places check (keys_in n items) (message_in n items) (signatures_in m n items) true
    (sym (all_found check items m n c.loop-k.k c.requires.there) ∙ found)

pub loop-k-preserved : goal.loop-k-preserved
loop-k-preserved g c =
    let check = g.C.SigCheck.good_of c.args.sigs.now in
    let items = g.P.Pile.items_of c.args.pile.now in
    let n = c.args.n in
    let m = c.args.m in
    let less : c.loop-k.found < m = omega (arith, c.if-found-m.false, c.loop-k.invariant.0) in
    elim c.if-is_good.branch [
      | then-is_good w ↦
          let step = next_taken check items m n c.loop-k.k c.loop-k.found c.loop-k-test.true less c.requires.there (sym c.is_good.ensures ∙ w.if-is_good.true) in
          (omega (arith, w.found-is, less), rw w.found-is (sym step ∙ c.loop-k.invariant.1))
      | else-is_good w ↦
          let step = next_skipped check items m n c.loop-k.k c.loop-k.found c.loop-k-test.true less c.requires.there (sym c.is_good.ensures ∙ w.if-is_good.false) in
          (omega (arith, w.found-is, less), rw w.found-is (sym step ∙ c.loop-k.invariant.1))
    ]

pub returns-clause-value : goal.returns-clause-value
returns-clause-value g c =
    let check = g.C.SigCheck.good_of c.args.sigs.now in
    let items = g.P.Pile.items_of c.args.pile.now in
    let all : c.loop-k.k ≡ c.args.n = omega (arith, c.loop-k-test.false, c.loop-k.auto.k-end) in
    let found = subst (λ k. tried check items c.args.m c.args.n k c.loop-k.found ≡ tried check items c.args.m c.args.n 0 0) all c.loop-k.invariant.1 in
    sym (no_key_left check items c.args.m c.args.n c.loop-k.found c.loop-k.invariant.0 c.requires.there) ∙ found

pub returns-clause-places : goal.returns-clause-places
returns-clause-places g c =
    let check = g.C.SigCheck.good_of c.args.sigs.now in
    let items = g.P.Pile.items_of c.args.pile.now in
    let n = c.args.n in
    let m = c.args.m in
    by_places check (keys_in n items) (message_in n items) (signatures_in m n items) (nat_eq c.loop-k.found m)
    (returns-clause-value g c)
