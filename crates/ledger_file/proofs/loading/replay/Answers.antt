use Rattle.std.proofs.Common.{rules, ◌≡◌, List, ◌++◌, length, Ok, sym, ◌∙◌, ap, subst, arith}
use Rattle.std.specs.Vec.Iter.{into_iter_items}
use Rattle.data_model.specs.declared.block.Block.{Block}
use Rattle.data_model.specs.Files.{BlocksReadAs}
use Rattle.ledger_file.proofs.Lists.{empty-list}
use Rattle.ledger_file.proofs.Loaded.{loads-empty, loads-not-started}
use Rattle.ledger_file.proofs.loading.replay.Goals as goal

pub returns-in_default-clause-loads : goal.returns-in_default-clause-loads
returns-in_default-clause-loads g c = λ bytes reads.
    let len : length (into_iter_items c.args.blocks) ≡ 0 = search rules in
    loads-empty _ _ bytes (subst (λ (bs : List Block). BlocksReadAs bytes (Ok bs)) (empty-list _ len) reads)

pub returns-in_err-ledger-clause-loads : goal.returns-in_err-ledger-clause-loads
returns-in_err-ledger-clause-loads g c = λ bytes reads.
    loads-not-started _ _ bytes c.in-Some.initial (into_iter_items c.next.new.self) _ _ c.from_residual.ensures.1 (subst (λ (bs : List Block). BlocksReadAs bytes (Ok bs)) c.in-Some.ensures.items reads) c.in_err-ledger.ensures.refused

pub grow-requires-clause-stands : goal.grow-requires-clause-stands
grow-requires-clause-stands g c = c.in_ok-ledger.ensures.stands (g.C.SigCheck.good_of c.args.sigs.now)

pub grow-requires-clause-few : goal.grow-requires-clause-few
grow-requires-clause-few g c = omega (arith, c.requires.few, ap length c.in_ok-ledger.ensures.blocks, ap length c.in-Some.ensures.items)

pub returns-clause-loads : goal.returns-clause-loads
returns-clause-loads g c = λ bytes reads.
    let rest = into_iter_items c.next.new.self in
    c.grow.ensures.loads bytes (subst (λ (bs : List Block). BlocksReadAs bytes (Ok bs)) (c.in-Some.ensures.items ∙ sym (ap (λ (bs : List Block). bs ++ rest) c.in_ok-ledger.ensures.blocks)) reads)
