use Rattle.std.proofs.Common.{◌≡◌, ◌++◌, ◌∙◌, List, ℕ, [], sym, ap, arith}
use Rattle.std.proofs.lemmas.Bool.{eqb-true}
use Rattle.std.proofs.lemmas.List.{nil_from_length}
use Rattle.merkle.specs.Roots.{set_root}
use Rattle.ledger_core.specs.LedgerModel.{LedgerModel}
use Rattle.ledger_core.specs.Blocks.{txs_of}
use Rattle.ledger_core.specs.Roots.{output_ids}
use Rattle.ledger_core.specs.Unspent.{left_of, unspent_after}
use Rattle.ledger_core.proofs.Rooted.{gathered, none_are_ids}
use Rattle.ledger_core.proofs.ledger.Ledger.root_after.Goals as goal

pub returns-then-is_empty : goal.returns-then-is_empty
returns-then-is_empty g c = λ txs are.
    let hash = g.H.IdHash.hash_of c.args.hash.now in
    let before = txs_of c.args.self.now.blocks in
    let all : c.add_ids-2.new.ids.items ≡ output_ids (unspent_after hash (before ++ txs)) =
    c.in_ok-add_ids-2.ensures.items
    ∙ ap (λ (ids : List (List ℕ)). ids ++ output_ids (left_of [] c.as_slice-3.result.now))
    (c.in_ok-add_ids.ensures.items ∙ ap (λ (ids : List (List ℕ)). ids ++ output_ids (left_of c.as_slice-2.result.now c.as_slice.result.now)) c.in_ok-ids.ensures.items)
    ∙ (λ i. output_ids (left_of (c.as_slice-2.ensures.value i) ((c.as_slice.ensures.value ∙ ap (λ (held : LedgerModel). held.unspent) c.self.view_is) i)) ++ output_ids (left_of [] (c.as_slice-3.ensures.value i)))
    ∙ gathered hash before txs c.args.changes.now c.args.self.now.unspent c.requires.unspent are in
    let len = eqb-true _ _ (sym c.is_empty.ensures ∙ c.if-is_empty.true) in
    let none : c.add_ids-2.new.ids.items ≡ [] = nil_from_length _ (omega (arith, c.add_ids-2.new.ids.ok.0, len)) in
    ap (λ (held : LedgerModel). held.empty_root) c.self.view_is ∙ c.requires.root
    ∙ sym (c.set_roots.ensures hash).empty
    ∙ ap (set_root hash) (sym none ∙ all)

pub returns : goal.returns
returns g c = λ txs are.
    let hash = g.H.IdHash.hash_of c.args.hash.now in
    let before = txs_of c.args.self.now.blocks in
    let all : c.add_ids-2.new.ids.items ≡ output_ids (unspent_after hash (before ++ txs)) =
    c.in_ok-add_ids-2.ensures.items
    ∙ ap (λ (ids : List (List ℕ)). ids ++ output_ids (left_of [] c.as_slice-3.result.now))
    (c.in_ok-add_ids.ensures.items ∙ ap (λ (ids : List (List ℕ)). ids ++ output_ids (left_of c.as_slice-2.result.now c.as_slice.result.now)) c.in_ok-ids.ensures.items)
    ∙ (λ i. output_ids (left_of (c.as_slice-2.ensures.value i) ((c.as_slice.ensures.value ∙ ap (λ (held : LedgerModel). held.unspent) c.self.view_is) i)) ++ output_ids (left_of [] (c.as_slice-3.ensures.value i)))
    ∙ gathered hash before txs c.args.changes.now c.args.self.now.unspent c.requires.unspent are in
    let are_ids = c.in_ok-add_ids-2.ensures.ids (c.in_ok-add_ids.ensures.ids (none_are_ids c.in_ok-ids.ids.items c.in_ok-ids.ensures.items)) in
    c.set_root.ensures
    ∙ ap (set_root hash) c.as_slice-4.ensures.value
    ∙ sym ((c.set_roots.ensures hash).members c.add_ids-2.new.ids.items c.put_in_order.new.ids.items are_ids (λ id. ((c.put_in_order.ensures.members id).1, (c.put_in_order.ensures.members id).0)))
    ∙ ap (set_root hash) all
