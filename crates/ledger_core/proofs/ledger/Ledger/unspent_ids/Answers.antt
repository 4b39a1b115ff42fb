use Rattle.std.proofs.Common.{◌≡◌, ◌++◌, ◌∙◌, ℕ, List, [], ap, sym, subst}
use Rattle.std.specs.Prelude.{◌↔◌, Contains}
use Rattle.ledger_core.specs.Roots.{output_ids}
use Rattle.ledger_core.specs.Unspent.{left_of}
use Rattle.ledger_core.proofs.Unspents.{left_of_none}
use Rattle.ledger_core.proofs.ledger.Ledger.unspent_ids.Goals as goal

pub returns-clause-members : goal.returns-clause-members
returns-clause-members c =
    let outputs = c.as_slice.result.now in
    let kept : outputs ≡ c.args.self.now.unspent = c.as_slice.ensures.value ∙ ap (λ l. l.unspent) c.self.view_is in
    let added : c.add_ids.new.ids.items ≡ output_ids c.args.self.now.unspent =
    c.in_ok-add_ids.ensures.items ∙ ap (λ (xs : List (List ℕ)). xs ++ output_ids (left_of [] outputs)) c.in_ok-ids.ensures.items
    ∙ ap output_ids (left_of_none outputs ∙ kept) in
    subst (λ (xs : List (List ℕ)). (id : List ℕ) → Contains xs id ↔ Contains (output_ids c.args.self.now.unspent) id) (sym c.from_vec.ensures)
    (subst (λ (xs : List (List ℕ)). (id : List ℕ) → Contains c.put_in_order.new.ids.items id ↔ Contains xs id) added c.put_in_order.ensures.members)
