use Rattle.std.proofs.Common.{◌≡◌, ◌∙◌, ap, sym, subst, List, ℕ, Bool, true, false, not, refl}
use Rattle.std.specs.Prelude.{◌↔◌, IsTrue}
use Rattle.data_model.specs.declared.input.Input.{Input}
use Rattle.data_model.specs.declared.input.Spend.{Spend}
use Rattle.data_model.specs.declared.tx.Tx.{Tx}
use Rattle.entry_ids.specs.declared.input.Named.{Named}
use Rattle.keyed.specs.Functions.{Hash}
use Rattle.entry_ids.specs.Ids.{names, output_id}
use Rattle.tx_check.specs.View.{Holds}
use Rattle.tx_check.specs.Table.{SpendsNone}
use Rattle.wire.specs.Decisions.{failed}
use Rattle.tx_check.proofs.shown.spends_none.Goals as goal

name_of_spend : (hash : Hash) (tx : Tx) (spend : Spend) → names hash tx (Input.Spend spend) ≡ Named.Output (output_id hash spend.from)
unfolding names
name_of_spend hash tx spend = refl

-- the name of a spend is that of the output
named : (hash : Hash) (tx : Tx) (spend : Spend) (input : Input) (name : Named) → input ≡ Input.Spend spend → name ≡ names hash tx input → name ≡ Named.Output (output_id hash spend.from)
named hash tx spend input name is e = e ∙ ap (names hash tx) is ∙ name_of_spend hash tx spend

same_id : (a b : List ℕ) → Named.Output a ≡ Named.Output b → a ≡ b
same_id a b e = cc

opposite : (P : Type 0) (held : Bool) → (IsTrue held ↔ P) → (IsTrue (not held) ↔ (P → ⊥))
opposite P true h = (λ e. absurd (failed e), λ n. absurd (n (h.0 refl)))
opposite P false h = (λ e p. failed (h.1 p), λ n. refl)

pub returns-in-Spend-Output : goal.returns-in-Spend-Output
returns-in-Spend-Output g c = λ hash tx e.
    let state = g.V.View.state_of c.args.view.now in
    let spend = c.in-Spend-Output.spend in
    let is : output_id hash spend.from ≡ c.in-Spend-Output.id =
    same_id _ _ (sym (named hash tx spend c.args.input.now c.args.name.now c.in-Spend-Output.is-0 e) ∙ c.in-Spend-Output.is-1) in
    let opposed = opposite (Holds state c.in-Spend-Output.id spend.from) c.holds.result c.holds.ensures in
    let of_id = subst (λ (id : List ℕ). IsTrue (not c.holds.result) ↔ (Holds state id spend.from → ⊥)) (sym is) opposed in
    subst (λ (input : Input). IsTrue (not c.holds.result) ↔ SpendsNone hash state input) (sym c.in-Spend-Output.is-0) of_id

pub returns-in_default : goal.returns-in_default
returns-in_default g c = λ hash tx e.
    absurd (c.in_default.not-Output-1 _ (named hash tx c.in_default.field-0-0 c.args.input.now c.args.name.now c.in_default.is-0 e))
