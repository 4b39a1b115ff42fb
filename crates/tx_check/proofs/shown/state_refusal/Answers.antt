use Rattle.std.proofs.Common.{◌∙◌, List, subst}
use Rattle.wire.specs.Tables.{HoldsNot}
use Rattle.entry_ids.specs.declared.input.Named.{Named}
use Rattle.tx_check.specs.Table.{HasLiveNonce}
use Rattle.tx_check.proofs.Groups.{of_taken}
use Rattle.tx_check.proofs.shown.state_refusal.Goals as goal

pub returns : goal.returns
returns g c = λ hash are.
    let state = g.V.View.state_of c.args.view.now in
    let named = c.as_slice-named.ensures ∙ are.named in
    of_taken hash state c.args.tx.now (c.in_default.ensures hash named)
    (subst (λ (n : List Named). HoldsNot (HasLiveNonce state n)) named c.in_default-live_nonce.ensures)
    c.taken_id.result
    (c.taken_id.ensures hash (c.as_slice.ensures ∙ are.results))
