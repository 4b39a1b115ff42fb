use Rattle.std.proofs.Common.{◌∙◌}
use Rattle.tx_check.proofs.Groups.{by_assets, by_shown, all_by_programs, of_own_assets}
use Rattle.tx_check.proofs.Results.{length_results}
use Rattle.tx_check.proofs.check.first_cause.Goals as goal

pub returns-in-Some-2 : goal.returns-in-Some-2
returns-in-Some-2 g c =
    let hash = g.H.IdHash.hash_of c.args.hash.now in
    let state = g.V.View.state_of c.args.view.now in
    let named = c.as_slice.ensures ∙ c.requires.ids.named in
    by_assets hash (g.C.SigCheck.good_of c.args.sigs.now) state c.args.time c.args.tx.now
    c.in_default.ensures (c.in_default-name_refusal.ensures hash named) c.in-Some-2.cause
    (of_own_assets hash c.args.tx.now _ state.initial _ _ c.initial.ensures c.in-Some-2.is c.in_ok-cause.ensures)

pub state_refusal-requires-clause-results : goal.state_refusal-requires-clause-results
state_refusal-requires-clause-results g c =
    length_results (g.H.IdHash.hash_of c.args.hash.now) c.args.tx.now c.args.ids.now.results c.requires.ids.results

pub returns-in-Some-state_refusal : goal.returns-in-Some-state_refusal
returns-in-Some-state_refusal g c =
    let hash = g.H.IdHash.hash_of c.args.hash.now in
    let state = g.V.View.state_of c.args.view.now in
    let named = c.as_slice.ensures ∙ c.requires.ids.named in
    by_shown hash (g.C.SigCheck.good_of c.args.sigs.now) state c.args.time c.args.tx.now
    c.in_default.ensures (c.in_default-name_refusal.ensures hash named)
    (of_own_assets hash c.args.tx.now _ state.initial _ _ c.initial.ensures c.in_default-2.is c.in_ok-cause.ensures)
    c.in-Some-state_refusal.cause (c.in-Some-state_refusal.ensures hash c.requires.ids)

pub returns : goal.returns
returns g c =
    let hash = g.H.IdHash.hash_of c.args.hash.now in
    let state = g.V.View.state_of c.args.view.now in
    let named = c.as_slice.ensures ∙ c.requires.ids.named in
    all_by_programs hash (g.C.SigCheck.good_of c.args.sigs.now) state c.args.time c.args.tx.now
    c.in_default.ensures (c.in_default-name_refusal.ensures hash named)
    (of_own_assets hash c.args.tx.now _ state.initial _ _ c.initial.ensures c.in_default-2.is c.in_ok-cause.ensures)
    (c.in_default-state_refusal.ensures hash c.requires.ids)
    c.program_refusal.result c.program_refusal.ensures
