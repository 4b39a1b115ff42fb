use Rattle.std.proofs.Common.{◌≡◌, ◌++◌, ◌∙◌, List, ◌+◌, ap, sym, append_assoc, append-nil, take}
use Rattle.std.proofs.lemmas.List.{take_all}
use Rattle.entry_ids.specs.Ids.{mux_id}
use Rattle.tx_check.specs.View.{Unspent}
use Rattle.ledger_core.specs.Unspent.{made_at}
use Rattle.ledger_core.proofs.Made.{StandsAt, all_from, next_of_all, made_here, made_nothing}
use Rattle.ledger_core.proofs.unfinished.add_made.Goals as goal
use Rattle.ledger_core.proofs.unfinished.add_made.Goals.{in-Some+in_ok-push, in_default}

-- where what is made at this place is added after what there was
one_more : {X : Type 0} (before start front here now next : List X) → before ≡ start ++ front → next ≡ front ++ here → now ≡ before ++ here → now ≡ start ++ next
one_more {X} before start front here now next e f g =
    g ∙ ap (λ (xs : List X). xs ++ here) e ∙ append_assoc start front here ∙ ap (λ (xs : List X). start ++ xs) (sym f)

pub loop-k-preserved : goal.loop-k-preserved
loop-k-preserved c = λ hash are.
    let tx = c.args.tx.now in
    let outputs = c.as_slice-outputs.result.now in
    let output = c.index-outputs-k.result in
    let hashes = c.as_slice-data_hashes.result.now in
    let results = c.as_slice-results.result.now in
    let f = made_at hash (mux_id hash tx) in
    let stands : StandsAt outputs c.loop-k.k output = record { there = c.loop-k-test.true; is = c.index-outputs-k.is } in
    let next = next_of_all f outputs c.loop-k.k output stands in
    let more = one_more c.loop-k.made.items c.args.made.now.items (all_from f 0 (take c.loop-k.k outputs)) (f c.loop-k.k output) c.match-branch-3.made.items (all_from f 0 (take (c.loop-k.k + 1) outputs)) (c.loop-k.invariant hash are) next in
    elim c.match-branch-3.branch [
      | in-Some+in_ok-push w ↦ more (
          ap (λ v. v.items) w.made-is ∙ w.in_ok-push.ensures.items
          ∙ ap (λ (xs : List Unspent). c.loop-k.made.items ++ xs)
          (sym (made_here hash tx c.args.ids.now are outputs c.as_slice-outputs.ensures c.loop-k.k output stands hashes results c.as_slice-data_hashes.ensures c.as_slice-results.ensures w.in-Some.body
          (sym w.in-Some.is ∙ c.in_ok-body.ensures)))
          )
      | in_default w ↦ more (
          ap (λ v. v.items) w.made-is ∙ sym (append-nil c.loop-k.made.items)
          ∙ ap (λ (xs : List Unspent). c.loop-k.made.items ++ xs)
          (sym (made_nothing hash tx c.args.ids.now are outputs c.as_slice-outputs.ensures c.loop-k.k output stands hashes c.as_slice-data_hashes.ensures (sym w.in_default.is ∙ c.in_ok-body.ensures)))
          )
    ]

pub returns : goal.returns
returns c = λ hash are.
    let tx = c.args.tx.now in
    let f = made_at hash (mux_id hash tx) in
    c.loop-k.invariant hash are
    ∙ ap (λ (xs : List _). c.args.made.now.items ++ all_from f 0 xs) (take_all c.loop-k.k c.as_slice-outputs.result.now c.loop-k-test.false ∙ c.as_slice-outputs.ensures)
