use Rattle.std.proofs.Common.{◌≡◌, ◌++◌, ◌∷◌, [], List, ℕ, length, take, ap, sym, ◌∙◌, append_assoc, arith}
use Rattle.std.proofs.lemmas.Grind.{common_steps}
use Rattle.std.specs.List.{concat}
use Rattle.wire.specs.Spelling.{varint}
use Rattle.entry_ids.specs.Ids.{result_id, results_of}
use Rattle.wire.specs.Lists.{got}
use Rattle.data_model.specs.Members.{output_within}
use Rattle.entry_ids.proofs.Elements.{next_counted, concat_more}
use Rattle.entry_ids.proofs.tx.put_results.Goals as goal

pub ids_of_result-requires-clause-output : goal.ids_of_result-requires-clause-output
ids_of_result-requires-clause-output g c =
    output_within c.args.tx.now c.loop-position.position c.index-outputs-position.result c.requires.tx (got _ _ _ (record { there = rw c.as_slice-outputs.ensures at c.loop-position-test.true; is = rw c.as_slice-outputs.ensures at c.index-outputs-position.is }))

pub loop-position-preserved : goal.loop-position-preserved
loop-position-preserved g c =
    let hash = g.H.IdHash.hash_of c.args.hash.now in
    let outputs = c.as_slice-outputs.result.now in
    let front = varint c.args.tx.now.version ++ varint (length outputs) in
    let ids = c.loop-position.lists.entries in
    let id = c.in_ok-ids.ids.entry in
    let next = next_counted (result_id hash c.args.mux.now) outputs c.loop-position.position c.index-outputs-position.result (record { there = c.loop-position-test.true; is = c.index-outputs-position.is }) in
    let added : c.push.new.self.entries ≡ ids ++ id ∷ [] = c.in_ok-push.ensures.entries in
    let written : c.raw.new.self ≡ c.loop-position.body ++ id = c.in_ok-raw.ensures in
    record {
      entries = added ∙ ap (λ (before : List (List ℕ)). before ++ id ∷ []) c.loop-position.invariant.entries
          ∙ ap (λ (last : List ℕ). results_of hash c.args.mux.now (take c.loop-position.position outputs) ++ last ∷ []) c.in_ok-ids.ensures.entry
          ∙ sym next;
      data_hashes = grind (arith, common_steps);
      body = written ∙ ap (λ (before : List ℕ). before ++ id) c.loop-position.invariant.body
          ∙ append_assoc front (concat ids) id
          ∙ ap (λ (more : List ℕ). front ++ more) (sym (concat_more ids id))
          ∙ ap (λ (all : List (List ℕ)). front ++ concat all) (sym added);
    }
