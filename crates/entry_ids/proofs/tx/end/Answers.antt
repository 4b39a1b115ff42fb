use Rattle.std.proofs.Common.{◌≡◌, ◌++◌, List, ℕ, ◌∙◌, ap, length}
use Rattle.std.specs.Prelude.{codes}
use Rattle.std.specs.List.{concat}
use Rattle.wire.specs.Spelling.{varint}
use Rattle.entry_ids.specs.Entry.{entry}
use Rattle.entry_ids.specs.Ids.{result_ids, tx_id}
use Rattle.entry_ids.proofs.tx.end.Goals as goal

pub returns : goal.returns
unfolding tx_id
returns g c =
    let hash = g.H.IdHash.hash_of c.args.hash.now in
    let tx = c.args.tx.now in
    let front = varint tx.version ++ varint (length tx.outputs) ++ concat (result_ids hash tx) in
    let with_data : c.raw.new.self ≡ front ++ hash tx.refdata =
    c.in_ok-raw.ensures ∙ (λ i. c.requires.front i ++ c.requires.data_hash i) in
    let mintime : c.number.new.self ≡ c.raw.new.self ++ varint tx.mintime = c.in_ok-number.ensures in
    let maxtime : c.number-2.new.self ≡ c.number.new.self ++ varint tx.maxtime = c.in_ok-number-2.ensures in
    c.entry_id.ensures
    ∙ ap (λ (body : List ℕ). entry hash (codes "txheader") body)
    (c.as_slice.ensures ∙ maxtime ∙ ap (λ (body : List ℕ). body ++ varint tx.maxtime) (mintime ∙ ap (λ (body : List ℕ). body ++ varint tx.mintime) with_data))
