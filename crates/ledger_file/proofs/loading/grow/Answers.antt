use Rattle.std.proofs.Common.{List, [], ◌∷◌, ◌++◌, ◌≡◌, length, Some, Ok, refl, sym, ◌∙◌, ap, subst, arith, append_assoc, rules}
use Rattle.std.proofs.lemmas.List.{append-nil, length-append}
use Rattle.std.specs.Vec.Iter.{into_iter_items}
use Rattle.data_model.specs.declared.block.Block.{Block}
use Rattle.data_model.specs.Files.{BlocksReadAs}
use Rattle.ledger_core.specs.declared.refusal.BlockRefusal.{BlockRefusal}
use Rattle.ledger_core.specs.Refusal.{Refusal}
use Rattle.ledger_file.specs.Files.{AreFramed}
use Rattle.ledger_file.specs.Loading.{chain}
use Rattle.ledger_file.proofs.Lists.{empty-list}
use Rattle.ledger_file.proofs.Loaded.{loads-refused}
use Rattle.ledger_file.proofs.loading.grow.Goals as goal

pub loop-block-init : goal.loop-block-init
loop-block-init g c = record { stands = c.requires.stands; framed = c.requires.framed; all = refl; few = c.requires.few }

pub loop-block-preserved : goal.loop-block-preserved
loop-block-preserved g c =
    let block = c.in-Some.block in
    let rest = into_iter_items c.next.new.self in
    let before = c.loop-block.ledger.blocks in
    let items : into_iter_items c.loop-block.later ≡ block ∷ rest = c.in-Some.ensures.items in
    let framed : AreFramed (block ∷ rest) = subst AreFramed items c.loop-block.invariant.framed in
    record {
      stands = c.offer.ensures.stands;
      framed = framed.1;
      all = ap (λ (bs : List Block). bs ++ rest) c.in-Ok.ensures.added ∙ append_assoc before (block ∷ []) rest ∙ ap (λ (bs : List Block). before ++ bs) (sym items) ∙ c.loop-block.invariant.all;
      few = omega (arith, c.loop-block.invariant.few, ap length c.in-Ok.ensures.added, length-append before (block ∷ []), ap length items);
    }

pub returns-in-Err-Refused-clause-loads : goal.returns-in-Err-Refused-clause-loads
returns-in-Err-Refused-clause-loads g c = λ bytes reads.
    let hash = g.H.IdHash.hash_of c.args.hash.now in
    let check = g.C.SigCheck.good_of c.args.sigs.now in
    let before = c.loop-block.ledger.blocks in
    let why : Refusal hash check before c.in-Some.block (Some c.in-Err-Refused.refusal) = rw c.in-Err-Refused.field-0-is at c.in-Err-Refused.ensures.refused in
    loads-refused hash check bytes (c.args.ledger.blocks ++ into_iter_items c.args.later) before (into_iter_items c.next.new.self) c.in-Some.block _ _ reads
    (sym c.loop-block.invariant.all ∙ ap (λ (bs : List Block). before ++ bs) c.in-Some.ensures.items)
    (ap length c.blocks-in-Err-Refused.ensures ∙ ap (λ l. length l.blocks) c.in-Err-Refused.ensures.unchanged)
    c.loop-block.invariant.stands.chain
    (subst (λ (w : BlockRefusal). Refusal hash check before c.in-Some.block (Some w)) (sym c.in-Err-Refused.refusal-is) why)

pub returns-clause-loads : goal.returns-clause-loads
returns-clause-loads g c = λ bytes reads.
    let blocks = c.loop-block.ledger.blocks in
    let len : length (into_iter_items c.loop-block.later) ≡ 0 = search rules in
    let same = sym (append-nil blocks) ∙ ap (λ (bs : List Block). blocks ++ bs) (sym (empty-list _ len)) ∙ c.loop-block.invariant.all in
    chain (subst (λ (bs : List Block). BlocksReadAs bytes (Ok bs)) (sym same) reads) c.loop-block.invariant.stands.chain
