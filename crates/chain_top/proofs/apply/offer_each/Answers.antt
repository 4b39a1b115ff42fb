use Rattle.std.proofs.Common.{rules, ◌≡◌, List, [], ◌∷◌, ◌++◌, length, sym, ◌∙◌, ap, subst, arith}
use Rattle.std.specs.Vec.Iter.{into_iter_items}
use Rattle.data_model.specs.declared.block.Block.{Block}
use Rattle.data_model.specs.Files.{block_frame}
use Rattle.ledger_file.specs.Files.{AreFramed, file_spelling}
use Rattle.chain_top.specs.Offered.{OffersDone}
use Rattle.replies.specs.Recipes.{empty_list}
use Rattle.chain_top.proofs.Offering.{offered-few, offers-none, offers-more, offers-stopped}
use Rattle.chain_top.proofs.apply.offer_each.Goals as goal

pub loop-block-init : goal.loop-block-init
loop-block-init g c = record { stands = c.requires.stands; framed = c.requires.framed; spelled = c.requires.spelled; few = c.requires.few; onto = λ end r d. d }

pub offer_one-requires-clause-spelled : goal.offer_one-requires-clause-spelled
offer_one-requires-clause-spelled g c =
    let block = c.in-Some.block in
    let rest = into_iter_items c.next.new.self in
    let items : into_iter_items c.loop-block.offers ≡ block ∷ rest = c.in-Some.ensures.items in
    let framed : AreFramed (block ∷ rest) = subst AreFramed items c.loop-block.invariant.framed in
    let spelled : c.loop-block.frames.now ≡ block_frame block ++ file_spelling rest = c.loop-block.invariant.spelled ∙ ap file_spelling items in
    (c.split_frame.ensures.frame block (file_spelling rest) framed.0 spelled).0

pub loop-block-preserved : goal.loop-block-preserved
loop-block-preserved g c =
    let hash = g.H.IdHash.hash_of c.args.hash.now in
    let check = g.C.SigCheck.good_of c.args.sigs.now in
    let block = c.in-Some.block in
    let rest = into_iter_items c.next.new.self in
    let items : into_iter_items c.loop-block.offers ≡ block ∷ rest = c.in-Some.ensures.items in
    let framed : AreFramed (block ∷ rest) = subst AreFramed items c.loop-block.invariant.framed in
    let spelled : c.loop-block.frames.now ≡ block_frame block ++ file_spelling rest = c.loop-block.invariant.spelled ∙ ap file_spelling items in
    record {
      stands = c.in_ok-offer_one.ensures.stands;
      framed = framed.1;
      spelled = (c.split_frame.ensures.frame block (file_spelling rest) framed.0 spelled).1;
      few = omega (arith, c.loop-block.invariant.few, offered-few c.known.ensures hash check c.args.name.now c.loop-block.ledger.blocks block c.offer_one.new.ledger.blocks _ _ _ c.in_ok-offer_one.ensures.done, ap length items);
      onto = λ end r d.
          c.loop-block.invariant.onto end r
          (subst (λ (bs : List Block). OffersDone hash check c.args.name.now c.loop-block.ledger.blocks bs (g.O.Outside.io c.loop-block.out) end r) (sym items)
          (offers-more c.known.ensures hash check c.args.name.now c.loop-block.ledger.blocks block c.offer_one.new.ledger.blocks rest _ _ _ _ r c.in_ok-offer_one.ensures.done d));
    }

pub returns-in_err-offer_one : goal.returns-in_err-offer_one
returns-in_err-offer_one g c =
    let hash = g.H.IdHash.hash_of c.args.hash.now in
    let check = g.C.SigCheck.good_of c.args.sigs.now in
    let block = c.in-Some.block in
    let rest = into_iter_items c.next.new.self in
    let items : into_iter_items c.loop-block.offers ≡ block ∷ rest = c.in-Some.ensures.items in
    let r = c.from_residual.result in
    c.loop-block.invariant.onto (g.O.Outside.io c.offer_one.new.out) r
    (subst (λ (bs : List Block). OffersDone hash check c.args.name.now c.loop-block.ledger.blocks bs (g.O.Outside.io c.loop-block.out) (g.O.Outside.io c.offer_one.new.out) r) (sym items)
    (offers-stopped c.known.ensures hash check c.args.name.now c.loop-block.ledger.blocks block c.offer_one.new.ledger.blocks rest _ _ _ r c.loop-block.invariant.stands.chain c.from_residual.ensures.1 c.in_err-offer_one.ensures.done))

pub returns : goal.returns
returns g c =
    let len : length (into_iter_items c.loop-block.offers) ≡ 0 = search rules in
    let none : into_iter_items c.loop-block.offers ≡ [] = empty_list _ len in
    c.loop-block.invariant.onto (g.O.Outside.io c.loop-block.out) _ (offers-none c.known.ensures _ _ c.args.name.now c.loop-block.ledger.blocks _ _ _ none)
