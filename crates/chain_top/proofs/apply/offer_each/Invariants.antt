use Rattle.std.proofs.Common.{◌≡◌, ◌+◌, ◌<◌, ◌^◌, length}
use Rattle.std.specs.Vec.Iter.{into_iter_items, into_iter_len}
use Rattle.ledger_core.specs.Chain.{StandsFor}
use Rattle.ledger_file.specs.Files.{AreFramed, file_spelling}
use Rattle.chain_top.proofs.Offering.{OffersOnto}
use Rattle.chain_top.proofs.apply.offer_each.Given as goal

-- the offers so far, each answered to its end
abbrev pub invariant-loop-block : goal.invariant-loop-block
invariant-loop-block g l = record {
  stands : StandsFor (g.H.IdHash.hash_of l.hash) (g.C.SigCheck.good_of l.sigs) l.ledger;
  framed : AreFramed (into_iter_items l.offers);
  spelled : l.frames ≡ file_spelling (into_iter_items l.offers);
  few : length l.ledger.blocks + length (into_iter_items l.offers) < 2 ^ 40;
  onto : OffersOnto (g.H.IdHash.hash_of l.hash) (g.C.SigCheck.good_of l.sigs) l.name l.fn.ledger.blocks (into_iter_items l.fn.offers) l.ledger.blocks (into_iter_items l.offers) (g.O.Outside.io l.fn.out) (g.O.Outside.io l.out);
}

abbrev pub decreases-loop-block : goal.decreases-loop-block
decreases-loop-block g l = into_iter_len l.offers
