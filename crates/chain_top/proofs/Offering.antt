-- Offers one after the other, each done up to some step.
use Rattle.std.proofs.Common.{◌≡◌, ℕ, ◌+◌, ◌<◌, ◌≤◌, List, [], ◌∷◌, ◌++◌, length, Option, None, Result, Ok, Err, refl, sym, ap, subst, arith}
use Rattle.std.specs.Prelude.{Some, OnOk, IsErrAnd}
use Rattle.std.proofs.lemmas.List.{length-append}
use Rattle.data_model.specs.declared.block.Block.{Block}
use Rattle.entry_ids.specs.Entry.{header_id}
use Rattle.keyed.specs.Functions.{Check}
use Rattle.ledger_core.specs.declared.refusal.BlockRefusal.{BlockRefusal}
use Rattle.ledger_core.specs.Chain.{Chain}
use Rattle.ledger_core.specs.Refusal.{Refusal, ValidNext}
use Rattle.keyed.specs.Functions.{Hash}
use Rattle.outside.specs.Files.{Append}
use Rattle.outside.specs.Steps.{Step, Write, Print}
use Rattle.outside.specs.World.{Io}
use Rattle.data_model.specs.Files.{block_frame}
use Rattle.chain_top.specs.Known.{Known}
use Rattle.command_lines.specs.Line.{accepted_line, refused_block}
use Rattle.chain_top.specs.Offered.{OfferDone, OffersDone}
use Rattle.chain_top.specs.Offers.{OfferOwes, accepted, refused, OffersOwe, none, next}
use Rattle.replies.specs.Fronts.{went-then, went-cut, none_begun, nothing_to_do}
use Rattle.replies.specs.Plan.{done, stop_of, Does}
use Rattle.replies.specs.Recipe.{owe}
use Rattle.replies.specs.Recipes.{may_stop}
use Rattle.replies.specs.Runs.{MayStop, OwnRuns}
use Rattle.replies.specs.Steps.{NotEmpty}
use Rattle.word_lines.specs.Word.{Word}
use Rattle.replies.specs.declared.stop.Stop.{Stop}
use Rattle.replies.specs.declared.stop.Stop.TheVariants as stops
use Rattle.chain_top.proofs.Sound.{some_owes, some_offers, owes_step}

-- whatever answers the rest from now on answers all from the start
abbrev pub OffersOnto : Hash → Check → Word → List Block → List Block → List Block → List Block → Io → Io → Type 0
OffersOnto hash check ledger start offers now rest before mid =
    (end : Io) (r : Result (Unit {0}) Stop) → OffersDone hash check ledger now rest mid end r → OffersDone hash check ledger start offers before end r

module _ (laws : Known) (hash : Hash) (check : Check) (ledger : Word) where
  owes_some : (blocks : List Block) (block : Block) (after : List Block) (steps : List Step) → 0 < length blocks → OfferOwes hash check ledger blocks block after steps → 0 < length after
  owes_some blocks block after steps some (accepted valid) = omega (arith, length-append blocks (block ∷ []))
  owes_some blocks block after steps some (refused why) = some

  owes_few : (blocks : List Block) (block : Block) (after : List Block) (steps : List Step) → OfferOwes hash check ledger blocks block after steps → length after ≤ length blocks + 1
  owes_few blocks block after steps (accepted valid) = omega (arith, length-append blocks (block ∷ []))
  owes_few blocks block after steps (refused why) = omega arith

  -- ---- one

  -- memory ran out before its first step
  pub offer-memory : {T : Type 0} (blocks : List Block) (block : Block) (later : List Block) (a : Io) → Chain hash check blocks → OfferDone {T = T} hash check ledger blocks block later a a (Err stops.NoMemory)
  offer-memory blocks block later a front =
      (let one = some_owes laws hash check ledger blocks block ((laws.chains hash check).not_empty blocks front) in
      record { left = one.0; steps = one.1; owes = one.2; does = none_begun (done one.1) a; kept = tt })

  kept_of : {T : Type 0} (later left : List Block) (r : Result T Stop) → later ≡ left → OnOk r (later ≡ left)
  kept_of later left (Ok x) is = is
  kept_of later left (Err e) is = tt

  pub offer-accepted : {T : Type 0} (blocks : List Block) (block : Block) (later : List Block) (a b : Io) (r : Result T Stop) (frame line : List ℕ) → ValidNext hash check blocks block → later ≡ blocks ++ block ∷ [] → frame ≡ block_frame block → line ≡ accepted_line block.header.height (header_id hash block.header) → Does (done (Write Append ledger frame ∷ Print line ∷ [])) a b r → OfferDone hash check ledger blocks block later a b r
  offer-accepted blocks block later a b r frame line valid is spelled told does = record {
    left = blocks ++ block ∷ [];
    steps = _;
    owes = accepted valid;
    does = rw (spelled, told) at does;
    kept = kept_of later (blocks ++ block ∷ []) r is;
  }

  pub offer-refused : {T : Type 0} (blocks : List Block) (block : Block) (later : List Block) (a b : Io) (r : Result T Stop) (why : BlockRefusal) (line : List ℕ) → Refusal hash check blocks block (Some why) → later ≡ blocks → line ≡ refused_block why → Does (done (Print line ∷ [])) a b r → OfferDone hash check ledger blocks block later a b r
  offer-refused blocks block later a b r why line not is told does = record {
    left = blocks;
    steps = _;
    owes = refused not;
    does = rw told at does;
    kept = kept_of later blocks r is;
  }

  -- ---- several

  pub offers-none : {T : Type 0} (blocks offers : List Block) (a : Io) (x : T) → offers ≡ [] → OffersDone hash check ledger blocks offers a a (Ok x)
  offers-none {T = T} blocks offers a x is =
      subst (λ (bs : List Block). OffersDone {T = T} hash check ledger blocks bs a a (Ok x)) (sym is) (record { steps = []; owe = none; may = tt; does = nothing_to_do a })

  may_first : (one rest : List Step) (stop : Option Stop) → NotEmpty one → MayStop (one ++ rest) stop
  may_first one rest None some = tt
  may_first one rest (Some stop) (s, ss, is) = (s, ss ++ rest, ap (λ (xs : List Step). xs ++ rest) is)

  -- one, and then those after it
  pub offers-more : {T U : Type 0} (blocks : List Block) (block : Block) (later offers : List Block) (a b c : Io) (x : T) (r : Result U Stop) → OfferDone hash check ledger blocks block later a b (Ok x) → OffersDone hash check ledger later offers b c r → OffersDone hash check ledger blocks (block ∷ offers) a c r
  offers-more blocks block later offers a b c x r one rest =
      (let owe = subst (λ (bs : List Block). OffersOwe hash check ledger bs offers rest.steps) one.kept rest.owe in
      record { steps = one.steps ++ rest.steps; owe = next one.left one.steps rest.steps one.owes owe; may = may_first one.steps rest.steps (stop_of r) (owes_step laws hash check ledger blocks block one.left one.steps one.owes); does = went-then (done one.steps) (done rest.steps) a b c (stop_of r) (may_stop rest.steps one.steps (stop_of r) rest.may) one.does rest.does })

  -- one that stopped
  offers_stopped : {T U : Type 0} (blocks : List Block) (block : Block) (later offers : List Block) (a b : Io) (e : Stop) → Chain hash check blocks → OfferDone {T = T} hash check ledger blocks block later a b (Err e) → OffersDone {T = U} hash check ledger blocks (block ∷ offers) a b (Err e)
  offers_stopped blocks block later offers a b e front one =
      (let rest = some_offers laws hash check ledger one.left offers (owes_some blocks block one.left one.steps ((laws.chains hash check).not_empty blocks front) one.owes) in
      record { steps = one.steps ++ rest.0; owe = next one.left one.steps rest.0 one.owes rest.1; may = may_first one.steps rest.0 (Some e) (owes_step laws hash check ledger blocks block one.left one.steps one.owes); does = went-cut (done one.steps) (done rest.0) a b e refl one.does })

  pub offers-stopped : {T U : Type 0} (blocks : List Block) (block : Block) (later offers : List Block) (a b : Io) (e : Stop) (r : Result U Stop) → Chain hash check blocks → IsErrAnd r (λ y. y ≡ e) → OfferDone {T = T} hash check ledger blocks block later a b (Err e) → OffersDone hash check ledger blocks (block ∷ offers) a b r
  offers-stopped blocks block later offers a b e (Ok x) front is one = absurd is
  offers-stopped {U = U} blocks block later offers a b e (Err y) front is one =
      subst (λ (z : Stop). OffersDone {T = U} hash check ledger blocks (block ∷ offers) a b (Err z)) (sym is) (offers_stopped blocks block later offers a b e front one)

  -- one is at most one block more
  pub offered-few : {T : Type 0} (blocks : List Block) (block : Block) (later : List Block) (a b : Io) (x : T) → OfferDone hash check ledger blocks block later a b (Ok x) → length later ≤ length blocks + 1
  offered-few blocks block later a b x d = omega (arith, ap length d.kept, owes_few blocks block d.left d.steps d.owes)

-- as the steps of a command
pub offers-run : {T : Type 0} (hash : Hash) (check : Check) (ledger : Word) (blocks offers : List Block) (a b : Io) (r : Result T Stop) → OffersDone hash check ledger blocks offers a b r → OwnRuns (owe (OffersOwe hash check ledger blocks offers)) a b (stop_of r)
offers-run hash check ledger blocks offers a b r d = (d.steps, d.owe, d.does)
