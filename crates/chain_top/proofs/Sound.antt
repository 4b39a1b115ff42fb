-- What the recipes of commands have to have: each file, check and step has one answer.
use Rattle.std.proofs.Common.{◌≡◌, ℕ, ◌<◌, List, [], ◌∷◌, ◌++◌, length, Option, Some, None, Result, Ok, Err, refl, sym, ◌∙◌, ap, arith}
use Rattle.std.proofs.lemmas.List.{length-append}
use Rattle.data_model.specs.declared.block.Block.{Block}
use Rattle.data_model.specs.Files.{BlocksReadAs}
use Rattle.vm_num.specs.Item.{Item}
use Rattle.keyed.specs.Functions.{Check}
use Rattle.vm_run.specs.declared.context.Context.TheVariants.{Nothing}
use Rattle.vm_run.specs.declared.verdict.Verdict.{Verdict}
use Rattle.ledger_core.specs.declared.refusal.BlockRefusal.{BlockRefusal}
use Rattle.ledger_core.specs.Refusal.{Refusal}
use Rattle.keyed.specs.Functions.{Hash}
use Rattle.ledger_file.specs.Loading.{LoadsAs, chain}
use Rattle.outside.specs.Steps.{Step, Print}
use Rattle.command_words.specs.Command.{Command, Vm, Init, Apply, Quorum}
use Rattle.command_lines.specs.Line.{refused_block, verdict_line}
use Rattle.replies.specs.Asking.{IsCheck, lined}
use Rattle.replies.specs.Recipe.{IsOwed, IsFormat, Sound}
use Rattle.replies.specs.Recipes.{gives_check, lined_check, known_owed}
use Rattle.replies.specs.Steps.{NotEmpty, reads_of}
use Rattle.chain_top.specs.Choice.{Choice}
use Rattle.chain_top.specs.Commands.{VerdictOwed, recipe_of}
use Rattle.chain_top.specs.Formats.{BlocksIn, Sized, blocks_format, file_line, ledger_format, load_line}
use Rattle.chain_top.specs.Known.{Known}
use Rattle.chain_top.specs.Offers.{OfferOwes, accepted, refused, OffersOwe, none, next}
use Rattle.word_lines.specs.Word.{Word}

-- ---- formats

-- a reading with its size has one answer where the reading has
module _ {F : Type 0} (bytes : List ℕ) (is : Result (List Block) F → Type 0) where
  some_sized : (r : Result (List Block) F) × is r → (r : Result BlocksIn F) × Sized bytes is r
  some_sized (Ok blocks, good) = (Ok (record { size = length bytes; blocks = blocks }), (good, refl))
  some_sized (Err fault, bad) = (Err fault, bad)

  one_sized : ((r s : Result (List Block) F) → is r → is s → r ≡ s) → (r s : Result BlocksIn F) → Sized bytes is r → Sized bytes is s → r ≡ s
  one_sized one (Ok a) (Ok b) p q =
      let same : ◌≡◌ {A = Result (List Block) F} (Ok a.blocks) (Ok b.blocks) = one (Ok a.blocks) (Ok b.blocks) p.0 q.0 in
      let blocks : a.blocks ≡ b.blocks = cc in
      ap (λ (n : ℕ). Ok (record { size = n; blocks = a.blocks })) (p.1 ∙ sym q.1) ∙ ap (λ (bs : List Block). Ok (record { size = b.size; blocks = bs })) blocks
  one_sized one (Ok a) (Err g) p q = (let same : ◌≡◌ {A = Result (List Block) F} (Ok a.blocks) (Err g) = one (Ok a.blocks) (Err g) p.0 q in cc)
  one_sized one (Err f) (Ok b) p q = (let same : ◌≡◌ {A = Result (List Block) F} (Ok b.blocks) (Err f) = one (Ok b.blocks) (Err f) q.0 p in cc)
  one_sized one (Err f) (Err g) p q = (let same : ◌≡◌ {A = Result (List Block) F} (Err f) (Err g) = one (Err f) (Err g) p q in let faults : f ≡ g = cc in ap (λ (x : F). Err x) faults)

  pub sized_check : (line_of : F → List ℕ) → (r : Result (List Block) F) × is r → ((r s : Result (List Block) F) → is r → is s → r ≡ s) → IsCheck (lined line_of (Sized bytes is))
  sized_check line_of some one = lined_check line_of (Sized bytes is) (some_sized some) (one_sized one)

pub blocks_format_sound : Known → IsFormat blocks_format
blocks_format_sound laws place bytes are =
    sized_check bytes (BlocksReadAs bytes) (file_line place) (laws.files.frames.file.reads bytes are) (λ r s. laws.files.frames.file.one_reading bytes r s are)

pub ledger_format_sound : Known → (hash : Hash) (check : Check) → IsFormat (ledger_format hash check)
ledger_format_sound laws hash check place bytes are =
    sized_check bytes (LoadsAs hash check bytes) (load_line place) ((laws.loads hash check).some bytes are) (λ r s. (laws.loads hash check).one bytes r s are)

-- ---- verdicts

pub verdict_owed : Known → (check : Check) (limit : ℕ) (program : List ℕ) (args : List Item) → IsOwed (VerdictOwed check limit program args)
verdict_owed laws check limit program args = record {
  some = (let says = laws.verdicts.some Nothing check program args limit in (_, (says.0, says.1, refl)));
  one = λ xs ys p q.
      let same : p.0 ≡ q.0 = laws.verdicts.one Nothing check program args limit p.0 q.0 p.1 q.1 in
      p.2 ∙ ap (λ (v : Verdict). Print (verdict_line v) ∷ []) same ∙ sym q.2;
  quiet = λ xs p. ap reads_of p.2;
}

-- ---- offers

module _ (laws : Known) (hash : Hash) (check : Check) (ledger : Word) where
  pub some_owes : (blocks : List Block) (block : Block) → 0 < length blocks → (after : List Block) × (steps : List Step) × OfferOwes hash check ledger blocks block after steps × (0 < length after)
  some_owes blocks block some = by_refusal ((laws.refusals hash check).some blocks block some)
    where
      by_refusal : (line : Option BlockRefusal) × Refusal hash check blocks block line → (after : List Block) × (steps : List Step) × OfferOwes hash check ledger blocks block after steps × (0 < length after)
      by_refusal (None, valid) = (_, _, accepted valid, omega (arith, length-append blocks (block ∷ [])))
      by_refusal (Some why, is) = (_, _, refused is, some)

  pub some_offers : (blocks offers : List Block) → 0 < length blocks → (steps : List Step) × OffersOwe hash check ledger blocks offers steps
  some_offers blocks [] some = ([], none)
  some_offers blocks (block ∷ offers) some =
      (let one = some_owes blocks block some in
      let rest = some_offers one.0 offers one.3 in
      (_, next one.0 one.1 rest.0 one.2 rest.1))

  -- one offer always owes a step
  pub owes_step : (blocks : List Block) (block : Block) (after : List Block) (steps : List Step) → OfferOwes hash check ledger blocks block after steps → NotEmpty steps
  owes_step blocks block after steps (accepted valid) = (_, _, refl)
  owes_step blocks block after steps (refused why) = (_, _, refl)

  no_two : (why : BlockRefusal) → ◌≡◌ {A = Option BlockRefusal} None (Some why) → ⊥
  no_two why e = cc

  one_verdict_on : (blocks : List Block) (block : Block) (m n : Option BlockRefusal) → Refusal hash check blocks block m → Refusal hash check blocks block n → m ≡ n
  one_verdict_on blocks block m n p q = (laws.refusals hash check).one blocks block m n p q

  abbrev refused_steps : BlockRefusal → List Step
  refused_steps why = Print (refused_block why) ∷ []

  -- what two answers to one offer owe, before the same offers after it
  one_offers : (blocks offers : List Block) (xs ys : List Step) → OffersOwe hash check ledger blocks offers xs → OffersOwe hash check ledger blocks offers ys → xs ≡ ys
  one_offers blocks [] xs ys none none = refl
  one_offers blocks (block ∷ offers) xs ys (next a now later (accepted valid) rest) (next b then more (accepted fine) others) =
      ap (λ (zs : List Step). now ++ zs) (one_offers a offers later more rest others)
  one_offers blocks (block ∷ offers) xs ys (next a now later (accepted valid) rest) (next b then more (refused {why = n} not) others) =
      absurd (no_two n (one_verdict_on blocks block None (Some n) valid not))
  one_offers blocks (block ∷ offers) xs ys (next a now later (refused {why = m} not) rest) (next b then more (accepted fine) others) =
      absurd (no_two m (one_verdict_on blocks block None (Some m) fine not))
  one_offers blocks (block ∷ offers) xs ys (next a now later (refused {why = m} not) rest) (next b then more (refused {why = n} bad) others) =
      let both : Some m ≡ Some n = one_verdict_on blocks block (Some m) (Some n) not bad in
      let same : m ≡ n = cc in
      ap (λ (zs : List Step). now ++ zs) (one_offers a offers later more rest others) ∙ ap (λ (w : BlockRefusal). refused_steps w ++ more) same

  quiet_offers : (blocks offers : List Block) (xs : List Step) → OffersOwe hash check ledger blocks offers xs → reads_of xs ≡ []
  quiet_offers blocks [] xs none = refl
  quiet_offers blocks (block ∷ offers) xs (next a now later (accepted valid) rest) = quiet_offers a offers later rest
  quiet_offers blocks (block ∷ offers) xs (next a now later (refused not) rest) = quiet_offers a offers later rest

  pub offers_owed : (blocks offers : List Block) → 0 < length blocks → IsOwed (OffersOwe hash check ledger blocks offers)
  offers_owed blocks offers some = record { some = some_offers blocks offers some; one = one_offers blocks offers; quiet = quiet_offers blocks offers }

-- ---- commands

-- a ledger has a block
ledger_some : Known → (hash : Hash) (check : Check) (place : ℕ) (bytes : List ℕ) (file : BlocksIn) → ledger_format hash check place bytes (Ok file) → 0 < length file.blocks
ledger_some laws hash check place bytes file good = by_loading file.blocks good.0
  where
    by_loading : (blocks : List Block) → LoadsAs hash check bytes (Ok blocks) → 0 < length blocks
    by_loading blocks (chain reads front) = (laws.chains hash check).not_empty blocks front

pub sound : Known → (hash : Hash) (check : Check) (choice : Choice) (command : Command) → Sound (recipe_of hash check choice command)
sound laws hash check choice (Vm limit program args) = (gives_check _, λ code is. (gives_check _, λ items be. verdict_owed laws check limit code items))
sound laws hash check choice (Init ledger time program) = (gives_check _, λ code is. known_owed _ refl)
sound laws hash check choice (Apply ledger offers) = (
  ledger_format_sound laws hash check,
  λ bytes file are reads. (
    blocks_format_sound laws,
    λ more offered fit found. (gives_check _, λ u fits. offers_owed laws hash check ledger file.blocks offered.blocks (ledger_some laws hash check 1 bytes file reads)),
  ),
)
sound laws hash check choice (Quorum m keys) = (gives_check _, λ items is. known_owed _ refl)
