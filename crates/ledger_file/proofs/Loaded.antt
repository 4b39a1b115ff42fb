-- What loading answers, by how far it came.
use Rattle.std.proofs.Common.{◌≡◌, ℕ, List, [], ◌∷◌, ◌++◌, length, Some, Result, Ok, Err, refl, sym, subst}
use Rattle.std.specs.Prelude.{IsErrAnd}
use Rattle.wire.specs.declared.fault.DataKind.TheVariants.{Count}
use Rattle.wire.specs.declared.files.FramesFault.{FramesFault}
use Rattle.wire.specs.declared.files.FramesFault.TheVariants as frames
use Rattle.wire.specs.Files.{FileFault}
use Rattle.wire.specs.Spelling.{AreBytes}
use Rattle.data_model.specs.declared.block.Block.{Block}
use Rattle.data_model.specs.Files.{BlocksReadAs}
use Rattle.keyed.specs.Functions.{Check}
use Rattle.ledger_core.specs.LedgerModel.{LedgerModel}
use Rattle.ledger_core.specs.declared.refusal.BlockRefusal.{BlockRefusal}
use Rattle.ledger_core.specs.Chain.{Chain}
use Rattle.ledger_core.specs.Refusal.{Refusal}
use Rattle.keyed.specs.Functions.{Hash}
use Rattle.ledger_core.specs.Start.{RefusesStart}
use Rattle.ledger_core.specs.declared.refusal.StartFault.{StartFault}
use Rattle.ledger_core.specs.declared.refusal.StartFault.TheVariants as starts
use Rattle.ledger_file.specs.Files.{AreFramed, file_spelling}
use Rattle.ledger_file.specs.Laws.{LoadLaws}
use Rattle.ledger_file.specs.Loaded.{of_frames, of_start, Loads, LoadGives}
use Rattle.ledger_file.specs.Loading.{LoadsAs, empty, no_frames, no_start, no_next}
use Rattle.ledger_file.specs.declared.fault.LoadFault.{LoadFault}
use Rattle.ledger_file.specs.declared.fault.LoadFault.TheVariants as faults

-- the bytes read as these blocks
pub reads-as : (bytes : List ℕ) (found blocks : List Block) → AreFramed found × (bytes ≡ file_spelling found) → blocks ≡ found → BlocksReadAs bytes (Ok blocks)
reads-as bytes found blocks reads same = subst (λ (bs : List Block). AreFramed bs × (bytes ≡ file_spelling bs)) (sym same) reads

module _ (hash : Hash) (check : Check) (bytes : List ℕ) where
  loads_passed : (e : LoadFault) (r : Result LedgerModel LoadFault) → IsErrAnd r (λ y. y ≡ e) → Loads hash check bytes (Err e) → Loads hash check bytes r
  loads_passed e (Ok x) is loads = absurd is
  loads_passed e (Err y) is loads = subst (λ (z : LoadFault). Loads hash check bytes (Err z)) (sym is) loads

  -- they do not read
  pub loads-unread : (fault : FramesFault) (r : Result LedgerModel LoadFault) → IsErrAnd r (λ y. y ≡ of_frames fault) → ((f : FileFault) → fault ≡ frames.At f.index f.at f.kind → BlocksReadAs bytes (Err f)) → Loads hash check bytes r
  loads-unread (frames.At index at kind) r is first =
      loads_passed (faults.Frame index at kind) r is (no_frames (first (record { index = index; at = at; kind = kind }) refl))
  loads-unread frames.NoMemory r is first = loads_passed faults.NoMemory r is tt

  -- there is no frame
  pub loads-empty : BlocksReadAs bytes (Ok []) → LoadsAs hash check bytes (Err (faults.Frame 0 0 Count))
  loads-empty reads = empty reads.1

  -- the first block starts no chain
  not_started : (initial : Block) (later : List Block) (fault : StartFault) → BlocksReadAs bytes (Ok (initial ∷ later)) → RefusesStart hash initial fault → Loads hash check bytes (Err (of_start fault))
  not_started initial later starts.HeightNotOne reads is = no_start initial later reads is
  not_started initial later starts.PreviousNotZero reads is = no_start initial later reads is
  not_started initial later starts.VersionNotOne reads is = no_start initial later reads is
  not_started initial later starts.NotEmpty reads is = no_start initial later reads is
  not_started initial later starts.RootsNotEmpty reads is = no_start initial later reads is
  not_started initial later starts.NoMemory reads is = tt

  pub loads-not-started : (initial : Block) (later : List Block) (fault : StartFault) (r : Result LedgerModel LoadFault) → IsErrAnd r (λ y. y ≡ of_start fault) → BlocksReadAs bytes (Ok (initial ∷ later)) → RefusesStart hash initial fault → Loads hash check bytes r
  loads-not-started initial later fault r is reads why = loads_passed (of_start fault) r is (not_started initial later fault reads why)

  -- a later one does not extend those before it
  pub loads-refused : (blocks before later : List Block) (block : Block) (index : ℕ) (why : BlockRefusal) → BlocksReadAs bytes (Ok blocks) → blocks ≡ before ++ block ∷ later → index ≡ length before → Chain hash check before → Refusal hash check before block (Some why) → LoadsAs hash check bytes (Err (faults.Block index why))
  loads-refused blocks before later block index why reads is at front first =
      subst (λ (n : ℕ). LoadsAs hash check bytes (Err (faults.Block n why))) (sym at) (no_next before block later (subst (λ (bs : List Block). BlocksReadAs bytes (Ok bs)) is reads) front first)

  -- what is answered is what there is, since there are no two
  pub gives-loaded : LoadLaws hash check → AreBytes bytes → (r : Result LedgerModel LoadFault) (answer : Result (List Block) LoadFault) → Loads hash check bytes r → LoadsAs hash check bytes answer → LoadGives r answer
  gives-loaded laws are (Ok ledger) answer loads is = laws.one bytes answer (Ok ledger.blocks) are is loads
  gives-loaded laws are (Err (faults.Frame index at what)) answer loads is = laws.one bytes answer _ are is loads
  gives-loaded laws are (Err (faults.Start why)) answer loads is = laws.one bytes answer _ are is loads
  gives-loaded laws are (Err (faults.Block index why)) answer loads is = laws.one bytes answer _ are is loads
  gives-loaded laws are (Err faults.NoMemory) answer loads is = tt
