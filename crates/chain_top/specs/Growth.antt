-- What `apply` makes of the ledger's file, in the words of chains, and what a crash leaves of it.
use Rattle.std.specs.Prelude.{◌≡◌, ◌≢◌, ℕ, ◌+◌, ◌≤◌, true, false, List, [], ◌∷◌, ◌++◌, length, Option, Some, None, Ok}
use Rattle.std.specs.Prelude.{IsSomeAnd, bytes_eq}
use Rattle.wire.specs.Spelling.{AreBytes}
use Rattle.data_model.specs.declared.block.Block.{Block}
use Rattle.entry_ids.specs.Entry.{header_id}
use Rattle.keyed.specs.Functions.{Check}
use Rattle.ledger_core.specs.declared.refusal.BlockRefusal.{BlockRefusal}
use Rattle.ledger_core.specs.Chain.{Chain, Accepted}
use Rattle.outside.specs.Files.{Content, Write, Append, bytes_in, write_of}
use Rattle.outside.specs.Crash.{IsMoment, MayLeave}
use Rattle.outside.specs.World.{World}
use Rattle.replies.specs.Answer.{GoesOn, done_of}
use Rattle.replies.specs.Plan.{Plan, Given, GivenBy}
use Rattle.replies.specs.Steps.{Line, lines_of, reads_of, writes_of}
use Rattle.data_model.specs.Files.{BlocksReadAs, block_frame}
use Rattle.ledger_file.specs.Files.{file_spelling}
use Rattle.command_lines.specs.Line.{accepted_line, refused_block}
use Rattle.keyed.specs.Functions.{Hash}
use Rattle.replies.specs.Reply.{Reply, reply_of}
use Rattle.replies.specs.Recipe.{model}
use Rattle.chain_top.specs.Commands.{apply}
use Rattle.word_lines.specs.Word.{Word}

-- a file is there, and reads as these blocks
abbrev pub HoldsBlocks : Content → List Block → Type 0
HoldsBlocks None blocks = ⊥
HoldsBlocks (Some bytes) blocks = AreBytes bytes × BlocksReadAs bytes (Ok blocks)

-- the frames of these blocks appended to the ledger, one after the other, each answered Ok
abbrev pub appends : Word → List Block → List Write
appends ledger [] = []
appends ledger (block ∷ blocks) = write_of Append ledger (block_frame block) true ∷ appends ledger blocks

-- What is printed for offers with these verdicts, where so many blocks were added before: an added block is reported
-- once it is appended.
abbrev pub offers_told : Hash → ℕ → List Block → List (Option BlockRefusal) → List Line
offers_told hash before [] verdicts = []
offers_told hash before (offer ∷ offers) [] = []
offers_told hash before (offer ∷ offers) (None ∷ verdicts) =
    record { text = accepted_line offer.header.height (header_id hash offer.header); after = before + 1 }
    ∷ offers_told hash (before + 1) offers verdicts
offers_told hash before (offer ∷ offers) (Some line ∷ verdicts) =
    record { text = refused_block line; after = before } ∷ offers_told hash before offers verdicts

-- ---- a whole run

-- The ledger's file has the blocks of a chain, and the file of offers has blocks. Those that are accepted one after the
-- other are added: their frames are appended, and nothing else is written. Each offer is reported by its verdict.
pub record Grows (hash : Hash) (check : Check) (ledger : Word) (first second : Content) (reply : Reply) : Type 0 where
  pub old : List Block
  pub offers : List Block
  pub added : List Block
  pub verdicts : List (Option BlockRefusal)
  pub is_ledger : HoldsBlocks first old
  pub are_offers : HoldsBlocks second offers
  pub is_chain : Chain hash check old
  pub accepted : Accepted hash check old offers (old ++ added) verdicts
  pub lines : lines_of reply.steps ≡ offers_told hash 0 offers verdicts
  pub writes : writes_of reply.steps ≡ appends ledger added
  -- the file then has these blocks and no others, and they are a chain
  pub grown : HoldsBlocks (Some (bytes_in first ++ file_spelling added)) (old ++ added)
  pub stays_chain : Chain hash check (old ++ added)

-- The ledger's file has then these frames after what it had, and every other file is as it was.
abbrev pub EndsGrown : Word → List Block → (List ℕ → Content) → (List ℕ → Content) → Type 0
EndsGrown ledger added before after =
    (bytes_in (after ledger) ≡ bytes_in (before ledger) ++ file_spelling added)
    × ((name : List ℕ) → bytes_eq name ledger ≡ false → after name ≡ before name)

-- Where `apply` ended with status 0 the ledger grew by the accepted offers. Where the files say what they hold, they
-- held what the reads were given, and hold the grown ledger.
pub record Grown (hash : Hash) (check : Check) (ledger offers : Word) (given : Given) (reply : Reply)
    (before after : World) : Type 0 where
  pub grows : Grows hash check ledger (given 0) (given 1) reply
  pub read :
      (contents : List ℕ → Content)
      → before.contents ≡ Some contents
      → (given 0 ≡ contents ledger) × (given 1 ≡ contents offers)
  pub ends :
      (contents : List ℕ → Content)
      → before.contents ≡ Some contents
      → IsSomeAnd after.contents (EndsGrown ledger grows.added contents)

-- ---- a crash

-- any string that is no longer than the frame of the first of these blocks, or nothing where there is none
abbrev pub IsTorn : List Block → List ℕ → Type 0
IsTorn [] torn = torn ≡ []
IsTorn (block ∷ blocks) torn = length torn ≤ length (block_frame block)

-- What a crash leaves of a ledger that had these bytes, while the frames of these blocks were appended and so many
-- appends had been answered Ok: the bytes, the frames of the first blocks in order, those of the answered appends among
-- them, and then a torn one.
pub record LeavesFront (bytes : List ℕ) (added : List Block) (answered : ℕ) (left : Content) : Type 0 where
  pub kept : List Block
  pub rest : List Block
  pub torn : List ℕ
  pub parts : added ≡ kept ++ rest
  pub is_torn : IsTorn rest torn
  pub all_answered : answered ≤ length kept
  pub leaves : left ≡ Some (bytes ++ file_spelling kept ++ torn)

-- the replies to `apply`, for what its reads are given
abbrev pub ApplyReply : Hash → Check → Word → Word → Given → Reply → Type 0
ApplyReply hash check ledger offers given reply =
    (plan : Plan) × model (apply hash check ledger offers) given plan × (reply ≡ reply_of plan)

-- and for what the files hold by their names
abbrev pub ApplyFor : Hash → Check → Word → Word → (List ℕ → Content) → Reply → Type 0
ApplyFor hash check ledger offers contents reply =
    (given : Given)
    × ApplyReply hash check ledger offers given reply
    × GivenBy (Some contents) (reads_of reply.steps) given

-- A crash comes at a moment of a run of `apply` that has this reply; `seen` is what had been begun then.
pub record ApplyCrash (hash : Hash) (check : Check) (ledger offers : Word) (before : List ℕ → Content)
    (reply : Reply) (begun seen : List Write) (left : List ℕ → Content) : Type 0 where
  pub is_reply : ApplyFor hash check ledger offers before reply
  pub begins : IsMoment (writes_of reply.steps) begun
  pub comes : IsMoment begun seen
  pub leaves : (name : List ℕ) → MayLeave name (before name) seen (left name)

-- ---- laws

pub record GrowthLaws (hash : Hash) (check : Check) : Type 0 where
  -- where the run is done, the ledger grows by exactly the accepted blocks
  pub grows :
      (ledger offers : Word) (given : Given) (reply : Reply)
      → ApplyReply hash check ledger offers given reply
      → reply.status ≡ 0
      → Grows hash check ledger (given 0) (given 1) reply
  pub grows_for :
      (ledger offers : Word) (contents : List ℕ → Content) (reply : Reply)
      → ApplyFor hash check ledger offers contents reply
      → reply.status ≡ 0
      → Grows hash check ledger (contents ledger) (contents offers) reply
  -- and else nothing is written
  pub stays :
      (ledger offers : Word) (given : Given) (reply : Reply)
      → ApplyReply hash check ledger offers given reply
      → reply.status ≢ 0
      → writes_of reply.steps ≡ []
  -- what the files hold at the end
  pub ends :
      (ledger : Word) (added : List Block) (before : List ℕ → Content) (after : Option (List ℕ → Content))
      → GoesOn (appends ledger added) (Some before) after
      → IsSomeAnd after (EndsGrown ledger added before)

pub record CrashLaws (hash : Hash) (check : Check) : Type 0 where
  -- a crash in a run whose files are read leaves a prefix of what the run would write
  pub torn :
      (ledger offers : Word) (before left : List ℕ → Content) (reply : Reply) (begun seen : List Write)
      → ApplyCrash hash check ledger offers before reply begun seen left
      → (grows : Grows hash check ledger (before ledger) (before offers) reply)
      → LeavesFront (bytes_in (before ledger)) grows.added (done_of seen) (left ledger)
  -- one in a run that ends at a file leaves the ledger as it was
  pub stays :
      (ledger offers : Word) (before left : List ℕ → Content) (reply : Reply) (begun seen : List Write)
      → ApplyCrash hash check ledger offers before reply begun seen left
      → reply.status ≢ 0
      → left ledger ≡ before ledger
  -- and every other file is as it was, in every run
  pub others :
      (ledger offers : Word) (before left : List ℕ → Content) (reply : Reply) (begun seen : List Write)
      → ApplyCrash hash check ledger offers before reply begun seen left
      → (name : List ℕ)
      → bytes_eq name ledger ≡ false
      → left name ≡ before name
