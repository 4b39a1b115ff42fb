-- The commands: what each reads, checks, and then does.
use Rattle.std.specs.Prelude.{◌≡◌, ℕ, List, [], ◌∷◌}
use Rattle.data_model.specs.declared.block.Block.{Block}
use Rattle.data_model.specs.Files.{block_frame}
use Rattle.entry_ids.specs.Entry.{header_id}
use Rattle.keyed.specs.Functions.{Hash}
use Rattle.outside.specs.Files.{Replace}
use Rattle.outside.specs.Steps.{Step, Write, Print}
use Rattle.vm_num.specs.Item.{Item}
use Rattle.keyed.specs.Functions.{Check}
use Rattle.vm_run.specs.declared.context.Context.TheVariants.{Nothing}
use Rattle.vm_run.specs.declared.verdict.Verdict.{Verdict}
use Rattle.vm_run.specs.Verdict.{HasVerdict}
use Rattle.vote_book.specs.Quorum.{quorum_of}
use Rattle.command_words.specs.Command.{Command, Vm, Init, Apply, Quorum}
use Rattle.command_lines.specs.Line.{verdict_line, block_line, program_line}
use Rattle.command_lines.specs.Words.{hex_at, hex_all}
use Rattle.replies.specs.Asking.{fit_together}
use Rattle.replies.specs.Recipe.{Recipe, read, own, checked, owe, steps, gives}
use Rattle.chain_top.specs.Choice.{Choice}
use Rattle.chain_top.specs.Formats.{ledger_file, blocks_file}
use Rattle.chain_top.specs.Initial.{initial_block}
use Rattle.chain_top.specs.Offers.{OffersOwe}
use Rattle.word_lines.specs.Word.{Word}

-- the verdict on a program and its arguments, with no context, is printed
abbrev pub VerdictOwed : Check → ℕ → List ℕ → List Item → List Step → Type 0
VerdictOwed check limit program args steps =
    (verdict : Verdict)
    × HasVerdict Nothing check program args limit verdict
    × (steps ≡ Print (verdict_line verdict) ∷ [])

-- `vm LIMIT PROGRAM [ARG]...`
abbrev pub vm : Check → ℕ → Word → List Word → Recipe
vm check limit program args =
    own
    (checked (gives (hex_at 2 program))
    (λ code. checked (gives (hex_all 3 args)) (λ items. owe (VerdictOwed check limit code items))))

-- the ledger is set to one frame, its initial block, which is then reported
abbrev pub init_steps : Hash → Word → Block → List Step
init_steps hash ledger block =
    Write Replace ledger (block_frame block) ∷ Print (block_line 1 (header_id hash block.header)) ∷ []

-- `init LEDGER TIME PROGRAM`
abbrev pub init : Hash → Word → ℕ → Word → Recipe
init hash ledger time program =
    own (checked (gives (hex_at 3 program)) (λ code. steps (init_steps hash ledger (initial_block hash time code))))

-- `apply LEDGER OFFERS`: both files are together within the size of one
abbrev pub apply : Hash → Check → Word → Word → Recipe
apply hash check ledger offers =
    read (ledger_file hash check ledger 1)
    (λ file. read (blocks_file offers 2)
    (λ offered. own
    (checked (gives (fit_together 2 file.size offered.size))
    (λ fits. owe (OffersOwe hash check ledger file.blocks offered.blocks)))))

-- the program of a quorum is printed
abbrev pub quorum_steps : List (List ℕ) → ℕ → List Step
quorum_steps keys m = Print (program_line (quorum_of keys m)) ∷ []

-- `quorum M KEY [KEY]...`
abbrev pub quorum : ℕ → List Word → Recipe
quorum m words = own (checked (gives (hex_all 2 words)) (λ keys. steps (quorum_steps keys m)))

-- No command of today prints from what the compiler chose.
abbrev pub recipe_of : Hash → Check → Choice → Command → Recipe
recipe_of hash check choice (Vm limit program args) = vm check limit program args
recipe_of hash check choice (Init ledger time program) = init hash ledger time program
recipe_of hash check choice (Apply ledger offers) = apply hash check ledger offers
recipe_of hash check choice (Quorum m keys) = quorum m keys
