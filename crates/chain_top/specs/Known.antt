-- What the crates below say of all values, together. Only contracts of private functions name it.
use Rattle.std.specs.Prelude.{◌≡◌, ℕ, List}
use Rattle.data_model.specs.Files.{BlockFileLaws}
use Rattle.ledger_core.specs.Laws.{RefusalLaws, ChainLaws}
use Rattle.keyed.specs.Functions.{Hash}
use Rattle.ledger_file.specs.Laws.{FewBlocks, LoadLaws}
use Rattle.replies.specs.Laws.{StepLaws, TellLaws}
use Rattle.vm_num.specs.Item.{Item}
use Rattle.keyed.specs.Functions.{Check}
use Rattle.vm_run.specs.declared.context.Context.{Context}
use Rattle.vm_run.specs.Verdict.{HasVerdict}
use Rattle.vm_run.specs.declared.verdict.Verdict.{Verdict}

-- a program has a verdict, and no two
pub record VerdictLaws : Type 0 where
  pub some :
      (context : Context) (check : Check) (program : List ℕ) (args : List Item) (limit : ℕ)
      → (verdict : Verdict) × HasVerdict context check program args limit verdict
  pub one :
      (context : Context) (check : Check) (program : List ℕ) (args : List Item) (limit : ℕ) (a b : Verdict)
      → HasVerdict context check program args limit a
      → HasVerdict context check program args limit b
      → a ≡ b

pub record Known : Type 0 where
  pub steps : StepLaws
  pub tells : TellLaws
  pub files : BlockFileLaws
  pub few : FewBlocks
  pub verdicts : VerdictLaws
  pub refusals : (hash : Hash) (check : Check) → RefusalLaws hash check
  pub chains : (hash : Hash) (check : Check) → ChainLaws hash check
  pub loads : (hash : Hash) (check : Check) → LoadLaws hash check
