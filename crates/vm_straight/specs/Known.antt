-- What the crates below promise of all values, as the proofs of this one use it. Only contracts of private functions
-- name it.
use Rattle.std.specs.Prelude.{◌≡◌, ℕ, ◌<◌, ◌≤◌, ◌^◌, Bool, true, List, [], ◌∷◌, ◌++◌, length, Ok}
use Rattle.std.specs.Prelude.{Some, ℤ}
use Rattle.std.specs.Int.{w32, w64, to_le_bytes}
use Rattle.std.specs.Int.RustNames.{FitsSigned}
use Rattle.keyed.specs.Functions.{Check}
use Rattle.vm_num.specs.Item.{Item, num, num_bytes, is_true}
use Rattle.vm_num.specs.Push.{push_of, push_int_of}
use Rattle.vm_code.specs.Instruction.{instruction_at, is_plain, is_jump, plain, jump}
use Rattle.vm_code.specs.Laws.{ReadingLaws}
use Rattle.vm_ops.specs.Results.{truth_item}
use Rattle.vm_run.specs.Pushes.{ReadsPush}
use Rattle.vm_run.specs.declared.context.Context.{Context}
use Rattle.vm_run.specs.Run.{Outcome, Run}
use Rattle.vm_run.specs.Laws.{LineLaws}

pub record Known : Type 0 where
  -- a run has an outcome, and no two
  pub some_outcome : (context : Context) (check : Check) (program : List ℕ) (place : ℕ) (items alt : List Item)
      (limit : ℕ)
      → place ≤ length program
      → (outcome : Outcome) × Run context check program place items alt limit outcome
  pub one_outcome : (context : Context) (check : Check) (program : List ℕ) (place : ℕ) (items alt : List Item)
      (limit : ℕ) (a b : Outcome)
      → Run context check program place items alt limit a
      → Run context check program place items alt limit b
      → a ≡ b
  -- pushes are read back
  pub item_reads : (item before after : List ℕ) → length item < 2 ^ 32
      → ReadsPush (instruction_at (before ++ push_of item ++ after) (length before)) item (length (push_of item))
  pub number_reads : (n : ℤ) (before after : List ℕ)
      → ReadsPush (instruction_at (before ++ push_int_of n ++ after) (length before)) (num_bytes n)
      (length (push_int_of n))
  -- and so are codes with nothing after them, and jumps; an instruction takes a byte at least
  pub code_reads : (code : ℕ) (before after : List ℕ) → is_plain code ≡ true
      → instruction_at (before ++ (code ∷ []) ++ after) (length before) ≡ Ok (plain code)
  pub jump_reads : (code place : ℕ) (before after : List ℕ) → is_jump code ≡ true → place < 2 ^ 32
      → instruction_at (before ++ (code ∷ to_le_bytes w32 place) ++ after) (length before) ≡ Ok (jump code place)
  pub readings : ReadingLaws
  -- numbers are read back
  pub number_back : (n : ℤ) → FitsSigned w64 n → num (num_bytes n) ≡ Some n
  pub number_short : (n : ℤ) → length (num_bytes n) ≤ 8
  pub truth_back : (holds : Bool) → is_true (truth_item holds) ≡ holds
  -- lines of the table
  pub lines : (context : Context) (check : Check) → LineLaws context check
