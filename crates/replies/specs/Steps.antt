-- What a call begins on the outside, one step after the other.
use Rattle.std.specs.Prelude.{◌≡◌, ℕ, suc, Bool, true, false, List, [], ◌∷◌, ◌++◌, Option, Some, None, IsTrue}
use Rattle.std.specs.Prelude.{option_to_list}
use Rattle.outside.specs.Files as files
use Rattle.outside.specs.Steps.{Step, Read, Write, Print, WasDone, HasFailed}
use Rattle.outside.specs.World.{World}

-- these steps were done, and then perhaps one failed
pub record Begun : Type 0 where
  pub done : List Step
  pub failed : Option Step

abbrev pub all_of : List Step → Begun
all_of steps = record { done = steps; failed = None }

-- each was done, the first of them first
abbrev pub AllDone : List Step → World → World → Type 0
AllDone [] old new = new ≡ old
AllDone (step ∷ steps) old new = (mid : World) × WasDone step old mid × AllDone steps mid new

abbrev pub ThenFailed : Option Step → World → World → Type 0
ThenFailed None old new = new ≡ old
ThenFailed (Some step) old new = HasFailed step old new

-- This was begun from one moment to another, and nothing else was done.
pub record Did (begun : Begun) (before after : World) : Type 0 where
  pub mid : World
  pub done : AllDone begun.done before mid
  pub failed : ThenFailed begun.failed mid after

-- What was begun is a prefix of these steps. After a step that failed none is begun.
abbrev pub IsFront : List Step → Begun → Type 0
IsFront steps begun = (rest : List Step) × (steps ≡ begun.done ++ (option_to_list begun.failed ++ rest))

-- ---- what is left to do

abbrev pub is_print : Step → Bool
is_print (Read name most) = false
is_print (Write kind name bytes) = false
is_print (Print text) = true

-- the last of these steps is a print; where there is none, so it is said
abbrev pub last_prints : Bool → List Step → Bool
last_prints so [] = so
last_prints so (step ∷ steps) = last_prints (is_print step) steps

abbrev pub ends_in_print : List Step → Bool
ends_in_print steps = last_prints false steps

-- there is a step
abbrev pub NotEmpty : List Step → Type 0
NotEmpty steps = (step : Step) × (rest : List Step) × (steps ≡ step ∷ rest)

-- these are the first of the steps, and another comes after them
abbrev pub HasMore : List Step → List Step → Type 0
HasMore steps done = (step : Step) × (rest : List Step) × (steps ≡ done ++ step ∷ rest)

-- Where the last step is a print, not all is done.
abbrev pub IsUndone : List Step → List Step → Type 0
IsUndone steps done = IsTrue (ends_in_print steps) → HasMore steps done

-- ---- what steps come to

-- a printed line, and how many writes to files come before it
pub record Line : Type 0 where
  pub text : List ℕ
  pub after : ℕ

-- the printed lines, where so many writes come before the first of the steps
abbrev pub lines_after : ℕ → List Step → List Line
lines_after n [] = []
lines_after n (Read name most ∷ steps) = lines_after n steps
lines_after n (Write kind name bytes ∷ steps) = lines_after (suc n) steps
lines_after n (Print text ∷ steps) = record { text = text; after = n } ∷ lines_after n steps

abbrev pub lines_of : List Step → List Line
lines_of steps = lines_after 0 steps

-- the reads
abbrev pub reads_of : List Step → List files.Read
reads_of [] = []
reads_of (Read name most ∷ steps) = record { name = name; most = most } ∷ reads_of steps
reads_of (Write kind name bytes ∷ steps) = reads_of steps
reads_of (Print text ∷ steps) = reads_of steps

-- the appends and replaces, each answered Ok
abbrev pub writes_of : List Step → List files.Write
writes_of [] = []
writes_of (Read name most ∷ steps) = writes_of steps
writes_of (Write kind name bytes ∷ steps) = files.write_of kind name bytes true ∷ writes_of steps
writes_of (Print text ∷ steps) = writes_of steps

-- the printed bytes
abbrev pub printed_of : List Step → List ℕ
printed_of [] = []
printed_of (Read name most ∷ steps) = printed_of steps
printed_of (Write kind name bytes ∷ steps) = printed_of steps
printed_of (Print text ∷ steps) = text ++ printed_of steps
