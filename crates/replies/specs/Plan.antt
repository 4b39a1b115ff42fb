-- What a part of a command owes, and how far it came.
use Rattle.std.specs.Prelude.{◌≡◌, ℕ, suc, List, [], ◌∷◌, ◌++◌, Option, Some, None, Result, Ok, Err, IfSome, IsSomeAnd}
use Rattle.std.specs.Prelude.{IsTrue, IsFalse, string_bytes}
use Rattle.outside.specs.Bytes.{HoldsBytes}
use Rattle.outside.specs.Files.{Content}
use Rattle.outside.specs.Files as files
use Rattle.outside.specs.Steps.{Step, Print, is_read}
use Rattle.outside.specs.World.{World, Io}
use Rattle.replies.specs.Steps.{Begun, all_of, Did, IsFront, NotEmpty, ends_in_print, IsUndone, reads_of}
use Rattle.replies.specs.declared.stop.Stop.{Stop}
use Rattle.replies.specs.declared.stop.Stop.TheVariants as stops

-- how a part of a command ends after its last step
pub data End : Type 0 where
  Done : End
  -- a refusal with this line, which is still to be printed
  Refused : (line : List ℕ) → End
  -- the last step reads a file that is not there
  Missing : End

-- steps in order, and how they end
pub record Plan : Type 0 where
  pub steps : List Step
  pub end : End

abbrev pub done : List Step → Plan
done steps = record { steps = steps; end = Done }

abbrev pub refuse : List ℕ → Plan
refuse line = record { steps = []; end = Refused line }

-- the steps of a reply that ends so: a refusal prints its line
abbrev pub steps_with : List Step → End → List Step
steps_with steps Done = steps
steps_with steps (Refused line) = steps ++ Print line ∷ []
steps_with steps Missing = steps

-- steps before a plan
abbrev pub behind : List Step → Plan → Plan
behind steps plan = record { steps = steps ++ plan.steps; end = plan.end }

-- ---- what files hold

-- what the files hold, by the number of the read that asks for it, from 0
abbrev pub Given : Type 0
Given = ℕ → Content

-- what the reads after the first are given
abbrev pub later : Given → Given
later given = λ n. given (suc n)

-- each is a list of bytes, or that the file is missing
abbrev pub AreBytesGiven : Given → Type 0
AreBytesGiven given = (n : ℕ) → HoldsBytes (given n)

-- what the files say that they hold is bytes
abbrev pub TellsBytes : World → Type 0
TellsBytes w = (of : List ℕ → Content) (name : List ℕ) → w.contents ≡ Some of → HoldsBytes (of name)

-- what is given to these reads, in order, is what the files hold, where they say it
abbrev pub GivenBy : Option (List ℕ → Content) → List files.Read → Given → Type 0
GivenBy contents [] given = Unit {0}
GivenBy contents (read ∷ reads) given =
    IfSome contents (λ of. given 0 ≡ of read.name) × GivenBy contents reads (later given)

-- ---- what was done

-- what stopped a part that ended so, if it stopped
abbrev pub stop_of : {T : Type 0} → Result T Stop → Option Stop
stop_of (Ok x) = None
stop_of (Err stop) = Some stop

-- What was begun of a plan: all, where the part ended by itself or refused; else some, of which the last perhaps
-- failed. Where memory ran out no step failed, and a print that ends the reply is still to be done.
abbrev pub Ends : Plan → Option Stop → Begun → Type 0
Ends plan None begun = (plan.end ≡ Done) × (begun ≡ all_of plan.steps)
Ends plan (Some (stops.Refused line)) begun = (plan.end ≡ Refused (string_bytes line)) × (begun ≡ all_of plan.steps)
Ends plan (Some stops.ReadFault) begun = IsSomeAnd begun.failed (λ step. IsTrue (is_read step))
Ends plan (Some stops.WriteFault) begun = IsSomeAnd begun.failed (λ step. IsFalse (is_read step))
Ends plan (Some stops.NoMemory) begun =
    (begun.failed ≡ None) × IsUndone (steps_with plan.steps plan.end) begun.done

-- A part did a prefix of the plan, all of it where it ended by itself, and nothing else.
pub record Went (plan : Plan) (before after : Io) (stop : Option Stop) : Type 0 where
  pub begun : Begun
  pub front : IsFront plan.steps begun
  pub did : Did begun before.world after.world
  pub ends : Ends plan stop begun
  pub refs : after.refs ≡ before.refs

abbrev pub Does : {T : Type 0} → Plan → Io → Io → Result T Stop → Type 0
Does plan before after result = Went plan before after (stop_of result)

-- What stopped a plan that comes after these steps may stop both together: where they end in a print, the plan has a
-- step.
abbrev pub Onward : List Step → Plan → Option Stop → Type 0
Onward steps plan None = Unit {0}
Onward steps plan (Some stop) = IsTrue (ends_in_print steps) → NotEmpty (steps_with plan.steps plan.end)

-- There is a plan of the model, for what the files hold, that a part did a prefix of.
pub record WentBy (model : Given → Plan → Type 0) (before after : Io) (stop : Option Stop) : Type 0 where
  pub given : Given
  pub plan : Plan
  pub is_plan : model given plan
  pub agrees : GivenBy before.world.contents (reads_of plan.steps) given
  pub went : Went plan before after stop

abbrev pub Follows : {T : Type 0} → (Given → Plan → Type 0) → Io → Io → Result T Stop → Type 0
Follows model before after result = WentBy model before after (stop_of result)
