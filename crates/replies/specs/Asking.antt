-- Models that read a file, or check what was read, and then go on.
use Rattle.std.specs.Prelude.{◌≡◌, ℕ, ◌+◌, ◌<◌, ◌≤◌, List, [], ◌∷◌, length, Some, None, Result, Ok, Err, if◌then◌else◌}
use Rattle.std.specs.Prelude.{IfSome, IfOk, Vec, nat_le}
use Rattle.std.specs.declared.alloc.Global.{Global}
use Rattle.outside.specs.Bytes.{AreBytes, HoldsBytes}
use Rattle.outside.specs.Files.{Content}
use Rattle.outside.specs.Steps.{Read}
use Rattle.outside.specs.World.{Io}
use Rattle.replies.specs.Line.{refused_size}
use Rattle.replies.specs.Plan.{End, Done, Refused, Missing, Plan, refuse, behind, Given, later, AreBytesGiven}
use Rattle.replies.specs.Plan.{GivenBy, Does}
use Rattle.replies.specs.Steps.{reads_of}
use Rattle.replies.specs.declared.stop.Stop.{Stop}

-- the most bytes of a file, and of two files that a command holds together
abbrev pub most_bytes : ℕ
most_bytes = 67108864

-- The file of this name, that the word at this place says, is asked for, of at most so many bytes. Where it is there
-- and not too long, its bytes go on.
pub data asks (name : List ℕ) (most place : ℕ) (next : List ℕ → Given → Plan → Type 0) (given : Given) : Plan → Type 0
  where
    missing : given 0 ≡ None → asks name most place next given (record { steps = Read name most ∷ []; end = Missing })
    too_long :
        (bytes : List ℕ)
        → given 0 ≡ Some bytes
        → most < length bytes
        → asks name most place next given (record { steps = Read name most ∷ []; end = Refused (refused_size place) })
    found :
        (bytes : List ℕ) (plan : Plan)
        → given 0 ≡ Some bytes
        → length bytes ≤ most
        → AreBytes bytes
        → next bytes (later given) plan
        → asks name most place next given (behind (Read name most ∷ []) plan)

-- Something is checked that has a value or is refused by a line. The value goes on.
pub data checks {V : Type 0} (is : Result V (List ℕ) → Type 0) (next : V → Given → Plan → Type 0) (given : Given)
    : Plan → Type 0 where
  refused : {line : List ℕ} → is (Err line) → checks is next given (refuse line)
  goes_on : (value : V) {plan : Plan} → is (Ok value) → next value given plan → checks is next given plan

-- a fault is reported by its line
abbrev pub lined : {V F : Type 0} → (F → List ℕ) → (Result V F → Type 0) → Result V (List ℕ) → Type 0
lined line_of is (Ok value) = is (Ok value)
lined {F = F} line_of is (Err line) = (fault : F) × is (Err fault) × (line ≡ line_of fault)

-- that files of these sizes are together within the size of one, or the line that refuses the one at this place
abbrev pub fit_together : ℕ → ℕ → ℕ → Result (Unit {0}) (List ℕ)
fit_together place first second =
    if nat_le (first + second) most_bytes then Ok tt else Err (refused_size place)

-- ---- what holds of models

-- whatever bytes are given, there is a plan
abbrev pub HasPlan : (Given → Plan → Type 0) → Type 0
HasPlan model = (given : Given) → AreBytesGiven given → (plan : Plan) × model given plan

-- and one alone
abbrev pub OnePlan : (Given → Plan → Type 0) → Type 0
OnePlan model = (given : Given) (p q : Plan) → model given p → model given q → p ≡ q

-- the plan for what files hold by their names
pub record PlanFor (model : Given → Plan → Type 0) (contents : List ℕ → Content) : Type 0 where
  pub given : Given
  pub plan : Plan
  pub is_plan : model given plan
  pub agrees : GivenBy (Some contents) (reads_of plan.steps) given

-- whatever bytes the files hold, there is a plan for them
abbrev pub PlansFor : (Given → Plan → Type 0) → Type 0
PlansFor model = (contents : List ℕ → Content) → ((name : List ℕ) → HoldsBytes (contents name)) → PlanFor model contents

-- and one alone
abbrev pub OnePlanFor : (Given → Plan → Type 0) → Type 0
OnePlanFor model = (contents : List ℕ → Content) (p q : PlanFor model contents) → p.plan ≡ q.plan

-- all four
pub record IsModel (model : Given → Plan → Type 0) : Type 0 where
  pub some : HasPlan model
  pub one : OnePlan model
  pub some_for : PlansFor model
  pub one_for : OnePlanFor model

-- a check has a value or a line, and no two
pub record IsCheck {V : Type 0} (is : Result V (List ℕ) → Type 0) : Type 0 where
  pub some : (r : Result V (List ℕ)) × is r
  pub one : (r s : Result V (List ℕ)) → is r → is s → r ≡ s

-- ---- what parts of a command answered

-- how asking for a file that holds this ends
abbrev pub asked_end : ℕ → ℕ → Content → End
asked_end most place None = Missing
asked_end most place (Some bytes) = if nat_le (length bytes) most then Done else Refused (refused_size place)

-- a file was asked for, and its bytes are what was answered
pub record Asked (name : List ℕ) (most place : ℕ) (before after : Io) (result : Result (Vec ℕ Global) Stop)
    : Type 0 where
  pub content : Content
  pub holds : HoldsBytes content
  pub agrees : IfSome before.world.contents (λ of. content ≡ of name)
  pub does : Does (record { steps = Read name most ∷ []; end = asked_end most place content }) before after result
  pub gives : IfOk result (λ bytes. content ≡ Some bytes.items)
