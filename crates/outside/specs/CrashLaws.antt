-- Laws of what a crash may leave.
use Rattle.std.specs.Prelude.{◌≡◌, ◌↔◌, ◌⊎◌, ℕ, true, false, List, [], ◌++◌, All, bytes_eq}
use Rattle.outside.specs.Files.{Content, Write}
use Rattle.outside.specs.Crash.{State, Leads, MayLeave, IsMoment}

-- Writes lead on as their two parts do, one after the other.
abbrev pub RunsJoin : Type 0
RunsJoin =
    (name : List ℕ) (ws vs : List Write) (old new : State)
    → Leads name (ws ++ vs) old new ↔ ((mid : State) × Leads name ws old mid × Leads name vs mid new)

-- After writes that were all done, a crash leaves what a read gives, where it did so before them.
abbrev pub DoneIsKept : Type 0
DoneIsKept =
    (name : List ℕ) (ws : List Write) (old new : State)
    → All (λ w. w.done ≡ true) ws
    → old.left ≡ old.read
    → Leads name ws old new
    → new.left ≡ new.read

-- Writes of other names change neither what a read gives nor what a crash leaves.
abbrev pub OthersStay : Type 0
OthersStay =
    (name : List ℕ) (ws : List Write) (old new : State)
    → All (λ w. bytes_eq name w.name ≡ false) ws
    → Leads name ws old new ↔ (new ≡ old)

-- Before any write a crash leaves what a read gives.
abbrev pub StartsKept : Type 0
StartsKept = (name : List ℕ) (start left : Content) → MayLeave name start [] left ↔ (left ≡ start)

-- A moment of two parts is one of the first, or the whole first part and then one of the second.
abbrev pub MomentsJoin : Type 0
MomentsJoin =
    (ws vs seen : List Write)
    → IsMoment (ws ++ vs) seen
    ↔ (IsMoment ws seen ⊎ ((later : List Write) × IsMoment vs later × (seen ≡ ws ++ later)))
