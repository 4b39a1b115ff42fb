-- Laws of plans and of replies.
use Rattle.std.specs.Prelude.{◌≡◌, ℕ, List, [], ◌∷◌, ◌++◌, Option, Some, None}
use Rattle.outside.specs.Steps.{Step, Read}
use Rattle.outside.specs.World.{World, Io}
use Rattle.replies.specs.Answer.{HasStatus, GoesOn, Tells, HasCauses}
use Rattle.replies.specs.Plan.{End, Done, Plan, behind, Went, Onward}
use Rattle.replies.specs.Reply.{Reply, ended}
use Rattle.replies.specs.Steps.{Begun, all_of, Did, IsFront, reads_of, writes_of}
use Rattle.replies.specs.declared.stop.Stop.{Stop}

pub record PlanLaws : Type 0 where
  -- all of the first plan, and then some first steps of the second
  pub then :
      (p q : Plan) (a b c : Io) (stop : Option Stop)
      → Onward p.steps q stop
      → Went p a b None
      → Went q b c stop
      → Went (behind p.steps q) a c stop
  -- the first alone, which stopped
  pub cut :
      (p q : Plan) (a b : Io) (stop : Stop)
      → p.end ≡ Done
      → Went p a b (Some stop)
      → Went (behind p.steps q) a b (Some stop)
  -- a read that was done leaves what the files hold
  pub keeps :
      (name : List ℕ) (most : ℕ) (end : End) (a b : Io)
      → Went (record { steps = Read name most ∷ []; end = end }) a b None
      → b.world.contents ≡ a.world.contents

pub record StepLaws : Type 0 where
  pub writes_both : (xs ys : List Step) → writes_of (xs ++ ys) ≡ writes_of xs ++ writes_of ys
  -- a refusal's line reads nothing
  pub reads_ended : (steps : List Step) (end : End) → reads_of (ended steps end).steps ≡ reads_of steps
  -- what reads give goes on by the writes of steps that were all done
  pub goes_on :
      (steps : List Step) (a b : World)
      → Did (all_of steps) a b
      → GoesOn (writes_of steps) a.contents b.contents

pub record TellLaws : Type 0 where
  pub tells :
      (reply : Reply) (a b : World) (status : ℕ) (begun : Begun)
      → IsFront reply.steps begun
      → Did begun a b
      → HasStatus reply begun status
      → Tells reply a b status
  pub causes :
      (reply : Reply) (a b : World) (status : ℕ) (begun : Begun)
      → Did begun a b
      → HasStatus reply begun status
      → HasCauses a b status
