-- How a call ends, after the plan of its command.
use Rattle.std.specs.Prelude.{◌≡◌, ℕ, None, IsSomeAnd, IsTrue, IsFalse}
use Rattle.outside.specs.Steps.{is_read}
use Rattle.outside.specs.World.{Io}
use Rattle.replies.specs.Answer.{HasStatus}
use Rattle.replies.specs.Plan.{Given, GivenBy}
use Rattle.replies.specs.Reply.{Reply}
use Rattle.replies.specs.Steps.{Begun, Did, IsFront, IsUndone, reads_of}
use Rattle.replies.specs.declared.stop.Stop.{Stop}
use Rattle.replies.specs.declared.stop.Stop.TheVariants as stops

-- What was begun of a reply where a call stopped for this: some steps, of which the last perhaps failed. It stops for
-- no refusal, whose line is a step of the reply.
abbrev pub Stops : Stop → Reply → Begun → Type 0
Stops (stops.Refused line) reply begun = ⊥
Stops stops.ReadFault reply begun = IsSomeAnd begun.failed (λ step. IsTrue (is_read step))
Stops stops.WriteFault reply begun = IsSomeAnd begun.failed (λ step. IsFalse (is_read step))
Stops stops.NoMemory reply begun = (begun.failed ≡ None) × IsUndone reply.steps begun.done

-- The call did some first steps of the reply, by its status all of them or some, and nothing else.
pub record Ended (reply : Reply) (before after : Io) (status : ℕ) : Type 0 where
  pub begun : Begun
  pub front : IsFront reply.steps begun
  pub did : Did begun before.world after.world
  pub has_status : HasStatus reply begun status
  pub refs : after.refs ≡ before.refs

-- There is a reply of the model, for what the files hold, and the call ended so.
pub record Concludes (model : Given → Reply → Type 0) (before after : Io) (status : ℕ) : Type 0 where
  pub given : Given
  pub reply : Reply
  pub is_reply : model given reply
  pub agrees : GivenBy before.world.contents (reads_of reply.steps) given
  pub ended : Ended reply before after status
