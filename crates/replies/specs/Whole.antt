-- What a call comes to where nothing failed.
use Rattle.std.specs.Prelude.{◌≡◌, ℕ}
use Rattle.outside.specs.Fault.{Rose}
use Rattle.outside.specs.World.{World}
use Rattle.replies.specs.Reply.{Reply}
use Rattle.replies.specs.Steps.{all_of, Did}

-- no call on the files or on the sink failed
pub record NoneFailed (before after : World) : Type 0 where
  pub reads : ¬ Rose before.read_faults after.read_faults
  pub writes : ¬ Rose before.write_faults after.write_faults
  pub sink : ¬ Rose before.sink_faults after.sink_faults

-- the status is that of the reply, and its steps were all done, in order, and nothing else
pub record IsWhole (reply : Reply) (before after : World) (status : ℕ) : Type 0 where
  pub status_is : status ≡ reply.status
  pub did : Did (all_of reply.steps) before after
