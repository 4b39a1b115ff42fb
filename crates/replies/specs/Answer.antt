-- What a call did, against the model's reply.
use Rattle.std.specs.Prelude.{◌≡◌, ◌≢◌, ◌⊎◌, ℕ, suc, ◌<◌, ◌≤◌, List, [], ◌∷◌, ◌++◌, take, if◌then◌else◌, Option}
use Rattle.std.specs.Prelude.{None, IsSomeAnd, IsTrue, IsFalse}
use Rattle.outside.specs.Fault.{Rose}
use Rattle.outside.specs.Sink.{output_with}
use Rattle.outside.specs.Files.{Content, Read, Write, AllRead}
use Rattle.outside.specs.Crash.{IsMoment}
use Rattle.outside.specs.Steps.{is_read, joined}
use Rattle.outside.specs.World.{World}
use Rattle.replies.specs.Reply.{Reply}
use Rattle.replies.specs.Steps.{Begun, all_of, IsUndone, Line, lines_of, reads_of, writes_of, printed_of}

-- What was begun of a reply, by the status: all of it, where that is the reply's, 0, 1 or 2; some first steps of which
-- the last, a read, failed; some of which the last, a write or a print, failed; or, where memory ran out, some of which
-- none failed and that leave the reply's last print to be done.
pub data HasStatus (reply : Reply) (begun : Begun) (status : ℕ) : Type 0 where
  whole : status ≡ reply.status → reply.status ≤ 2 → begun ≡ all_of reply.steps → HasStatus reply begun status
  read_fault : status ≡ 3 → IsSomeAnd begun.failed (λ step. IsTrue (is_read step)) → HasStatus reply begun status
  write_fault : status ≡ 4 → IsSomeAnd begun.failed (λ step. IsFalse (is_read step)) → HasStatus reply begun status
  no_memory : status ≡ 5 → begun.failed ≡ None → IsUndone reply.steps begun.done → HasStatus reply begun status

-- When a call ends with which status, of those that are no part of the reply.
pub record HasCauses (before after : World) (status : ℕ) : Type 0 where
  pub bound : status ≤ 5
  pub read_fault : status ≡ 3 → Rose before.read_faults after.read_faults
  pub write_fault : status ≡ 4 → Rose before.write_faults after.write_faults ⊎ Rose before.sink_faults after.sink_faults
  -- where a call on the files or the sink failed, the status is 3 or 4
  pub no_fault :
      status ≢ 3
      → status ≢ 4
      → (after.read_faults ≡ before.read_faults)
      × (after.write_faults ≡ before.write_faults)
      × (after.sink_faults ≡ before.sink_faults)

-- ---- the same of bytes, reads and writes

-- how many of these writes were answered Ok
abbrev pub done_of : List Write → ℕ
done_of [] = 0
done_of (w ∷ ws) = if w.done then suc (done_of ws) else done_of ws

-- these bytes are a prefix of the lines, and where a byte of a line is among them, so many writes were done as come
-- before the line
abbrev pub Shown : List Line → ℕ → List ℕ → Type 0
Shown [] done printed = printed ≡ []
Shown (line ∷ lines) done printed =
    (printed ≡ [])
    ⊎ ((line.after ≤ done)
    × (((n : ℕ) × (printed ≡ take n line.text))
    ⊎ ((rest : List ℕ) × (printed ≡ line.text ++ rest) × Shown lines done rest)))

-- what reads give goes on by these writes, where the files say it
abbrev pub GoesOn : List Write → Option (List ℕ → Content) → Option (List ℕ → Content) → Type 0
GoesOn [] old new = new ≡ old
GoesOn (w ∷ ws) old new = (mid : Option (List ℕ → Content)) × AllRead w old mid × GoesOn ws mid new

-- What was printed, read and written goes by a reply: prefixes of it, and all of it where the status is 0, 1 or 2.
pub record Tells (reply : Reply) (before after : World) (status : ℕ) : Type 0 where
  pub printed : List ℕ
  pub reads : List Read
  pub begun : List Write
  pub output : after.output ≡ output_with before.output printed
  pub reads_begun : after.reads ≡ joined before.reads reads
  pub writes_begun : after.writes ≡ joined before.writes begun
  pub contents : GoesOn begun before.contents after.contents
  pub shown : Shown (lines_of reply.steps) (done_of begun) printed
  pub reads_in_order : (rest : List Read) × (reads_of reply.steps ≡ reads ++ rest)
  -- writes in order, the last perhaps failed
  pub writes_in_order : IsMoment (writes_of reply.steps) begun
  pub whole :
      status < 3
      → (status ≡ reply.status)
      × (printed ≡ printed_of reply.steps)
      × (reads ≡ reads_of reply.steps)
      × (begun ≡ writes_of reply.steps)
