-- What a crash may leave, from the contents at the start of a run and the writes begun in it.
use Rattle.std.specs.Prelude.{◌≡◌, ◌⊎◌, ◌≤◌, ℕ, Bool, true, false, List, [], ◌∷◌, ◌++◌, length, Some, MatchBool}
use Rattle.std.specs.Prelude.{bytes_eq}
use Rattle.outside.specs.Files.{Content, Write, WriteKind, Append, Replace, IsAppended, ReadsAt}

-- What a crash leaves of the written name after a write, by what a read gave before it and gives after it: after one
-- that was done, what a read gives; after one that failed or was cut short, old bytes and then any that are no more
-- than those to be appended, or the old or the new content of a replace.
abbrev pub LeftAfter : WriteKind → Bool → List ℕ → Content → Content → Content → Type 0
LeftAfter kind true bytes old new left = left ≡ new
LeftAfter Append false bytes old new left = (torn : List ℕ) × (length torn ≤ length bytes) × IsAppended old torn left
LeftAfter Replace false bytes old new left = (left ≡ old) ⊎ (left ≡ Some bytes)

-- of one name: what a read gives, and what a crash leaves
pub record State : Type 0 where
  pub read : Content
  pub left : Content

-- how one write leads on
abbrev pub StepAt : List ℕ → Write → State → State → Type 0
StepAt name w old new =
    ReadsAt w name old.read new.read
    × MatchBool (bytes_eq name w.name) (LeftAfter w.kind w.done w.bytes old.read new.read new.left)
    (new.left ≡ old.left)

-- how several lead on, the first of them first
abbrev pub Leads : List ℕ → List Write → State → State → Type 0
Leads name [] old new = new ≡ old
Leads name (w ∷ ws) old new = (mid : State) × StepAt name w old mid × Leads name ws mid new

-- what a crash may leave of a name once these writes have been begun, the last perhaps cut short
abbrev pub MayLeave : List ℕ → Content → List Write → Content → Type 0
MayLeave name start ws left =
    (read : Content) × Leads name ws (record { read = start; left = start }) (record { read = read; left = left })

-- a write that has no answer yet, which is as good as one that failed
abbrev pub cut_short : Write → Write
cut_short w = record w { done = false }

-- what has been begun at some moment of a run whose writes are ws: some of them in order, the last perhaps cut short
abbrev pub IsMoment : List Write → List Write → Type 0
IsMoment ws seen =
    ((rest : List Write) × (ws ≡ seen ++ rest))
    ⊎ ((before : List Write)
    × (w : Write)
    × (rest : List Write)
    × (ws ≡ before ++ w ∷ rest)
    × (seen ≡ before ++ cut_short w ∷ []))

-- the contents that a crash at some moment of a run may leave
abbrev pub CrashLeaves : (List ℕ → Content) → List Write → (List ℕ → Content) → Type 0
CrashLeaves start ws left =
    (seen : List Write) × IsMoment ws seen × ((name : List ℕ) → MayLeave name (start name) seen (left name))
