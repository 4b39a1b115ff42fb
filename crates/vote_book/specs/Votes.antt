-- What a book answers to a vote, and what it keeps then.
use Rattle.std.specs.Prelude.{◌≡◌, ◌≢◌, ◌⊎◌, ℕ, ◌-◌, ◌<◌, ◌≤◌, List, length, slice_get, Some, None}
use Rattle.vote_book.specs.declared.ballot.Ballot.{Ballot}
use Rattle.vote_book.specs.declared.book.Vote.{Vote}
use Rattle.vote_book.specs.declared.book.Vote.TheVariants.{New, Same, Refused}
use Rattle.vote_book.specs.Spelling.{Kept}

-- no vote is kept, or one at a smaller height
abbrev pub IsLater : Kept → ℕ → Type 0
IsLater None height = Unit {0}
IsLater (Some last) height = last.height < height

-- the kept vote is at a greater height, or at this one with another id
abbrev pub IsInTheWay : (last ballot : Ballot) → Type 0
IsInTheWay last ballot = (ballot.height < last.height) ⊎ ((ballot.height ≡ last.height) × (ballot.id ≢ last.id))

-- the one answer to a vote where this is kept
abbrev pub Answers : Kept → Ballot → Vote → Type 0
Answers kept ballot New = IsLater kept ballot.height
Answers kept ballot Same = kept ≡ Some ballot
Answers kept ballot (Refused height id) =
    (last : Ballot) × (kept ≡ Some last) × (height ≡ last.height) × (id ≡ last.id) × IsInTheWay last ballot

-- what is kept after that answer
abbrev pub kept_after : Kept → Ballot → Vote → Kept
kept_after kept ballot New = Some ballot
kept_after kept ballot Same = kept
kept_after kept ballot (Refused height id) = kept

-- ---- histories

-- the votes of a signer, in order: heights never fall, and equal heights have equal ids
abbrev pub IsHistory : List Ballot → Type 0
IsHistory votes =
    (i j : ℕ) (a b : Ballot)
    → i ≤ j
    → slice_get votes i ≡ Some a
    → slice_get votes j ≡ Some b
    → (a.height ≤ b.height) × (a.height ≡ b.height → a.id ≡ b.id)

-- the last of these votes, where there is one
abbrev pub last_of : List Ballot → Kept
last_of votes = slice_get votes (length votes - 1)

-- the vote may be given: it is new, or the one that is kept
abbrev pub IsGiven : Vote → Type 0
IsGiven New = Unit {0}
IsGiven Same = Unit {0}
IsGiven (Refused height id) = ⊥
