-- What holds of votes.
use Rattle.std.specs.Prelude.{◌≡◌, List, [], ◌∷◌, ◌++◌}
use Rattle.vote_book.specs.declared.ballot.Ballot.{Ballot}
use Rattle.vote_book.specs.declared.book.Vote.{Vote}
use Rattle.vote_book.specs.Spelling.{Kept}
use Rattle.vote_book.specs.Votes.{Answers, kept_after, IsHistory, last_of, IsGiven}

pub record VoteLaws : Type 0 where
  -- to a vote there is an answer, and no two
  pub some : (kept : Kept) (ballot : Ballot) → (answer : Vote) × Answers kept ballot answer
  pub one : (kept : Kept) (ballot : Ballot) (a b : Vote) → Answers kept ballot a → Answers kept ballot b → a ≡ b
  -- The votes that a book gives are a history, whose last vote it keeps.
  pub history : (votes : List Ballot) (ballot : Ballot) (answer : Vote)
      → IsHistory votes
      → Answers (last_of votes) ballot answer
      → IsGiven answer
      → IsHistory (votes ++ ballot ∷ [])
  pub kept : (votes : List Ballot) (ballot : Ballot) (answer : Vote)
      → Answers (last_of votes) ballot answer
      → IsGiven answer
      → last_of (votes ++ ballot ∷ []) ≡ kept_after (last_of votes) ballot answer
