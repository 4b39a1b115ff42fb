-- How a vote and a book are spelled: a vote as its height and its id, a book as its last vote, or as nothing.
use Rattle.std.specs.Prelude.{◌≢◌, ℕ, List, [], Option, Some, None}
use Rattle.wire.specs.Spelling.{greatest}
use Rattle.wire.specs.Places.{Place, Reading, mapped}
use Rattle.wire.specs.Layout.{Layout, Number, Id, Then, Value, spelling, Fits, read_at}
use Rattle.wire.specs.FirstFault.{FirstFault, WholeFault}
use Rattle.wire.specs.declared.fault.DataKind.{DataKind}
use Rattle.vote_book.specs.declared.ballot.Ballot.{Ballot}

abbrev pub ballot_layout : Layout
ballot_layout = Then (Number greatest) Id

abbrev pub ballot_parts : Ballot → Value ballot_layout
ballot_parts ballot = (ballot.height, ballot.id)

abbrev pub ballot_made : Value ballot_layout → Ballot
ballot_made v = record { height = v.0; id = v.1 }

-- within the limits of its spelling
abbrev pub BallotFits : Ballot → Type 0
BallotFits ballot = Fits ballot_layout (ballot_parts ballot)

abbrev pub ballot_spelling : Ballot → List ℕ
ballot_spelling ballot = spelling ballot_layout (ballot_parts ballot)

abbrev pub ballot_at : Place → Reading Ballot
ballot_at place = mapped ballot_made (read_at ballot_layout place)

-- ---- books

-- the last vote, where there is one
abbrev pub Kept : Type 0
Kept = Option Ballot

abbrev pub BookFits : Kept → Type 0
BookFits None = Unit {0}
BookFits (Some last) = BallotFits last

abbrev pub book_spelling : Kept → List ℕ
book_spelling None = []
book_spelling (Some last) = ballot_spelling last

-- The first fault of bytes that spell no book: it is that of bytes which should all be one vote. No bytes are a book.
abbrev pub BookFault : List ℕ → ℕ → DataKind → Type 0
BookFault bytes at kind =
    (bytes ≢ []) × WholeFault BallotFits ballot_spelling (FirstFault ballot_layout) bytes at kind
