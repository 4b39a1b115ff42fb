-- A page: which fields it has, and which values of them it is.
use Rattle.std.specs.Prelude.{ℕ, zero, suc, List, map, Some, Ok}
use Rattle.wire.specs.Places.{Place, Reading, ◌>>=◌, mapped, then_at, kind_at, many_at, frame_at}
use Rattle.wire.specs.Layout.{Layout, Amount, Text, Then, Many, Kinds, Frame, Nothing, or_else, only, Value}
use Rattle.wire.specs.Layout.{spelling, Fits, read_at}
use Rattle.wire.specs.Records.{both_of}
use Rattle.trials.specs.declared.page.Note.{Note}
use Rattle.trials.specs.declared.page.Entry.{Entry}
use Rattle.trials.specs.declared.page.Page.{Page}

-- ---- notes

abbrev pub note_layout : Layout
note_layout = Then (Amount 1000) (Text 16)

abbrev pub note_parts : Note → Value note_layout
note_parts note = (note.amount, note.text)

abbrev pub note_made : Value note_layout → Note
note_made v = record { amount = v.0; text = v.1 }

abbrev pub NoteFits : Note → Type 0
NoteFits note = Fits note_layout (note_parts note)

abbrev pub note_spelling : Note → List ℕ
note_spelling note = spelling note_layout (note_parts note)

abbrev pub note_at : Place → Reading Note
note_at place = mapped note_made (read_at note_layout place)

-- ---- entries

abbrev pub entry_kinds : ℕ → Layout
entry_kinds = or_else Nothing (only note_layout)

abbrev pub entry_layout : Layout
entry_layout = Kinds 2 entry_kinds

abbrev pub entry_parts : Entry → Value entry_layout
entry_parts Entry.Mark = (0, tt)
entry_parts (Entry.Note note) = (1, note_parts note)

abbrev pub entry_of : (k : ℕ) → Value (entry_kinds k) → Entry
entry_of zero v = Entry.Mark
entry_of (suc k) v = Entry.Note (note_made v)

abbrev pub entry_made : Value entry_layout → Entry
entry_made v = entry_of v.0 v.1

abbrev pub EntryFits : Entry → Type 0
EntryFits entry = Fits entry_layout (entry_parts entry)

abbrev pub entry_spelling : Entry → List ℕ
entry_spelling entry = spelling entry_layout (entry_parts entry)

abbrev pub entry_behind : ℕ → Place → Reading Entry
entry_behind zero place = Ok (Entry.Mark, place)
entry_behind (suc k) place = mapped Entry.Note (note_at place)

abbrev pub entry_at : Place → Reading Entry
entry_at place = kind_at 2 place >>= λ k. entry_behind k.0 k.1

-- ---- pages

abbrev pub page_layout : Layout
page_layout = Then (Many 4 (Some 40) entry_layout) (Frame 100 note_layout)

abbrev pub page_parts : Page → Value page_layout
page_parts page = (map entry_parts page.entries, note_parts page.last)

abbrev pub page_of : List Entry × Note → Page
page_of v = record { entries = v.0; last = v.1 }

abbrev pub page_made : Value page_layout → Page
page_made v = page_of (both_of (map entry_made) note_made v)

abbrev pub PageFits : Page → Type 0
PageFits page = Fits page_layout (page_parts page)

abbrev pub page_spelling : Page → List ℕ
page_spelling page = spelling page_layout (page_parts page)

abbrev pub page_at : Place → Reading Page
page_at place = mapped page_of (then_at (many_at 4 (Some 40) entry_at) (frame_at 100 note_at) place)
