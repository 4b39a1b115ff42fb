-- Entries and pages are the values of their layouts.
use Rattle.std.proofs.Common.{◌≡◌, ℕ, zero, suc, ◌<◌, List, [], ◌∷◌, Some, refl, sym, ap, ◌∙◌, arith}
use Rattle.std.specs.Prelude.{map}
use Rattle.std.specs.List.{AllByRecursion}
use Rattle.wire.specs.Places.{Place, Reading, mapped, many_at, frame_at}
use Rattle.wire.specs.Layout.{Value, Fits, read_at}
use Rattle.wire.specs.FirstFault.{FirstFault}
use Rattle.wire.specs.Readers.{IsReader}
use Rattle.wire.specs.LayoutLaws.{LayoutLaws}
use Rattle.wire.specs.Records.{record_reader, same_reader, mapped-mapped, both_of, then_same, many_same, frame_same, kinds_same}
use Rattle.trials.specs.declared.page.Entry.{Entry}
use Rattle.trials.specs.Page.{note_layout, note_made, note_at, entry_kinds, entry_layout, entry_parts, entry_of, entry_made, entry_behind, entry_at, EntryFits, entry_spelling, page_layout, page_parts, page_of, page_made, page_at, PageFits, page_spelling}

-- ---- entries

entry_again : (entry : Entry) → entry_made (entry_parts entry) ≡ entry
entry_again Entry.Mark = refl
entry_again (Entry.Note note) = refl

entry_kept : (k : ℕ) (v : Value (entry_kinds k)) → k < 2 → entry_parts (entry_of k v) ≡ (k, v)
entry_kept zero v h = refl
entry_kept (suc zero) v h = refl
entry_kept (suc (suc k)) v h = absurd (omega arith)

kind_same : (k : ℕ) (q : Place) → mapped (entry_of k) (read_at (entry_kinds k) q) ≡ entry_behind k q
kind_same zero q = refl
kind_same (suc k) q = sym (mapped-mapped note_made Entry.Note (read_at note_layout q))

entry_same : (p : Place) → mapped entry_made (read_at entry_layout p) ≡ entry_at p
entry_same p = kinds_same (λ k. read_at (entry_kinds k)) entry_of entry_behind kind_same 2 p

pub entry_reader : LayoutLaws → IsReader EntryFits entry_spelling (FirstFault entry_layout) entry_at
entry_reader laws =
    same_reader _ _ _ _ _ entry_same
    (record_reader entry_layout entry_made entry_parts (record { again = λ entry h. entry_again entry; kept = λ v h. entry_kept v.0 v.1 h.0 }) (laws.reader entry_layout))

-- ---- pages

entries_again : (xs : List Entry) → map entry_made (map entry_parts xs) ≡ xs
entries_again [] = refl
entries_again (x ∷ xs) = ap (λ (e : Entry). e ∷ map entry_made (map entry_parts xs)) (entry_again x) ∙ ap (λ (rest : List Entry). x ∷ rest) (entries_again xs)

entries_kept : (vs : List (Value entry_layout)) → AllByRecursion (Fits entry_layout) vs → map entry_parts (map entry_made vs) ≡ vs
entries_kept [] h = refl
entries_kept (v ∷ vs) h =
    ap (λ (e : Value entry_layout). e ∷ map entry_parts (map entry_made vs)) (entry_kept v.0 v.1 h.0.0)
    ∙ ap (λ (rest : List (Value entry_layout)). v ∷ rest) (entries_kept vs h.1)

page_same : (p : Place) → mapped page_made (read_at page_layout p) ≡ page_at p
page_same p =
    sym (mapped-mapped (both_of (map entry_made) note_made) page_of (read_at page_layout p))
    ∙ ap (λ (r : Reading (List Entry × _)). mapped page_of r)
    (then_same (map entry_made) note_made (frame_at 100 (read_at note_layout)) (frame_at 100 note_at) (frame_same note_made (read_at note_layout) note_at (λ q. refl) 100)
    (many_at 4 (Some 40) (read_at entry_layout)) (many_at 4 (Some 40) entry_at) (many_same entry_made (Some 40) (read_at entry_layout) entry_at entry_same 4)
    p)

pub page_reader : LayoutLaws → IsReader PageFits page_spelling (FirstFault page_layout) page_at
page_reader laws =
    same_reader _ _ _ _ _ page_same
    (record_reader page_layout page_made page_parts
    (record {
      again = λ page h. ap (λ (xs : List Entry). page_of (xs, page.last)) (entries_again page.entries);
      kept = λ v h. ap (λ (vs : List (Value entry_layout)). (vs, v.1)) (entries_kept v.0 h.0.1.each);
    })
    (laws.reader page_layout))
