-- What a write to files in memory does, as every name is read.
use Rattle.std.proofs.Common.{◌≡◌, ℕ, Bool, true, false, cond, List, [], ◌∷◌, take, Some, inl, inr, refl, ap, ◌∙◌}
use Rattle.std.specs.Bool.{MatchBool}
use Rattle.std.specs.Cmp.Lexicographic.{nat_list_cmp_total}
use Rattle.std.specs.Str.{bytes_eq}
use Rattle.std.specs.FinMap as finite
use Rattle.std.proofs.lemmas.Map.Text.{is_eq-slice_cmp}
use Rattle.std.proofs.lemmas.Slice.Eq.{bytes_eq-Decides}
use Rattle.outside.specs.Files.{Content, WriteKind, Append, Replace, ReadsAfter, AllRead, write_of}
use Rattle.outside.specs.MemFiles.{Contents}
use Rattle.outside.specs.MemCalls.{content_after, torn_part, with_part}

-- at the written name after a write that was done
after_done : (kind : WriteKind) (old : Content) (bytes : List ℕ) → ReadsAfter kind true bytes old (Some (content_after kind old bytes))
after_done Append old bytes = refl
after_done Replace old bytes = refl

-- at the written name and at any other
done_at : (kind : WriteKind) (m : Contents) (name bytes q : List ℕ) (b : Bool) → bytes_eq q name ≡ b → MatchBool b (ReadsAfter kind true bytes (finite.get m q) (cond b (Some (content_after kind (finite.get m name) bytes)) (finite.get m q))) (cond b (Some (content_after kind (finite.get m name) bytes)) (finite.get m q) ≡ finite.get m q)
done_at kind m name bytes q true is =
    rw ((bytes_eq-Decides q name).0 is) (after_done kind (finite.get m name) bytes)
done_at kind m name bytes q false is = refl

-- a write that was done
AllRead-done : (kind : WriteKind) (m : Contents) (name bytes : List ℕ) → AllRead (write_of kind name bytes true) (Some (finite.get m)) (Some (finite.get (finite.insert m name (content_after kind (finite.get m name) bytes))))
AllRead-done kind m name bytes = λ q.
    let now = finite.get-insert nat_list_cmp_total m name (content_after kind (finite.get m name) bytes) q ∙ ap (λ b. cond b (Some (content_after kind (finite.get m name) bytes)) (finite.get m q)) (is_eq-slice_cmp q name) in
    rw now (done_at kind m name bytes q (bytes_eq q name) refl)

-- at any name after a write that failed and did nothing
nothing_at : (kind : WriteKind) (bytes : List ℕ) (old : Content) (b : Bool) → MatchBool b (ReadsAfter kind false bytes old old) (old ≡ old)
nothing_at Append bytes old true = (0, inr (refl, refl))
nothing_at Replace bytes old true = inl refl
nothing_at kind bytes old false = refl

-- a write that failed and did nothing
AllRead-nothing : (kind : WriteKind) (f : List ℕ → Content) (name bytes : List ℕ) → AllRead (write_of kind name bytes false) (Some f) (Some f)
AllRead-nothing kind f name bytes = λ q. nothing_at kind bytes (f q) (bytes_eq q name)

-- at any name after an append that failed and left a part
part_at : (b : Bool) (keep : ℕ) (old new : Content) (part bytes : List ℕ) → take keep bytes ≡ part → MatchBool b (ReadsAfter Append true part old new) (new ≡ old) → MatchBool b (ReadsAfter Append false bytes old new) (new ≡ old)
part_at true keep old new part bytes is reads = (keep, inl (rw is reads))
part_at false keep old new part bytes is reads = reads

-- an append that failed
torn_append : (m : Contents) (name bytes : List ℕ) (keep : ℕ) (part : List ℕ) → take keep bytes ≡ part → AllRead (write_of Append name bytes false) (Some (finite.get m)) (Some (finite.get (with_part name part m)))
torn_append m name bytes keep [] is = AllRead-nothing Append (finite.get m) name bytes
torn_append m name bytes keep (b ∷ part) is = λ q.
    part_at (bytes_eq q name) keep (finite.get m q) (finite.get (with_part name (b ∷ part) m) q) (b ∷ part) bytes is (AllRead-done Append m name (b ∷ part) q)

-- a write that failed
AllRead-failed : (kind : WriteKind) (keep : ℕ) (m : Contents) (name bytes : List ℕ) → AllRead (write_of kind name bytes false) (Some (finite.get m)) (Some (finite.get (with_part name (torn_part kind keep bytes) m)))
AllRead-failed Append keep m name bytes = torn_append m name bytes keep (take keep bytes) refl
AllRead-failed Replace keep m name bytes = AllRead-nothing Replace (finite.get m) name bytes

-- the same, through what was known between
pub AllRead-torn : (kind : WriteKind) (keep : ℕ) (old mid new : Contents) (name bytes : List ℕ) → mid ≡ old → new ≡ with_part name (torn_part kind keep bytes) mid → AllRead (write_of kind name bytes false) (Some (finite.get old)) (Some (finite.get new))
AllRead-torn kind keep old mid new name bytes same is = rw (is, same) (AllRead-failed kind keep old name bytes)

-- and of a write that was done
pub AllRead-after : (kind : WriteKind) (old mid new : Contents) (name bytes : List ℕ) → mid ≡ old → new ≡ finite.insert mid name (content_after kind (finite.get mid name) bytes) → AllRead (write_of kind name bytes true) (Some (finite.get old)) (Some (finite.get new))
AllRead-after kind old mid new name bytes same is = rw (is, same) (AllRead-done kind old name bytes)
