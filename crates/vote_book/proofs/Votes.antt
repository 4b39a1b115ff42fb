-- One answer to a vote, and the history that the answers keep.
use Rattle.std.proofs.Common.{◌≡◌, ℕ, zero, suc, ◌+◌, ◌-◌, ◌<◌, ◌≤◌, List, [], ◌∷◌, ◌++◌, length, Some, None, refl, sym, ap, subst, inl, inr, ◌∙◌, arith, length-append}
use Rattle.std.specs.Prelude.{slice_get, Bool, true, false, bytes_eq}
use Rattle.std.specs.Bool.{Decides}
use Rattle.std.proofs.lemmas.Bool.{cases_lt}
use Rattle.std.proofs.lemmas.Slice.Eq.{bytes_eq-Decides}
use Rattle.std.proofs.lemmas.Option.{slice_get-get_or, slice_get_within}
use Rattle.vote_book.specs.declared.ballot.Ballot.{Ballot}
use Rattle.vote_book.specs.declared.book.Vote.{Vote}
use Rattle.vote_book.specs.declared.book.Vote.TheVariants.{New, Same, Refused}
use Rattle.vote_book.specs.Spelling.{Kept}
use Rattle.vote_book.specs.Votes.{Answers, IsLater, IsInTheWay, kept_after, IsHistory, last_of, IsGiven}
use Rattle.vote_book.specs.Laws.{VoteLaws}

-- ---- one answer

abbrev vote_at : ℕ → List ℕ → Ballot
vote_at height id = record { height = height; id = id }

some_at : (last ballot : Ballot) → ballot.height ≤ last.height → (same : Bool) → Decides same (ballot.id ≡ last.id)
    → (answer : Vote) × Answers (Some last) ballot answer
some_at last ballot h true d = elim (cases_lt ballot.height last.height) [
  | inl below ↦ (Refused last.height last.id, (last, refl, refl, refl, inl below))
  | inr above ↦ (
      let height : last.height ≡ ballot.height = omega (arith, h, above) in
      let id : ballot.id ≡ last.id = d.0 refl in
      (Same, is_kept last ballot height (sym id))
      )
]
  where
    is_kept : (a b : Ballot) → a.height ≡ b.height → a.id ≡ b.id → Some a ≡ Some b
    is_kept a b p q = ap (λ (h : ℕ). Some (vote_at h a.id)) p ∙ ap (λ (i : List ℕ). Some (vote_at b.height i)) q
some_at last ballot h false d = elim (cases_lt ballot.height last.height) [
  | inl below ↦ (Refused last.height last.id, (last, refl, refl, refl, inl below))
  | inr above ↦ (
      let height : ballot.height ≡ last.height = omega (arith, h, above) in
      (Refused last.height last.id, (last, refl, refl, refl, inr (height, λ e. no (d.1 e))))
      )
]
  where
    no : false ≡ true → ⊥
    no e = cc

some_answer : (kept : Kept) (ballot : Ballot) → (answer : Vote) × Answers kept ballot answer
some_answer None ballot = (New, tt)
some_answer (Some last) ballot = elim (cases_lt last.height ballot.height) [
  | inl later ↦ (New, later)
  | inr not_later ↦ some_at last ballot not_later (bytes_eq ballot.id last.id) (bytes_eq-Decides ballot.id last.id)
]

-- a vote that is kept is not in its own way, and not later than itself
not_both : (last ballot : Ballot) → Some last ≡ Some ballot → IsInTheWay last ballot → ⊥
not_both last ballot is (inl below) = let e : last.height ≡ ballot.height = cc in omega (arith, e, below)
not_both last ballot is (inr h) = h.1 cc

late_in_the_way : (last ballot : Ballot) → last.height < ballot.height → IsInTheWay last ballot → ⊥
late_in_the_way last ballot later (inl below) = omega (arith, later, below)
late_in_the_way last ballot later (inr h) = omega (arith, later, h.0)

new_same : (kept : Kept) (ballot : Ballot) → IsLater kept ballot.height → kept ≡ Some ballot → ⊥
new_same None ballot h e = cc
new_same (Some last) ballot h e = let same : last.height ≡ ballot.height = cc in omega (arith, h, same)

new_refused : (kept : Kept) (ballot : Ballot) (height : ℕ) (id : List ℕ) → IsLater kept ballot.height → Answers kept ballot (Refused height id) → ⊥
new_refused None ballot height id h r = let e : None ≡ Some r.0 = r.1 in cc
new_refused (Some last) ballot height id h r =
    let e : last ≡ r.0 = cc in
    late_in_the_way r.0 ballot (subst (λ (b : Ballot). b.height < ballot.height) e h) r.4

same_refused : (kept : Kept) (ballot : Ballot) (height : ℕ) (id : List ℕ) → kept ≡ Some ballot → Answers kept ballot (Refused height id) → ⊥
same_refused kept ballot height id e r = not_both r.0 ballot (sym r.1 ∙ e) r.4

one_refused : (kept : Kept) (ballot : Ballot) (h k : ℕ) (i j : List ℕ) → Answers kept ballot (Refused h i) → Answers kept ballot (Refused k j) → Refused h i ≡ Refused k j
one_refused kept ballot h k i j p q =
    let e : Some p.0 ≡ Some q.0 = sym p.1 ∙ q.1 in
    let same : p.0 ≡ q.0 = cc in
    let a : h ≡ p.0.height = p.2 in
    let b : k ≡ q.0.height = q.2 in
    let c : i ≡ p.0.id = p.3 in
    let d : j ≡ q.0.id = q.3 in
    cc

one_of : (kept : Kept) (ballot : Ballot) (a b : Vote) → Answers kept ballot a → Answers kept ballot b → a ≡ b
one_of kept ballot New New p q = refl
one_of kept ballot New Same p q = absurd (new_same kept ballot p q)
one_of kept ballot New (Refused k j) p q = absurd (new_refused kept ballot k j p q)
one_of kept ballot Same New p q = absurd (new_same kept ballot q p)
one_of kept ballot Same Same p q = refl
one_of kept ballot Same (Refused k j) p q = absurd (same_refused kept ballot k j p q)
one_of kept ballot (Refused h i) New p q = absurd (new_refused kept ballot h i q p)
one_of kept ballot (Refused h i) Same p q = absurd (same_refused kept ballot h i q p)
one_of kept ballot (Refused h i) (Refused k j) p q = one_refused kept ballot h k i j p q

-- ---- histories

-- what stands after votes and one more
at_front : (votes : List Ballot) (ballot : Ballot) (i : ℕ) → i < length votes → slice_get (votes ++ ballot ∷ []) i ≡ slice_get votes i
at_front [] ballot i h = absurd (omega (arith, h))
at_front (v ∷ votes) ballot zero h = refl
at_front (v ∷ votes) ballot (suc i) h = at_front votes ballot i (omega (arith, h))

at_end : (votes : List Ballot) (ballot : Ballot) → slice_get (votes ++ ballot ∷ []) (length votes) ≡ Some ballot
at_end [] ballot = refl
at_end (v ∷ votes) ballot = at_end votes ballot

length_more : (votes : List Ballot) (ballot : Ballot) → length (votes ++ ballot ∷ []) ≡ length votes + 1
length_more votes ballot = length-append votes (ballot ∷ [])

last_more : (votes : List Ballot) (ballot : Ballot) → last_of (votes ++ ballot ∷ []) ≡ Some ballot
last_more votes ballot =
    let place : length (votes ++ ballot ∷ []) - 1 ≡ length votes = omega (arith, length_more votes ballot) in
    ap (λ (n : ℕ). slice_get (votes ++ ballot ∷ []) n) place ∙ at_end votes ballot

kept_more : (votes : List Ballot) (ballot : Ballot) (answer : Vote) → Answers (last_of votes) ballot answer → IsGiven answer
    → last_of (votes ++ ballot ∷ []) ≡ kept_after (last_of votes) ballot answer
kept_more votes ballot New h given = last_more votes ballot
kept_more votes ballot Same h given = last_more votes ballot ∙ sym h
kept_more votes ballot (Refused k id) h given = absurd given

-- each vote of a history is before the one that is given then
before_given : (votes : List Ballot) (ballot : Ballot) (answer : Vote) → IsHistory votes → Answers (last_of votes) ballot answer → IsGiven answer
    → (i : ℕ) (a : Ballot) → slice_get votes i ≡ Some a → (a.height ≤ ballot.height) × (a.height ≡ ballot.height → a.id ≡ ballot.id)
before_given votes ballot answer history h given i a there =
    let inside : i < length votes = slice_get_within votes i a there in
    behind (last_of votes) refl inside answer h given
  where
    from_last : (last : Ballot) → last_of votes ≡ Some last → i < length votes → (a.height ≤ last.height) × (a.height ≡ last.height → a.id ≡ last.id)
    from_last last is inside = history i (length votes - 1) a last (omega (arith, inside)) there is

    behind : (kept : Kept) → last_of votes ≡ kept → i < length votes → (answer : Vote) → Answers kept ballot answer → IsGiven answer
        → (a.height ≤ ballot.height) × (a.height ≡ ballot.height → a.id ≡ ballot.id)
    behind None is inside answer h given = absurd (no_last is inside)
      where
        no_last : last_of votes ≡ None → i < length votes → ⊥
        no_last is inside = let there = slice_get-get_or votes (length votes - 1) a (omega (arith, inside)) in cc
    behind (Some last) is inside New h given =
        let past = from_last last is inside in
        (omega (arith, past.0, h), λ e. absurd (omega (arith, past.0, h, e)))
    behind (Some last) is inside Same h given =
        let same : last ≡ ballot = cc in
        subst (λ (b : Ballot). (a.height ≤ b.height) × (a.height ≡ b.height → a.id ≡ b.id)) same (from_last last is inside)
    behind (Some last) is inside (Refused k id) h given = absurd given

history_more : (votes : List Ballot) (ballot : Ballot) (answer : Vote) → IsHistory votes → Answers (last_of votes) ballot answer → IsGiven answer
    → IsHistory (votes ++ ballot ∷ [])
history_more votes ballot answer history h given i j a b le at_i at_j =
    let more = length_more votes ballot in
    let j_in : j < length (votes ++ ballot ∷ []) = slice_get_within (votes ++ ballot ∷ []) j b at_j in
    elim (cases_lt j (length votes)) [
      | inl j_front ↦ (
          let i_front : i < length votes = omega (arith, le, j_front) in
          history i j a b le (sym (at_front votes ballot i i_front) ∙ at_i) (sym (at_front votes ballot j j_front) ∙ at_j)
          )
      | inr j_back ↦ (
          let j_is : j ≡ length votes = omega (arith, j_back, j_in, more) in
          let b_is : ballot ≡ b = same_some ballot b (sym (at_end votes ballot) ∙ ap (λ (n : ℕ). slice_get (votes ++ ballot ∷ []) n) (sym j_is) ∙ at_j) in
          subst (λ (x : Ballot). (a.height ≤ x.height) × (a.height ≡ x.height → a.id ≡ x.id)) b_is (elim (cases_lt i (length votes)) [
            | inl i_front ↦ before_given votes ballot answer history h given i a (sym (at_front votes ballot i i_front) ∙ at_i)
            | inr i_back ↦ (
                let i_is : i ≡ length votes = omega (arith, le, j_is, i_back) in
                let a_is : ballot ≡ a = same_some ballot a (sym (at_end votes ballot) ∙ ap (λ (n : ℕ). slice_get (votes ++ ballot ∷ []) n) (sym i_is) ∙ at_i) in
                subst (λ (x : Ballot). (x.height ≤ ballot.height) × (x.height ≡ ballot.height → x.id ≡ ballot.id)) a_is (omega arith, λ e. refl)
                )
          ])
          )
    ]
  where
    same_some : (x y : Ballot) → Some x ≡ Some y → x ≡ y
    same_some x y e = cc

pub vote_laws : VoteLaws
vote_laws = record { some = some_answer; one = one_of; history = history_more; kept = kept_more }
