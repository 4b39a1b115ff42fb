-- The comment at the front of a text.
use Rattle.std.proofs.Common.{◌≡◌, ◌≤◌, ◌<◌, ◌+◌, ◌&&◌, ◌==◌, ℕ, suc, true, false}
use Rattle.std.proofs.Common.{List, [], ◌∷◌, ◌++◌, inl, inr, length, take, drop, slice_index, refl, ap, sym, ◌∙◌}
use Rattle.std.proofs.Common.{subst, arith, Option, Some, None}
use Rattle.std.specs.Prelude.{codes}
use Rattle.std.specs.List.{prefix_len}
use Rattle.std.proofs.lemmas.Bool.{cases_Bool, cond-true, cond-false, cond_both, and_parts, eqb-true}
use Rattle.std.proofs.lemmas.Bool.Decides.{nat_tests}
use Rattle.std.proofs.lemmas.List.{length-append, take_at, drop_at, take-append-drop, append_assoc}
use Rattle.std.proofs.lemmas.List.Sums.{prefix_len-le-length}
use Rattle.ivy_syntax.specs.Tokens.{is_in_line, LineEnds, Closes, BeginsComment, line, block}
use Rattle.ivy_syntax.specs.Cutting.{close_from, closed_len, comment_len}
use Rattle.grammars.specs.Tokens.{StopsAt}
use Rattle.grammars.specs.Runs.{run_passes, run_stops, run_over, run_ends}

-- ---- the first `*/`

pub record FirstClose (at place : ℕ) (text : List ℕ) : Type 0 where
  pub before : List ℕ
  pub after : List ℕ
  pub closes : Closes text before after
  pub here : place ≡ at + length before

closes_now : (b : ℕ) (rest : List ℕ) → (b == 42 && slice_index rest 0 == 47) ≡ true
    → (after : List ℕ) × (b ∷ rest ≡ 42 ∷ 47 ∷ after)
closes_now b [] e = (let f : false ≡ true = (and_parts _ _ e).1 in absurd (grind arith))
closes_now b (c ∷ rest) e =
    let parts = and_parts _ _ e in
    (rest, (λ i. eqb-true b 42 parts.0 i ∷ eqb-true c 47 parts.1 i ∷ rest))

tail_of : List ℕ → List ℕ
tail_of [] = []
tail_of (x ∷ xs) = xs

head_of : List ℕ → ℕ
head_of [] = 0
head_of (x ∷ xs) = x

not_now : (b : ℕ) (rest others more : List ℕ) → (b == 42 && slice_index rest 0 == 47) ≡ false
    → b ∷ rest ≡ others ++ (42 ∷ 47 ∷ more)
    → (o : ℕ) × (os : List ℕ) × (others ≡ o ∷ os) × (rest ≡ os ++ (42 ∷ 47 ∷ more))
unfolding tail_of head_of
not_now b rest [] more f e =
    (let x : b ≡ 42 = ap head_of e in
    let y : rest ≡ 47 ∷ more = ap tail_of e in
    let z : (b == 42 && slice_index rest 0 == 47) ≡ true
    = (λ i. x i == 42 && slice_index (y i) 0 == 47) in
    let no : true ≡ false = sym z ∙ f in absurd (grind arith))
not_now b rest (o ∷ os) more f e = (o, os, refl, ap tail_of e)

close_is : (at place : ℕ) (text : List ℕ) → close_from at text ≡ Some place → FirstClose at place text
close_is at place [] e = (let f : None ≡ Some place = e in absurd (cc))
close_is at place (b ∷ rest) e =
    elim (cases_Bool (b == 42 && slice_index rest 0 == 47)) [
      | inl t ↦
          (let here : Some at ≡ Some place = sym (cond-true _ _ _ t) ∙ e in
          let is : at ≡ place = cc in
          let now = closes_now b rest t in
          record {
            before = [];
            after = now.0;
            closes = record { whole = now.1; first = λ others more f. omega arith };
            here = omega (arith, is);
          })
      | inr f ↦
          (let more : FirstClose (at + 1) place rest = close_is (at + 1) place rest (sym (cond-false _ _ _ f) ∙ e) in
          record {
            before = b ∷ more.before;
            after = more.after;
            closes = record {
              whole = ap (λ all. b ∷ all) more.closes.whole;
              first = λ others rests g.
                  (let parts = not_now b rest others rests f g in
                  let least : length more.before ≤ length parts.1 = more.closes.first parts.1 rests parts.3 in
                  let size : length others ≡ suc (length parts.1) = ap length parts.2 in
                  omega (arith, least, size));
            };
            here = omega (arith, more.here);
          })
    ]

close_none : (at : ℕ) (text others more : List ℕ) → close_from at text ≡ None → text ≡ others ++ (42 ∷ 47 ∷ more) → ⊥
close_none at [] [] more e g = cc
close_none at [] (o ∷ os) more e g = cc
close_none at (b ∷ rest) others more e g =
    elim (cases_Bool (b == 42 && slice_index rest 0 == 47)) [
      | inl t ↦ (let no : Some at ≡ None = sym (cond-true _ _ _ t) ∙ e in cc)
      | inr f ↦
          (let parts = not_now b rest others more f g in
          close_none (at + 1) rest parts.1 more (sym (cond-false _ _ _ f) ∙ e) parts.3)
    ]

-- ---- comments

pub record Comment (n : ℕ) (text : List ℕ) : Type 0 where
  pub begins : BeginsComment text (take n text) (drop n text)
  pub within : n ≤ length text

abbrev pub MayBeComment : List ℕ → ℕ → Type 0
MayBeComment text n = 0 < n → Comment n text

line_ends : (rest : List ℕ) → StopsAt is_in_line rest → LineEnds rest
line_ends [] h = tt
line_ends (b ∷ rest) h = grind (arith, nat_tests)

line_stops : (rest : List ℕ) → LineEnds rest → StopsAt is_in_line rest
line_stops [] h = tt
line_stops (b ∷ rest) h = grind (arith, nat_tests)

line_comment : (rest : List ℕ) → Comment (2 + prefix_len is_in_line rest) (47 ∷ 47 ∷ rest)
line_comment rest =
    let n : ℕ = prefix_len is_in_line rest in
    let add : 2 + n ≡ suc (suc n) = omega arith in
    let most : n ≤ length rest = prefix_len-le-length is_in_line rest in
    let begins : BeginsComment (47 ∷ 47 ∷ rest) (47 ∷ 47 ∷ take n rest) (drop n rest)
    = line (take n rest) (sym (ap (λ all. 47 ∷ 47 ∷ all) (take-append-drop n rest))) refl
    (run_passes is_in_line rest) (line_ends (drop n rest) (run_stops is_in_line rest)) in
    record {
      begins = subst (λ k. BeginsComment (47 ∷ 47 ∷ rest) (take k (47 ∷ 47 ∷ rest)) (drop k (47 ∷ 47 ∷ rest)))
          (sym add) begins;
      within = omega arith;
    }

-- the two bytes of a mark after so many
behind_close : (before after : List ℕ) → take (2 + length before) (before ++ (42 ∷ 47 ∷ after)) ≡ before ++ codes "*/"
behind_close before after =
    let group : before ++ (42 ∷ 47 ∷ after) ≡ (before ++ codes "*/") ++ after
    = sym (append_assoc before (42 ∷ 47 ∷ []) after) in
    ap (λ all. take (2 + length before) all) group
    ∙ take_at (before ++ codes "*/") after (2 + length before) (omega (arith, length-append before (42 ∷ 47 ∷ [])))

rest_close : (before after : List ℕ) → drop (2 + length before) (before ++ (42 ∷ 47 ∷ after)) ≡ after
rest_close before after =
    let group : before ++ (42 ∷ 47 ∷ after) ≡ (before ++ codes "*/") ++ after
    = sym (append_assoc before (42 ∷ 47 ∷ []) after) in
    ap (λ all. drop (2 + length before) all) group
    ∙ drop_at (before ++ codes "*/") after (2 + length before) (omega (arith, length-append before (42 ∷ 47 ∷ [])))

block_comment : (more : List ℕ) (found : Option ℕ) → close_from 0 more ≡ found
    → MayBeComment (47 ∷ 42 ∷ more) (closed_len found)
block_comment more None e p = absurd (omega arith)
block_comment more (Some place) e p =
    let first : FirstClose 0 place more = close_is 0 place more e in
    let n : ℕ = 2 + length first.before in
    let add : 4 + place ≡ suc (suc n) = omega (arith, first.here) in
    let whole : more ≡ first.before ++ (42 ∷ 47 ∷ first.after) = first.closes.whole in
    let body : take n more ≡ first.before ++ codes "*/"
    = ap (λ all. take n all) whole ∙ behind_close first.before first.after in
    let rest : drop n more ≡ first.after = ap (λ all. drop n all) whole ∙ rest_close first.before first.after in
    let begins : BeginsComment (47 ∷ 42 ∷ more) (47 ∷ 42 ∷ take n more) (drop n more)
    = block first.before more refl (subst (Closes more first.before) (sym rest) first.closes)
    (ap (λ all. 47 ∷ 42 ∷ all) body) in
    let size : length more ≡ length first.before + suc (suc (length first.after))
    = ap length whole ∙ length-append first.before (42 ∷ 47 ∷ first.after) in
    record {
      begins = subst (λ k. BeginsComment (47 ∷ 42 ∷ more) (take k (47 ∷ 42 ∷ more)) (drop k (47 ∷ 42 ∷ more)))
          (sym add) begins;
      within = omega (arith, size, first.here);
    }

line_front : (b : ℕ) (rest : List ℕ) → (b == 47 && slice_index rest 0 == 47) ≡ true
    → MayBeComment (b ∷ rest) (2 + prefix_len is_in_line (drop 1 rest))
line_front b [] e p = (let f : false ≡ true = (and_parts _ _ e).1 in absurd (cc))
line_front b (c ∷ rest) e p =
    let parts = and_parts _ _ e in
    let first : b ≡ 47 = eqb-true b 47 parts.0 in
    let second : c ≡ 47 = eqb-true c 47 parts.1 in
    subst (λ x. Comment (2 + prefix_len is_in_line rest) (x ∷ c ∷ rest)) (sym first)
    (subst (λ x. Comment (2 + prefix_len is_in_line rest) (47 ∷ x ∷ rest)) (sym second) (line_comment rest))

block_front : (b : ℕ) (rest : List ℕ) → (b == 47 && slice_index rest 0 == 42) ≡ true
    → MayBeComment (b ∷ rest) (closed_len (close_from 0 (drop 1 rest)))
block_front b [] e p = (let f : false ≡ true = (and_parts _ _ e).1 in absurd (cc))
block_front b (c ∷ rest) e p =
    let parts = and_parts _ _ e in
    let first : b ≡ 47 = eqb-true b 47 parts.0 in
    let second : c ≡ 42 = eqb-true c 42 parts.1 in
    subst (λ x. Comment (closed_len (close_from 0 rest)) (x ∷ c ∷ rest)) (sym first)
    (subst (λ x. Comment (closed_len (close_from 0 rest)) (47 ∷ x ∷ rest)) (sym second)
    (block_comment rest (close_from 0 rest) refl p))

pub comment_sound : (text : List ℕ) → MayBeComment text (comment_len text)
unfolding comment_len
comment_sound [] p = absurd (omega arith)
comment_sound (b ∷ rest) p =
    cond_both (b == 47 && slice_index rest 0 == 47) _ _ (MayBeComment (b ∷ rest))
    (λ e. line_front b rest e)
    (λ _. cond_both (b == 47 && slice_index rest 0 == 42) _ _ (MayBeComment (b ∷ rest))
    (λ e. block_front b rest e) (λ _ q. absurd (omega arith))) p

line_len : (more : List ℕ) → comment_len (47 ∷ 47 ∷ more) ≡ 2 + prefix_len is_in_line more
unfolding comment_len
line_len more = refl

block_len : (more : List ℕ) → comment_len (47 ∷ 42 ∷ more) ≡ closed_len (close_from 0 more)
unfolding comment_len
block_len more = refl

closed_there : (more body rest : List ℕ) (found : Option ℕ) → Closes more body rest → close_from 0 more ≡ found
    → closed_len found ≡ 4 + length body
closed_there more body rest None h e = absurd (close_none 0 more body rest e h.whole)
closed_there more body rest (Some place) h e =
    let first : FirstClose 0 place more = close_is 0 place more e in
    let low : length first.before ≤ length body = first.closes.first body rest h.whole in
    let high : length body ≤ length first.before = h.first first.before first.after first.closes.whole in
    omega (arith, first.here, low, high)

-- the length of a comment
pub comment_found : (text comment rest : List ℕ) → BeginsComment text comment rest
    → (comment_len text ≡ length comment) × (2 ≤ length comment) × (drop (length comment) text ≡ rest)
comment_found text comment rest (line body whole is all ending) =
    let text_is : text ≡ 47 ∷ 47 ∷ (body ++ rest) = whole ∙ ap (λ c. c ++ rest) is in
    let run : prefix_len is_in_line (body ++ rest) ≡ length body
    = run_over is_in_line body rest all ∙ omega (arith, run_ends is_in_line rest (line_stops rest ending)) in
    let size : length comment ≡ suc (suc (length body)) = ap length is in (
      ap comment_len text_is ∙ line_len (body ++ rest) ∙ omega (arith, run, size),
      omega (arith, size),
      ap (λ t. drop (length comment) t) whole ∙ drop_at comment rest (length comment) refl,
    )
comment_found text comment rest (block body more whole closes is) =
    let size : length comment ≡ suc (suc (length body + 2))
    = ap length is ∙ ap (λ n. suc (suc n)) (length-append body (42 ∷ 47 ∷ [])) in
    let len : closed_len (close_from 0 more) ≡ 4 + length body
    = closed_there more body rest (close_from 0 more) closes refl in
    let text_is : text ≡ comment ++ rest
    = whole ∙ ap (λ m. 47 ∷ 42 ∷ m) (closes.whole ∙ sym (append_assoc body (42 ∷ 47 ∷ []) rest))
    ∙ ap (λ c. c ++ rest) (sym is) in (
      ap comment_len whole ∙ block_len more ∙ omega (arith, len, size),
      omega (arith, size),
      ap (λ t. drop (length comment) t) text_is ∙ drop_at comment rest (length comment) refl,
    )
