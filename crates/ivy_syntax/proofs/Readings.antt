-- What the front of a text is, and that each text has one list of tokens.
use Rattle.std.proofs.Common.{◌≡◌, ◌⊎◌, ◌<◌, ℕ, true, false, Option, Some, None}
use Rattle.std.proofs.Common.{List, [], ◌∷◌, ◌++◌, inl, inr, length, take, drop, slice_index, refl, ap, sym, ◌∙◌}
use Rattle.std.proofs.Common.{subst, arith}
use Rattle.std.proofs.lemmas.Bool.{cases_Bool, cond-true, cond-false, false≢true}
use Rattle.std.proofs.lemmas.Bool.Decides.{nat_tests}
use Rattle.std.proofs.lemmas.Option.{none-some, same_Some}
use Rattle.std.proofs.lemmas.List.{length-take-le, take-append-drop, take_at, append_assoc}
use Rattle.std.specs.Option.{option_map}
use Rattle.grammars.specs.Tokens.{Begins}
use Rattle.grammars.specs.Scanner.{Scanner, IsGap, HasLength, IsToken, Reaches}
use Rattle.grammars.specs.Scanner as scanners
use Rattle.ivy_syntax.specs.declared.lexeme.Kind.{Kind}
use Rattle.ivy_syntax.specs.Token.{Token}
use Rattle.ivy_syntax.specs.Tokens.{is_blank, BeginsComment, line, block, BeginsGap, blank, comment, lexicon}
use Rattle.ivy_syntax.specs.Tokens.{EachHasOneReading}
use Rattle.ivy_syntax.specs.Lexeme.{token_of}
use Rattle.ivy_syntax.specs.Cutting.{Cut, token_at, comment_len, gap_len, front_of_cut, TakesWithin}
use Rattle.ivy_syntax.proofs.Fronts.{Sound, found_sound}
use Rattle.ivy_syntax.proofs.Reach.{BlankFollows, reach}
use Rattle.ivy_syntax.proofs.Comments.{Comment, comment_sound, comment_found}

-- ---- gaps

blank_no_comment : (b : ℕ) (rest : List ℕ) → is_blank b ≡ true → comment_len (b ∷ rest) ≡ 0
unfolding comment_len
blank_no_comment b rest e = grind (arith, nat_tests)

pub gap_is : (text : List ℕ) → 0 < gap_len text → IsGap lexicon text (gap_len text)
gap_is text some = at text (cases_Bool (is_blank (slice_index text 0))) some
  where
    at : (text : List ℕ) → (is_blank (slice_index text 0) ≡ true) ⊎ (is_blank (slice_index text 0) ≡ false)
        → 0 < gap_len text
        → IsGap lexicon text (gap_len text)
    at [] (inl is) some = absurd (false≢true is)
    at (b ∷ rest) (inl is) some = record {
      gap = b ∷ [];
      rest = rest;
      begins = blank b refl refl is;
      size = sym (cond-true {A = ℕ} (is_blank b) 1 (comment_len (b ∷ rest)) is);
    }
    at text (inr not) some =
        let same : gap_len text ≡ comment_len text =
        cond-false {A = ℕ} (is_blank (slice_index text 0)) 1 (comment_len text) not in
        let found : Comment (comment_len text) text = comment_sound text (omega (arith, same, some)) in
        record {
          gap = take (comment_len text) text;
          rest = drop (comment_len text) text;
          begins = comment found.begins;
          size = length-take-le (comment_len text) text found.within ∙ sym same;
        }

comment_whole : {text bytes rest : List ℕ} → BeginsComment text bytes rest → text ≡ bytes ++ rest
comment_whole (line body whole is all ending) = whole
comment_whole {rest = rest} (block body more whole closes is) =
    whole ∙ ap (λ (m : List ℕ). 47 ∷ 42 ∷ m) (closes.whole ∙ sym (append_assoc body (42 ∷ 47 ∷ []) rest))
    ∙ ap (λ (l : List ℕ). l ++ rest) (sym is)

comment_gap : (text : List ℕ) (n : ℕ) → comment_len text ≡ n → 0 < n → gap_len text ≡ n
comment_gap [] n e some = e
comment_gap (b ∷ rest) n e some = by (cases_Bool (is_blank b))
  where
    by : (is_blank b ≡ true) ⊎ (is_blank b ≡ false) → gap_len (b ∷ rest) ≡ n
    by (inl is) = absurd (omega (arith, e, some, blank_no_comment b rest is))
    by (inr not) = cond-false {A = ℕ} (is_blank b) 1 (comment_len (b ∷ rest)) not ∙ e

pub gap_found : (text gap rest : List ℕ) → BeginsGap text gap rest → HasLength text gap rest (gap_len text)
gap_found text gap rest (blank b one whole is) = record {
  whole = whole ∙ ap (λ (l : List ℕ). l ++ rest) (sym one);
  some = omega (arith, ap (λ (l : List ℕ). length l) one);
  size = ap (λ (l : List ℕ). length l) one
      ∙ sym (ap gap_len whole ∙ cond-true {A = ℕ} (is_blank b) 1 (comment_len (b ∷ rest)) is);
}
gap_found text gap rest (comment begins) =
    let found = comment_found text gap rest begins in
    let some : 0 < length gap = omega (arith, found.1) in
    record {
      whole = comment_whole begins;
      some = some;
      size = sym (comment_gap text (length gap) found.0 some);
    }

-- ---- tokens

abbrev pub token_cut : List ℕ → Kind × ℕ → Token × ℕ
token_cut text cut = (token_of cut.0 (take cut.1 text), cut.1)

abbrev pub found : List ℕ → Option (Token × ℕ)
found text = option_map (token_cut text) (token_at text)

pub is_found : (text : List ℕ) (t : Token) (len : ℕ) → found text ≡ Some (t, len) → IsToken lexicon text t len
is_found text t len is = at (token_at text) refl is
  where
    at : (o : Cut) → token_at text ≡ o → option_map (token_cut text) o ≡ Some (t, len) → IsToken lexicon text t len
    at None first same = absurd (none-some (t, len) same)
    at (Some cut) first same =
        let one = same_Some (token_cut text cut) (t, len) same in
        let sound : Sound cut.0 cut.1 text = found_sound text cut.0 cut.1 first in
        let size : cut.1 ≡ len = ap (λ (p : Token × ℕ). p.1) one in
        record {
          bytes = take cut.1 text;
          rest = drop cut.1 text;
          begins = subst (λ (u : Token). Begins lexicon text u (take cut.1 text) (drop cut.1 text))
              (ap (λ (p : Token × ℕ). p.0) one)
              (record {
                whole = sym (take-append-drop cut.1 text);
                spelled = sound.spelled;
                ends = sound.ends;
              });
          size = length-take-le cut.1 text sound.within ∙ size;
          some = omega (arith, size, sound.some);
        }

pub reaches : (text : List ℕ) (t : Token) (bytes rest : List ℕ) → Begins lexicon text t bytes rest
    → Reaches BlankFollows (found text) t bytes rest
reaches text t bytes rest begins =
    let r = reach text t bytes rest begins in
    record {
      other = token_of r.kind (take r.len text);
      len = r.len;
      is = ap (option_map (token_cut text)) r.found;
      within = r.within;
      same = λ equal.
          ap (token_of r.kind) (ap (λ (n : ℕ). take n text) (sym equal) ∙ ap (take (length bytes)) begins.whole
          ∙ take_at bytes rest (length bytes) refl)
          ∙ r.same equal;
      exact = r.exact;
    }

abbrev pub scanner : Scanner lexicon BlankFollows
scanner = record {
  gap = gap_len;
  token = found;
  gap_is = gap_is;
  gap_found = gap_found;
  token_is = is_found;
  token_found = reaches;
}

pub one_reading : EachHasOneReading
one_reading = scanners.one_reading lexicon BlankFollows scanner

-- ---- what the code finds

pub cut_within : (text : List ℕ) (o : Cut) → token_at text ≡ o → TakesWithin (front_of_cut o) (length text)
cut_within text None e = tt
cut_within text (Some cut) e =
    let sound : Sound cut.0 cut.1 text = found_sound text cut.0 cut.1 e in (sound.some, sound.within)
