-- A text that is split at its commas, word by word.
use Rattle.std.proofs.Common.{◌≡◌, ◌≢◌, ℕ, ◌+◌, ◌-◌, ◌<◌, ◌≤◌, true, List, [], ◌∷◌, ◌++◌, length, take, drop, map}
use Rattle.std.proofs.Common.{get_or, arith, sym, ap, ◌∙◌, subst, append_assoc, length-append, length-take}
use Rattle.std.proofs.Common.{length-drop}
use Rattle.std.proofs.lemmas.List.{append-nil, map-append, take-append-drop, drop-drop, drop_all}
use denote.Ref.{Bor}
use Rattle.filter_syntax.specs.Intermediate.{BeginsNoWord}
use Rattle.filter_syntax.specs.Spelling.{is_word}
use Rattle.filter_syntax.specs.Tokens.{IsApart}
use Rattle.filter_syntax.specs.By.{Names, Joins, IsSyntaxFault, before_next}
use Rattle.filter_syntax.proofs.NameLists.{AreWords, joins_more, words_more, before_more, fault_before, fault_within}
use Rattle.filter_syntax.proofs.Steps.{behind_is, byte_there}

module _ (text : List ℕ) (at : ℕ) (names : Names) (words : AreWords names)
    (split : text ≡ before_next names ++ drop at text) (place : at ≡ length (before_next names)) where
  pub no_word : BeginsNoWord (take (length text - at) (drop at text)) → IsSyntaxFault text at
  no_word none = fault_before text (drop at text) names at words split place
      (subst BeginsNoWord (behind_is text at) none)

  -- the word that stands here
  module _ (len : ℕ) (within : len ≤ length (take (length text - at) (drop at text)))
      (word : is_word (take len (take (length text - at) (drop at text))) ≡ true)
      (ends : IsApart (drop len (take (length text - at) (drop at text)))) where
    is : is_word (take len (drop at text)) ≡ true
    is = ap (λ (l : List ℕ). is_word (take len l)) (sym (behind_is text at)) ∙ word

    behind : drop len (drop at text) ≡ drop (at + len) text
    behind = drop-drop len at text

    apart : IsApart (drop (at + len) text)
    apart = subst IsApart (ap (λ (l : List ℕ). drop len l) (behind_is text at) ∙ behind) ends

    whole : text ≡ (before_next names ++ take len (drop at text)) ++ drop (at + len) text
    whole = split ∙ ap (λ (l : List ℕ). before_next names ++ l)
        (sym (take-append-drop len (drop at text)) ∙ ap (λ (l : List ℕ). take len (drop at text) ++ l) behind)
        ∙ sym (append_assoc (before_next names) (take len (drop at text)) (drop (at + len) text))

    long : length (take len (drop at text)) ≡ len
    long =
        let fits : len ≤ length (drop at text) = subst (λ (l : List ℕ). len ≤ length l) (behind_is text at) within in
        omega (arith, length-take len (drop at text), fits)

    ends_at : at + len ≡ length (before_next names ++ take len (drop at text))
    ends_at = omega (arith, length-append (before_next names) (take len (drop at text)), long, place)

    pub other_byte : at + len < length text → get_or text (at + len) 0 ≢ 44 → IsSyntaxFault text (at + len)
    other_byte here other =
        let byte = byte_there text (at + len) here in
        fault_within text (take len (drop at text)) (drop (at + len + 1) text) (get_or text (at + len) 0) names
        (at + len) words is
        (whole ∙ ap (λ (l : List ℕ). (before_next names ++ take len (drop at text)) ++ l) byte) ends_at
        (subst IsApart byte apart) other

    -- the names with this one after them
    module _ (w : List ℕ) (after : Names) (same : w ≡ take (at + len - at) (drop at text))
        (added : after ≡ names ++ w ∷ []) where
      taken : after ≡ names ++ take len (drop at text) ∷ []
      taken =
          let count : at + len - at ≡ len = omega arith in
          added ∙ ap (λ (l : List ℕ). names ++ l ∷ []) (same ∙ ap (λ (n : ℕ). take n (drop at text)) count)

      pub joins_all : at + len ≡ length text → Joins text after
      joins_all end =
          subst (λ (l : Names). Joins text l) (sym taken)
          (joins_more names (take len (drop at text)) text words is
          (whole ∙ ap (λ (l : List ℕ). (before_next names ++ take len (drop at text)) ++ l)
          (drop_all (at + len) text (omega arith))
          ∙ append-nil (before_next names ++ take len (drop at text))))

      pub words_after : AreWords after
      words_after = subst AreWords (sym taken) (words_more names (take len (drop at text)) words is)

      before_after : before_next after ≡ (before_next names ++ take len (drop at text)) ++ 44 ∷ []
      before_after =
          ap before_next taken ∙ before_more names (take len (drop at text))
          ∙ sym (append_assoc (before_next names) (take len (drop at text)) (44 ∷ []))

      pub split_after : at + len < length text → get_or text (at + len) 0 ≡ 44
          → text ≡ before_next after ++ drop (at + len + 1) text
      split_after here comma =
          whole ∙ ap (λ (l : List ℕ). (before_next names ++ take len (drop at text)) ++ l)
          (byte_there text (at + len) here ∙ ap (λ (k : ℕ). k ∷ drop (at + len + 1) text) comma)
          ∙ sym (append_assoc (before_next names ++ take len (drop at text)) (44 ∷ []) (drop (at + len + 1) text))
          ∙ ap (λ (l : List ℕ). l ++ drop (at + len + 1) text) (sym before_after)

      pub place_after : at + len + 1 ≡ length (before_next after)
      place_after =
          let end = ap (λ (l : List ℕ). length l) before_after in
          omega (arith, end, ends_at, length-append (before_next names ++ take len (drop at text)) (44 ∷ []))

-- a list of references with one more
pub names_added : (items more : List (Bor (List ℕ))) (name : Bor (List ℕ)) → more ≡ items ++ name ∷ []
    → map (λ name. name.now) more ≡ map (λ name. name.now) items ++ name.now ∷ []
names_added items more name is = ap (λ (l : List (Bor (List ℕ))). map (λ name. name.now) l) is
    ∙ map-append (λ name. name.now) items (name ∷ [])

pub end_within : (text : List ℕ) (at len : ℕ) → at ≤ length text
    → len ≤ length (take (length text - at) (drop at text)) → at + len ≤ length text
end_within text at len here within =
    let fits : len ≤ length (drop at text) = subst (λ (l : List ℕ). len ≤ length l) (behind_is text at) within in
    omega (arith, length-drop at text, fits)
