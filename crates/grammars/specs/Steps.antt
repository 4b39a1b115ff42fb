-- The tokens of a text, found one after the other. Laws with their proofs.
use Rattle.std.specs.Prelude.{◌≡◌, ◌≤◌, ◌<◌, ◌+◌, ℕ, List, [], ◌∷◌, ◌++◌, length, drop, Some, None}
use Rattle.std.proofs.Common.{sym, ap, ◌∙◌, subst, arith, length-drop}
use Rattle.std.proofs.lemmas.List.{drop-drop, drop_all, drop_at, append_assoc}
use Rattle.grammars.specs.Tokens.{Lexicon, AreTokens, ends, passes, takes, stops}
use Rattle.grammars.specs.Scanner.{Scanner, no_gap, longest_found, no_token}

-- These are the tokens up to a place: with those of what stands from there on they are the tokens of the text.
abbrev pub ReadUpTo : {T : Type 0} → Lexicon T → List ℕ → ℕ → List (T × ℕ) → Type 0
ReadUpTo {T} L text at found = (more : List (T × ℕ)) → AreTokens L at (drop at text) more
    → AreTokens L 0 text (found ++ more)

module _ {T : Type 0} (L : Lexicon T) (Clear : List ℕ → Type 0) (scanner : Scanner L Clear) (text : List ℕ) (at : ℕ)
    (found : List (T × ℕ)) (read : ReadUpTo L text at found) where
  behind : (bytes rest : List ℕ) (len : ℕ) → drop at text ≡ bytes ++ rest → length bytes ≡ len
      → rest ≡ drop (at + len) text
  behind bytes rest len whole size =
      sym (drop_at bytes rest len size) ∙ ap (drop len) (sym whole) ∙ drop-drop len at text

  there : (bytes rest : List ℕ) (len : ℕ) (more : List (T × ℕ)) → drop at text ≡ bytes ++ rest → length bytes ≡ len
      → AreTokens L (at + len) (drop (at + len) text) more
      → AreTokens L (at + length bytes) rest more
  there bytes rest len more whole size h =
      subst (λ (n : ℕ). AreTokens L (at + n) rest more) (sym size)
      (subst (λ (l : List ℕ). AreTokens L (at + len) l more) (sym (behind bytes rest len whole size)) h)

  -- a gap is passed over
  pub gap_step : 0 < scanner.gap (drop at text) → ReadUpTo L text (at + scanner.gap (drop at text)) found
  gap_step some more h =
      let is = scanner.gap_is (drop at text) some in
      let has = scanner.gap_found (drop at text) is.gap is.rest is.begins in
      read more
      (passes at (drop at text) is.gap is.rest more is.begins
      (there is.gap is.rest (scanner.gap (drop at text)) more has.whole is.size h))

  -- a token is taken
  pub token_step : (t : T) (len : ℕ) → scanner.gap (drop at text) ≡ 0 → scanner.token (drop at text) ≡ Some (t, len)
      → ReadUpTo L text (at + len) (found ++ ((t, at) ∷ []))
  token_step t len none is more h =
      let token = scanner.token_is (drop at text) t len is in
      subst (AreTokens L 0 text) (sym (append_assoc found ((t, at) ∷ []) more))
      (read ((t, at) ∷ more)
      (takes at (drop at text) t token.bytes token.rest more (no_gap L Clear scanner (drop at text) none)
      (longest_found L Clear scanner (drop at text) t len token is)
      (there token.bytes token.rest len more token.begins.whole token.size h)))

  stopped : (here : List ℕ) → 0 < length here → scanner.gap here ≡ 0 → scanner.token here ≡ None
      → AreTokens L at here ((L.bad, at) ∷ [])
  stopped [] some none is = absurd (omega arith)
  stopped (b ∷ rest) some none is =
      stops at b rest (no_gap L Clear scanner (b ∷ rest) none) (no_token L Clear scanner (b ∷ rest) is)

  -- nothing begins here
  pub bad_step : at < length text → scanner.gap (drop at text) ≡ 0 → scanner.token (drop at text) ≡ None
      → AreTokens L 0 text (found ++ ((L.bad, at) ∷ []))
  bad_step within none is =
      read ((L.bad, at) ∷ []) (stopped (drop at text) (omega (arith, within, length-drop at text)) none is)

  -- the text ends here
  pub end_step : length text ≤ at → AreTokens L 0 text (found ++ ((L.end, at) ∷ []))
  end_step past =
      read ((L.end, at) ∷ [])
      (subst (λ (l : List ℕ). AreTokens L at l ((L.end, at) ∷ [])) (sym (drop_all at text past)) (ends at))
