-- What is written of tokens is read as these tokens, and is text. Laws with their proofs.
use Rattle.std.specs.Prelude.{◌≡◌, ◌<◌, ◌+◌, ℕ, Bool, true, List, [], ◌∷◌, ◌++◌, length, map}
use Rattle.std.specs.List.{AllByRecursion, list_all}
use Rattle.std.specs.Str.{IsAscii}
use Rattle.std.proofs.Common.{sym, ap, subst, arith}
use Rattle.std.proofs.lemmas.Bool.{and_parts}
use Rattle.std.proofs.lemmas.List.{append_assoc}
use Rattle.std.proofs.lemmas.Str.{IsAscii-append}
use Rattle.std.proofs.lemmas.Str.Ascii.{IsAscii-nil, IsAscii-cons}
use Rattle.grammars.specs.Tokens.{Lexicon, Longest, NoGap, AreTokens, passes, takes, spaced, written}

-- A text reads as these tokens and its end.
abbrev pub ReadsAs : {T : Type 0} → Lexicon T → ℕ → List ℕ → List T → Type 0
ReadsAs {T} L at text tokens = (read : List (T × ℕ)) × AreTokens L at text read
    × (map (λ p. p.0) read ≡ tokens ++ (L.end ∷ []))

-- Where a rest is clear, a token before it is the longest, and no gap begins there.
abbrev pub StandsBefore : {T : Type 0} → Lexicon T → (List ℕ → Type 0) → (T → List ℕ) → (T → Type 0) → Type 0
StandsBefore {T} L Clear spelling Can = (t : T) (rest : List ℕ) → Can t → Clear rest
    → NoGap L (spelling t ++ rest) × Longest L (spelling t ++ rest) t (spelling t) rest

-- A space is clear, and a gap.
abbrev pub SpaceStands : {T : Type 0} → Lexicon T → (List ℕ → Type 0) → Type 0
SpaceStands L Clear = (rest : List ℕ) → Clear (32 ∷ rest) × L.BeginsGap (32 ∷ rest) (32 ∷ []) rest

module _ {T : Type 0} (L : Lexicon T) (Clear : List ℕ → Type 0) (spelling : T → List ℕ) (Can : T → Type 0)
    (before : StandsBefore L Clear spelling Can) (space : SpaceStands L Clear)
    (end : List ℕ) (clear : Clear end) (ended : (at : ℕ) → ReadsAs L at end []) where
  -- after tokens with a space before each
  clear_spaced : (ts : List T) → Clear (spaced spelling ts ++ end)
  clear_spaced [] = clear
  clear_spaced (t ∷ ts) = (space ((spelling t ++ spaced spelling ts) ++ end)).0

  token_read : (t : T) (ts : List T) → Can t → (at : ℕ)
      → ReadsAs L (at + length (spelling t)) (spaced spelling ts ++ end) ts
      → ReadsAs L at ((spelling t ++ spaced spelling ts) ++ end) (t ∷ ts)
  token_read t ts can at more =
      let rest : List ℕ = spaced spelling ts ++ end in
      let stands = before t rest can (clear_spaced ts) in (
        (t, at) ∷ more.0,
        subst (λ (l : List ℕ). AreTokens L at l ((t, at) ∷ more.0))
            (sym (append_assoc (spelling t) (spaced spelling ts) end))
            (takes at (spelling t ++ rest) t (spelling t) rest more.0 stands.0 stands.1 more.1),
        ap (λ (l : List T). t ∷ l) more.2,
      )

  spaced_read : (ts : List T) → AllByRecursion Can ts → (at : ℕ) → ReadsAs L at (spaced spelling ts ++ end) ts
  spaced_read [] all at = ended at
  spaced_read (t ∷ ts) all at =
      let rest : List ℕ = (spelling t ++ spaced spelling ts) ++ end in
      let more = token_read t ts all.0 (at + 1) (spaced_read ts all.1 (at + 1 + length (spelling t))) in
      (more.0, passes at (32 ∷ rest) (32 ∷ []) rest more.0 (space rest).1 more.1, more.2)

  pub written_read : (ts : List T) → AllByRecursion Can ts → (at : ℕ) → ReadsAs L at (written spelling ts ++ end) ts
  written_read [] all at = ended at
  written_read (t ∷ ts) all at = token_read t ts all.0 at (spaced_read ts all.1 (at + length (spelling t)))

-- ---- what is written is text

pub all_ascii : (test : ℕ → Bool) → ((b : ℕ) → test b ≡ true → b < 128) → (bs : List ℕ) → list_all test bs ≡ true
    → IsAscii bs
all_ascii test low [] are = IsAscii-nil
all_ascii test low (b ∷ bs) are =
    let parts = and_parts (test b) (list_all test bs) are in
    IsAscii-cons b bs (low b parts.0) (all_ascii test low bs parts.1)

module _ {T : Type 0} (spelling : T → List ℕ) (Can : T → Type 0) (ascii : (t : T) → Can t → IsAscii (spelling t)) where
  spaced_ascii : (ts : List T) → AllByRecursion Can ts → IsAscii (spaced spelling ts)
  spaced_ascii [] all = IsAscii-nil
  spaced_ascii (t ∷ ts) all =
      IsAscii-cons 32 (spelling t ++ spaced spelling ts) (omega arith)
      (IsAscii-append (spelling t) (spaced spelling ts) (ascii t all.0) (spaced_ascii ts all.1))

  pub written_ascii : (ts : List T) → AllByRecursion Can ts → IsAscii (written spelling ts)
  written_ascii [] all = IsAscii-nil
  written_ascii (t ∷ ts) all =
      IsAscii-append (spelling t) (spaced spelling ts) (ascii t all.0) (spaced_ascii ts all.1)
