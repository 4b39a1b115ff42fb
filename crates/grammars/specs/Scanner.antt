-- How the front of a text is found, and that each text then has exactly one list of tokens. Laws with their proofs.
use Rattle.std.specs.Prelude.{◌≡◌, ◌≤◌, ◌<◌, ◌+◌, ℕ, zero, suc, List, [], ◌∷◌, ◌++◌, length, take, drop}
use Rattle.std.specs.Prelude.{Option, Some, None, refl}
use Rattle.std.proofs.Common.{sym, ap, ◌∙◌, subst, arith, length-append}
use Rattle.std.proofs.lemmas.Bool.{cases_eq}
use Rattle.std.proofs.Common.{◌⊎◌, inl, inr}
use Rattle.std.proofs.lemmas.Option.{none-some, same_Some}
use Rattle.std.proofs.lemmas.List.{take_at, drop_at}
use Rattle.grammars.specs.Tokens.{Lexicon, Begins, Longest, NoToken, NoGap, AreTokens, ends, passes, takes, stops}
use Rattle.grammars.specs.Tokens.{EachHasOneReading}

-- ---- how the front is found

-- What is found is a gap that begins the text.
pub record IsGap {T : Type 0} (L : Lexicon T) (text : List ℕ) (len : ℕ) : Type 0 where
  pub gap : List ℕ
  pub rest : List ℕ
  pub begins : L.BeginsGap text gap rest
  pub size : length gap ≡ len

-- A gap that begins the text is of this length.
pub record HasLength (text gap rest : List ℕ) (len : ℕ) : Type 0 where
  pub whole : text ≡ gap ++ rest
  pub some : 0 < length gap
  pub size : length gap ≡ len

-- What is found is a token that begins the text.
pub record IsToken {T : Type 0} (L : Lexicon T) (text : List ℕ) (token : T) (len : ℕ) : Type 0 where
  pub bytes : List ℕ
  pub rest : List ℕ
  pub begins : Begins L text token bytes rest
  pub size : length bytes ≡ len
  pub some : 0 < len

-- Where a token begins the text, it is found or a longer one, and it where a rest like this follows.
pub record Reaches {T : Type 0} (Clear : List ℕ → Type 0) (found : Option (T × ℕ)) (token : T) (bytes rest : List ℕ)
    : Type 0 where
  pub other : T
  pub len : ℕ
  pub is : found ≡ Some (other, len)
  pub within : length bytes ≤ len
  pub same : length bytes ≡ len → other ≡ token
  pub exact : Clear rest → len ≡ length bytes

-- How long a gap the text begins with (0: none), and the longest token. A token is never cut short by what follows it
-- where that is clear.
pub record Scanner {T : Type 0} (L : Lexicon T) (Clear : List ℕ → Type 0) : Type 0 where
  pub gap : List ℕ → ℕ
  pub token : List ℕ → Option (T × ℕ)
  pub gap_is : (text : List ℕ) → 0 < gap text → IsGap L text (gap text)
  pub gap_found : (text bytes rest : List ℕ) → L.BeginsGap text bytes rest → HasLength text bytes rest (gap text)
  pub token_is : (text : List ℕ) (t : T) (len : ℕ) → token text ≡ Some (t, len) → IsToken L text t len
  pub token_found : (text : List ℕ) (t : T) (bytes rest : List ℕ) → Begins L text t bytes rest
      → Reaches Clear (token text) t bytes rest

-- two fronts of one text that are as long are the same, and so is what follows them
same_front : (text a b r s : List ℕ) → text ≡ a ++ r → text ≡ b ++ s → length a ≡ length b → (a ≡ b) × (r ≡ s)
same_front text a b r s first second size = (
  sym (take_at a r (length a) refl) ∙ ap (take (length a)) (sym first ∙ second) ∙ take_at b s (length a) (sym size),
  sym (drop_at a r (length a) refl) ∙ ap (drop (length a)) (sym first ∙ second) ∙ drop_at b s (length a) (sym size),
)

module _ {T : Type 0} (L : Lexicon T) (Clear : List ℕ → Type 0) (scanner : Scanner L Clear) where
  -- ---- gaps

  pub no_gap : (text : List ℕ) → scanner.gap text ≡ 0 → NoGap L text
  no_gap text none gap rest begins =
      let found = scanner.gap_found text gap rest begins in
      absurd (omega (arith, found.some, found.size, none))

  pub gap_none : (text : List ℕ) → NoGap L text → scanner.gap text ≡ 0
  gap_none text none = by (cases_eq (scanner.gap text) 0)
    where
      by : (scanner.gap text ≡ 0) ⊎ (scanner.gap text ≡ 0 → ⊥) → scanner.gap text ≡ 0
      by (inl is) = is
      by (inr some) =
          let found = scanner.gap_is text (omega (arith, some)) in absurd (none found.gap found.rest found.begins)

  pub gap_within : (text : List ℕ) → scanner.gap text ≤ length text
  gap_within text = by (cases_eq (scanner.gap text) 0)
    where
      by : (scanner.gap text ≡ 0) ⊎ (scanner.gap text ≡ 0 → ⊥) → scanner.gap text ≤ length text
      by (inl is) = omega (arith, is)
      by (inr some) =
          let is = scanner.gap_is text (omega (arith, some)) in
          let found = scanner.gap_found text is.gap is.rest is.begins in
          omega (arith, found.size, ap (λ (l : List ℕ). length l) found.whole, length-append is.gap is.rest)

  one_gap : (text a b r s : List ℕ) → L.BeginsGap text a r → L.BeginsGap text b s → (a ≡ b) × (r ≡ s)
  one_gap text a b r s h k =
      let first = scanner.gap_found text a r h in
      let second = scanner.gap_found text b s k in
      same_front text a b r s first.whole second.whole (first.size ∙ sym second.size)

  -- ---- the longest token

  pub longest_found : (text : List ℕ) (t : T) (len : ℕ) (found : IsToken L text t len)
      → scanner.token text ≡ Some (t, len)
      → Longest L text t found.bytes found.rest
  longest_found text t len found is = record {
    begins = found.begins;
    longest = λ other others more begins.
        (let r = scanner.token_found text other others more begins in
        let same = same_Some (r.other, r.len) (t, len) (sym r.is ∙ is) in
        omega (arith, r.within, ap (λ (p : T × ℕ). p.1) same, found.size));
  }

  pub no_token : (text : List ℕ) → scanner.token text ≡ None → NoToken L text
  no_token text none t bytes rest begins =
      let r = scanner.token_found text t bytes rest begins in none-some (r.other, r.len) (sym none ∙ r.is)

  -- a longest token is what is found
  found_longest : (text : List ℕ) (t : T) (bytes rest : List ℕ) → Longest L text t bytes rest
      → scanner.token text ≡ Some (t, length bytes)
  found_longest text t bytes rest long =
      let r = scanner.token_found text t bytes rest long.begins in
      let is = scanner.token_is text r.other r.len r.is in
      let size : length bytes ≡ r.len =
      omega (arith, r.within, long.longest r.other is.bytes is.rest is.begins, is.size) in
      r.is ∙ ap (λ (o : T). Some (o, r.len)) (r.same size) ∙ ap (λ (n : ℕ). Some (t, n)) (sym size)

  some_bytes : (text : List ℕ) (t : T) (bytes rest : List ℕ) → Longest L text t bytes rest → 0 < length bytes
  some_bytes text t bytes rest long =
      (scanner.token_is text t (length bytes) (found_longest text t bytes rest long)).some

  one_token : (text : List ℕ) (t u : T) (a b r s : List ℕ) → Longest L text t a r → Longest L text u b s
      → (t ≡ u) × (a ≡ b) × (r ≡ s)
  one_token text t u a b r s h k =
      let same = same_Some (t, length a) (u, length b)
      (sym (found_longest text t a r h) ∙ found_longest text u b s k) in
      let fronts = same_front text a b r s h.begins.whole k.begins.whole (ap (λ (p : T × ℕ). p.1) same) in
      (ap (λ (p : T × ℕ). p.0) same, fronts.0, fronts.1)

  pub token_within : (text : List ℕ) (t : T) (len : ℕ) → scanner.token text ≡ Some (t, len)
      → (0 < len) × (len ≤ length text)
  token_within text t len is =
      let found = scanner.token_is text t len is in (
        found.some,
        omega (
          arith,
          found.size,
          ap (λ (l : List ℕ). length l) found.begins.whole,
          length-append found.bytes found.rest,
        ),
      )

  -- A token is the longest where a clear rest follows.
  pub longest_before : (t : T) (bytes rest : List ℕ) → L.Spells t bytes → L.EndsBefore t rest → Clear rest
      → Longest L (bytes ++ rest) t bytes rest
  longest_before t bytes rest spelled apart clear =
      let begins : Begins L (bytes ++ rest) t bytes rest = record { whole = refl; spelled = spelled; ends = apart } in
      let r = scanner.token_found (bytes ++ rest) t bytes rest begins in
      let is = scanner.token_is (bytes ++ rest) r.other r.len r.is in
      let long = longest_found (bytes ++ rest) r.other r.len is r.is in
      record {
        begins = begins;
        longest = λ other others more h. omega (arith, long.longest other others more h, is.size, r.exact clear);
      }

  -- ---- some list of tokens

  abbrev Found : ℕ → List ℕ → Type 0
  Found at text = (tokens : List (T × ℕ)) × AreTokens L at text tokens

  -- where each shorter text has some
  first_tokens : (at b : ℕ) (text : List ℕ) → ((on : ℕ) (rest : List ℕ) → length rest ≤ length text → Found on rest)
      → Found at (b ∷ text)
  first_tokens at b text shorter = by (cases_eq (scanner.gap (b ∷ text)) 0) (scanner.token (b ∷ text)) refl
    where
      less : (bytes rest : List ℕ) → b ∷ text ≡ bytes ++ rest → 0 < length bytes → length rest ≤ length text
      less bytes rest whole some =
          omega (arith, ap (λ (l : List ℕ). length l) whole, length-append bytes rest, some)

      by : (scanner.gap (b ∷ text) ≡ 0) ⊎ (scanner.gap (b ∷ text) ≡ 0 → ⊥) → (found : Option (T × ℕ))
          → scanner.token (b ∷ text) ≡ found
          → Found at (b ∷ text)
      by (inr some) found is =
          let gap = scanner.gap_is (b ∷ text) (omega (arith, some)) in
          let has = scanner.gap_found (b ∷ text) gap.gap gap.rest gap.begins in
          let more = shorter (at + length gap.gap) gap.rest (less gap.gap gap.rest has.whole has.some) in
          (more.0, passes at (b ∷ text) gap.gap gap.rest more.0 gap.begins more.1)
      by (inl none) None is = ((L.bad, at) ∷ [], stops at b text (no_gap (b ∷ text) none) (no_token (b ∷ text) is))
      by (inl none) (Some (t, len)) is =
          let token = scanner.token_is (b ∷ text) t len is in
          let more = shorter (at + length token.bytes) token.rest
          (less token.bytes token.rest token.begins.whole (omega (arith, token.size, token.some))) in (
            (t, at) ∷ more.0,
            takes at (b ∷ text) t token.bytes token.rest more.0 (no_gap (b ∷ text) none)
                (longest_found (b ∷ text) t len token is) more.1,
          )

  some_tokens : (fuel at : ℕ) (text : List ℕ) → length text ≤ fuel → Found at text
  some_tokens fuel at [] short = ((L.end, at) ∷ [], ends at)
  some_tokens zero at (b ∷ text) short = absurd (omega arith)
  some_tokens (suc fuel) at (b ∷ text) short =
      first_tokens at b text (λ on rest less. some_tokens fuel on rest (omega (arith, less, short)))

  -- ---- and one alone

  some_gap : (gap rest : List ℕ) → L.BeginsGap [] gap rest → ⊥
  some_gap gap rest h =
      let has = scanner.gap_found [] gap rest h in
      omega (arith, has.some, ap (λ (l : List ℕ). length l) has.whole, length-append gap rest)

  some_token : (t : T) (bytes rest : List ℕ) → Longest L [] t bytes rest → ⊥
  some_token t bytes rest long =
      omega (
        arith,
        some_bytes [] t bytes rest long,
        ap (λ (l : List ℕ). length l) long.begins.whole,
        length-append bytes rest,
      )

  moved : (at : ℕ) (a b r s : List ℕ) (tokens : List (T × ℕ)) → a ≡ b → r ≡ s → AreTokens L (at + length b) s tokens
      → AreTokens L (at + length a) r tokens
  moved at a b r s tokens bytes rest h =
      subst (λ (l : List ℕ). AreTokens L (at + length l) r tokens) (sym bytes)
      (subst (λ (l : List ℕ). AreTokens L (at + length b) l tokens) (sym rest) h)

  one_list : (at : ℕ) (text : List ℕ) (a b : List (T × ℕ)) → AreTokens L at text a → AreTokens L at text b → a ≡ b
  one_list _ _ _ _ (ends _) (ends _) = refl
  one_list _ _ _ _ (ends _) (passes _ _ gap rest _ begins _) = absurd (some_gap gap rest begins)
  one_list _ _ _ _ (ends _) (takes _ _ t bytes rest _ _ long _) = absurd (some_token t bytes rest long)
  one_list _ _ _ _ (passes _ _ gap rest _ begins _) (ends _) = absurd (some_gap gap rest begins)
  one_list _ _ _ _ (passes at text a r tokens begins more) (passes _ _ b s others begun behind) =
      let same = one_gap text a b r s begins begun in
      one_list (at + length a) r tokens others more (moved at a b r s others same.0 same.1 behind)
  one_list _ _ _ _ (passes _ _ gap rest _ begins _) (takes _ _ _ _ _ _ none _ _) = absurd (none gap rest begins)
  one_list _ _ _ _ (passes _ _ gap rest _ begins _) (stops _ _ _ none _) = absurd (none gap rest begins)
  one_list _ _ _ _ (takes _ _ t bytes rest _ _ long _) (ends _) = absurd (some_token t bytes rest long)
  one_list _ _ _ _ (takes _ _ _ _ _ _ none _ _) (passes _ _ gap rest _ begins _) = absurd (none gap rest begins)
  one_list _ _ _ _ (takes at text t a r tokens _ long more) (takes _ _ u b s others _ best behind) =
      let same = one_token text t u a b r s long best in
      let equal = one_list (at + length a) r tokens others more (moved at a b r s others same.1 same.2 behind) in
      ap (λ (x : T). (x, at) ∷ tokens) same.0 ∙ ap (λ (l : List (T × ℕ)). (u, at) ∷ l) equal
  one_list _ _ _ _ (takes _ _ t bytes rest _ _ long _) (stops _ _ _ _ none) = absurd (none t bytes rest long.begins)
  one_list _ _ _ _ (stops _ _ _ none _) (passes _ _ gap rest _ begins _) = absurd (none gap rest begins)
  one_list _ _ _ _ (stops _ _ _ _ none) (takes _ _ t bytes rest _ _ long _) = absurd (none t bytes rest long.begins)
  one_list _ _ _ _ (stops _ _ _ _ _) (stops _ _ _ _ _) = refl

  pub one_reading : EachHasOneReading L
  one_reading at text =
      let some = some_tokens (length text) at text (omega arith) in
      (some.0, some.1, λ others are. one_list at text some.0 others some.1 are)
