-- No text has two answers.
use Rattle.std.specs.Prelude.{◌≡◌, ◌⊎◌, ◌<◌, ℕ, List, [], ◌∷◌, ◌++◌, length, map, reverse, None}
use Rattle.std.specs.Prelude.{Result, Ok, Err, refl}
use Rattle.std.proofs.Common.{sym, ap, ◌∙◌, inl, inr, subst, arith}
use Rattle.std.proofs.lemmas.Option.{none-some, same_Some}
use Rattle.std.proofs.lemmas.List.{append-nil, map-append, length-append}
use mathlib.Core.List.{append_assoc}
use Rattle.grammars.specs.Text.{Begins, Ended, next, begins_front, none_in_text}
use Rattle.grammars.specs.Outcome.{Outcome, Got, Wrong, Deep}
use Rattle.grammars.specs.Part.{Goes, Alike, Decides}
use Rattle.grammars.specs.Places.{kinds}
use Rattle.ivy_syntax.specs.declared.tree.Source.{Source}
use Rattle.ivy_syntax.specs.declared.fault.ParseFault.{ParseFault}
use Rattle.ivy_syntax.specs.declared.fault.ParseFault.TheVariants as faults
use Rattle.ivy_syntax.specs.declared.lexeme.Symbol.TheVariants as symbol
use Rattle.ivy_syntax.specs.Token.{Token, Sign, End}
use Rattle.ivy_syntax.specs.Tokens.{Placed, AreTokens}
use Rattle.ivy_syntax.specs.Token.{kind_of}
use Rattle.ivy_syntax.specs.Grammar.{File}
use Rattle.ivy_syntax.specs.Descent.{file_at}
use Rattle.ivy_syntax.specs.Limits.{passes, passes_at}
use Rattle.ivy_syntax.specs.Texts.{IsSource, IsAnySource, BeginsSource, Passes, counted, nested, AreWithin}
use Rattle.ivy_syntax.specs.Texts.{ReadsAs, SyntaxAt, TooManyAt, AnswersText}
use Rattle.ivy_syntax.proofs.Pieces.{Fine}
use Rattle.ivy_syntax.proofs.Parts.{OrContract}
use Rattle.ivy_syntax.proofs.Readings.{one_reading}
use Rattle.ivy_syntax.proofs.Files.{decides_file_within}
use Rattle.ivy_syntax.proofs.Verdict.{others_of, AnyFile}
use Rattle.ivy_syntax.proofs.Clean.{file_ends}
use Rattle.ivy_syntax.proofs.CountedLimits.{kinds_of, passes_there, none_front, none_at_end}

-- ---- one list of tokens, and one tree

one_tokens : (text : List ℕ) (a b : List Placed) → AreTokens 0 text a → AreTokens 0 text b → a ≡ b
one_tokens text a b h k = let one = one_reading 0 text in sym (one.2 a h) ∙ one.2 b k

-- tokens are alike to themselves
all_alike : (used rest u : List Placed) → u ≡ used ++ rest → Alike used rest (u ++ [])
all_alike used rest u split = record { tail = rest; split = append-nil u ∙ split; same = refl }

one_by : (u : List Placed) (o : Outcome Placed Source) → Decides Fine (File 32) AnyFile OrContract u o
    → (a b : Source) → File 32 u a → File 32 u b → a ≡ b
one_by u (Got v rest) h a b first second =
    let like = all_alike h.used rest u h.split in
    by (h.sure u [] a (32, first) like) (h.sure u [] b (32, second) like)
  where
    by : ((u ≡ h.used) × (a ≡ v)) ⊎ Goes OrContract [] → ((u ≡ h.used) × (b ≡ v)) ⊎ Goes OrContract [] → a ≡ b
    by (inl x) (inl y) = x.1 ∙ sym y.1
    by (inr goes) y = absurd goes
    by (inl x) (inr goes) = absurd goes
one_by u (Wrong rest) h a b first second = absurd (h.none u [] a (32, first) (all_alike h.front rest u h.split))
one_by u (Deep rest) h a b first second = absurd (h.none u [] a first (all_alike h.front rest u h.split))

one_tree : (u : List Placed) (a b : Source) → File 32 u a → File 32 u b → a ≡ b
one_tree u = one_by u (file_at 32 u) (decides_file_within u)

-- ---- two places in one list

-- how two tokens of one list stand to one another, by the tokens before them
pub data Order (f : List Placed) (p : Placed) (g : List Placed) (q : Placed) : Type 0 where
  earlier : (between : List Placed) → g ≡ f ++ (p ∷ between) → Order f p g q
  same : f ≡ g → p ≡ q → Order f p g q
  later : (between : List Placed) → f ≡ g ++ (q ∷ between) → Order f p g q

pub order : (f g : List Placed) (p q : Placed) (r s : List Placed) → f ++ (p ∷ r) ≡ g ++ (q ∷ s) → Order f p g q
order [] [] p q r s split = same refl (same_Some p q (ap next split))
order [] (t ∷ g) p q r s split = earlier g (ap (λ t. t ∷ g) (sym (same_Some p t (ap next split))))
order (t ∷ f) [] p q r s split = later f (ap (λ t. t ∷ f) (same_Some t q (ap next split)))
order (t ∷ f) (u ∷ g) p q r s split = more (order f g p q r s (ap others_of split))
  where
    one : t ≡ u
    one = same_Some t u (ap next split)

    more : Order f p g q → Order (t ∷ f) p (u ∷ g) q
    more (earlier between is) = earlier between (ap (λ t. t ∷ g) (sym one) ∙ ap (λ g. t ∷ g) is)
    more (same fronts tokens) = same (ap (λ t. t ∷ f) one ∙ ap (λ f. u ∷ f) fronts) tokens
    more (later between is) = later between (ap (λ t. t ∷ f) one ∙ ap (λ f. u ∷ f) is)

kinds_split : (front : List Placed) (t : Placed) (behind : List Placed)
    → kinds (front ++ (t ∷ behind)) ≡ (kinds front ++ (t.0 ∷ [])) ++ kinds behind
kinds_split front t behind = map-append (λ (p : Placed). p.0) front (t ∷ behind)
    ∙ sym (append_assoc (kinds front) (t.0 ∷ []) (kinds behind))

-- what begins with tokens begins with those up to one of them
up_to : {L : List Token → Type 0} (g f : List Placed) (p : Placed) (between : List Placed) → g ≡ f ++ (p ∷ between)
    → Begins (Ended L End) (kinds g) → Begins (Ended L End) (kinds f ++ (p.0 ∷ []))
up_to {L} g f p between is begins = begins_front (Ended L End) (kinds f ++ (p.0 ∷ [])) (kinds between)
    (subst (Begins (Ended L End)) (ap kinds is ∙ kinds_split f p between) begins)

-- a token within the limits passes none
none_within : (g f : List Placed) (p : Placed) (between : List Placed) → g ≡ f ++ (p ∷ between) → AreWithin (kinds g)
    → (number : ℕ) → Passes (kinds f) p.0 number → ⊥
none_within g f p between is within _ (counted number passed) =
    none-some number (sym (few (length f) (below f p between is)) ∙ passes_there f p between ∙ passed)
  where
    few : (at : ℕ) → at < length g → passes_at (kinds_of (f ++ (p ∷ between))) at ≡ None
    few at short = ap (λ (l : List Placed). passes_at (kinds_of l) at) (sym is)
        ∙ ap (λ (l : List Placed). passes_at (kinds_of l) at) (sym (append-nil g))
        ∙ none_front g [] within.counted at short

    below : (f : List Placed) (p : Placed) (between : List Placed) → g ≡ f ++ (p ∷ between) → length f < length g
    below f p between is =
        omega (arith, ap (λ (l : List Placed). length l) is, length-append f (p ∷ between))
none_within g f p between is within _ (nested some none) = none (up_to g f p between is within.nested)

-- ---- one answer

module _ (text : List ℕ) where
  -- the tokens of a text that is read are those of a source
  source : (s : Source) (h : ReadsAs text s) → IsSource 32 (kinds h.tokens)
  source s h = record {
    text = text;
    placed = h.tokens;
    end = h.end;
    are = h.are;
    same = refl;
    tree = s;
    reads = h.reads;
  }

  ended : (s : Source) (h : ReadsAs text s) → Ended (IsSource 32) End (kinds h.tokens ++ (End ∷ []))
  ended s h = record { before = kinds h.tokens; all = refl; text = source s h }

  source_within : (s : Source) (h : ReadsAs text s) → AreWithin (kinds h.tokens)
  source_within s h = record { nested = (End ∷ [], ended s h); counted = h.few }

  both_read : (a b : Source) → ReadsAs text a → ReadsAs text b → a ≡ b
  both_read a b h k =
      by (order h.tokens k.tokens (End, h.end) (End, k.end) [] [] split)
    where
      split : h.tokens ++ ((End, h.end) ∷ []) ≡ k.tokens ++ ((End, k.end) ∷ [])
      split = one_tokens text (h.tokens ++ ((End, h.end) ∷ [])) (k.tokens ++ ((End, k.end) ∷ [])) h.are k.are

      sizes : length (h.tokens ++ ((End, h.end) ∷ [])) ≡ length (k.tokens ++ ((End, k.end) ∷ []))
      sizes = ap (λ (l : List Placed). length l) split

      ends : length h.tokens ≡ length k.tokens
      ends = omega (
        arith,
        sizes,
        length-append h.tokens ((End, h.end) ∷ []),
        length-append k.tokens ((End, k.end) ∷ []),
      )

      by : Order h.tokens (End, h.end) k.tokens (End, k.end) → a ≡ b
      by (earlier between is) = absurd (omega (
        arith,
        ends,
        ap (λ (l : List Placed). length l) is,
        length-append h.tokens ((End, h.end) ∷ between),
      ))
      by (same fronts tokens) = one_tree h.tokens a b h.reads (subst (λ u. File 32 u b) (sym fronts) k.reads)
      by (later between is) = absurd (omega (
        arith,
        ends,
        ap (λ (l : List Placed). length l) is,
        length-append k.tokens ((End, k.end) ∷ between),
      ))

  read_no_syntax : (s : Source) (at : ℕ) → ReadsAs text s → SyntaxAt text at → ⊥
  read_no_syntax s at h k = none_in_text (Ended IsAnySource End) (kinds k.tokens) (kinds k.front) k.wrong
      (kinds k.behind) (subst (λ ts. Ended IsAnySource End (kinds ts)) tokens any) k.first
    where
      tokens : h.tokens ++ ((End, h.end) ∷ []) ≡ k.tokens
      tokens = one_tokens text (h.tokens ++ ((End, h.end) ∷ [])) k.tokens h.are k.are

      any : Ended IsAnySource End (kinds (h.tokens ++ ((End, h.end) ∷ [])))
      any = record {
        before = kinds h.tokens;
        all = map-append (λ (p : Placed). p.0) h.tokens ((End, h.end) ∷ []);
        text = (32, source s h);
      }

  -- the end of a source passes no limit
  end_passes : (s : Source) (h : ReadsAs text s) (number : ℕ) → Passes (kinds h.tokens) End number → ⊥
  end_passes s h _ (counted number passed) =
      let e = file_ends h.reads in
      let none : passes (reverse (kinds_of h.tokens)) (kind_of End) ≡ None =
      ap (λ (ks : List Token). passes (reverse (map kind_of ks)) (kind_of End))
      (ap kinds e.all ∙ map-append (λ (p : Placed). p.0) e.before ((Sign symbol.CloseBrace, e.place) ∷ []))
      ∙ none_at_end (kinds e.before) in
      none-some number (sym none ∙ passed)
  end_passes s h _ (nested some none) =
      none ([], subst (Ended (IsSource 32) End) (sym (append-nil (kinds h.tokens ++ (End ∷ [])))) (ended s h))

  read_no_limit : (s : Source) (what at : ℕ) → ReadsAs text s → TooManyAt text what at → ⊥
  read_no_limit s what at h k = by (order h.tokens k.front (End, h.end) (k.token, at) [] k.behind split)
    where
      split : h.tokens ++ ((End, h.end) ∷ []) ≡ k.front ++ ((k.token, at) ∷ k.behind)
      split = one_tokens text (h.tokens ++ ((End, h.end) ∷ [])) k.tokens h.are k.are ∙ k.split

      by : Order h.tokens (End, h.end) k.front (k.token, at) → ⊥
      by (earlier between is) = omega (
        arith,
        ap (λ (l : List Placed). length l) split,
        ap (λ (l : List Placed). length l) is,
        length-append h.tokens ((End, h.end) ∷ []),
        length-append h.tokens ((End, h.end) ∷ between),
        length-append k.front ((k.token, at) ∷ k.behind),
      )
      by (same fronts tokens) = end_passes s h what
          (subst (λ (t : Placed). Passes (kinds h.tokens) t.0 what) (sym tokens)
          (subst (λ f. Passes (kinds f) k.token what) (sym fronts) k.passed))
      by (later between is) =
          none_within h.tokens k.front (k.token, at) between is (source_within s h) what k.passed

  one_syntax : (a b : ℕ) → SyntaxAt text a → SyntaxAt text b → a ≡ b
  one_syntax a b h k = by (order h.front k.front (h.wrong, a) (k.wrong, b) h.behind k.behind
      (sym h.split ∙ one_tokens text h.tokens k.tokens h.are k.are ∙ k.split))
    where
      by : Order h.front (h.wrong, a) k.front (k.wrong, b) → a ≡ b
      by (earlier between is) =
          absurd (h.first.none (up_to {L = IsAnySource} k.front h.front (h.wrong, a) between is k.first.before))
      by (same fronts tokens) = ap (λ (p : Placed). p.1) tokens
      by (later between is) =
          absurd (k.first.none (up_to {L = IsAnySource} h.front k.front (k.wrong, b) between is h.first.before))

  syntax_no_limit : (a what b : ℕ) → SyntaxAt text a → TooManyAt text what b → ⊥
  syntax_no_limit a what b h k = by (order h.front k.front (h.wrong, a) (k.token, b) h.behind k.behind
      (sym h.split ∙ one_tokens text h.tokens k.tokens h.are k.are ∙ k.split))
    where
      by : Order h.front (h.wrong, a) k.front (k.token, b) → ⊥
      by (earlier between is) = h.first.none (up_to {L = IsAnySource} k.front h.front (h.wrong, a) between is
          (begins_front (Ended IsAnySource End) (kinds k.front) (k.token ∷ []) k.begins))
      by (same fronts tokens) = h.first.none
          (subst (λ (t : Placed). BeginsSource (kinds h.front ++ (t.0 ∷ []))) (sym tokens)
          (subst (λ f. BeginsSource (kinds f ++ (k.token ∷ []))) (sym fronts) k.begins))
      by (later between is) = none_within h.front k.front (k.token, b) between is h.within what k.passed

  one_limit : (what other a b : ℕ) → TooManyAt text what a → TooManyAt text other b → (what ≡ other) × (a ≡ b)
  one_limit what other a b h k = by (order h.front k.front (h.token, a) (k.token, b) h.behind k.behind
      (sym h.split ∙ one_tokens text h.tokens k.tokens h.are k.are ∙ k.split))
    where
      by : Order h.front (h.token, a) k.front (k.token, b) → (what ≡ other) × (a ≡ b)
      by (earlier between is) = absurd (none_within k.front h.front (h.token, a) between is k.within what h.passed)
      by (same fronts tokens) =
          let to : Passes (kinds k.front) k.token what =
          subst (λ f. Passes (kinds f) k.token what) fronts
          (subst (λ (t : Placed). Passes (kinds h.front) t.0 what) tokens h.passed) in
          let from : Passes (kinds h.front) h.token other =
          subst (λ f. Passes (kinds f) h.token other) (sym fronts)
          (subst (λ (t : Placed). Passes (kinds k.front) t.0 other) (sym tokens) k.passed) in
          (omega (arith, h.smallest other from, k.smallest what to), ap (λ (p : Placed). p.1) tokens)
      by (later between is) = absurd (none_within h.front k.front (k.token, b) between is h.within other k.passed)

  -- no two answers
  pub one_answer : (a b : Result Source ParseFault) → AnswersText text a → AnswersText text b → a ≡ b
  one_answer (Ok a) (Ok b) h k = ap Ok (both_read a b h k)
  one_answer (Ok a) (Err (faults.Syntax at)) h k = absurd (read_no_syntax a at h k)
  one_answer (Ok a) (Err (faults.TooMany what at)) h k = absurd (read_no_limit a what at h k)
  one_answer (Ok a) (Err faults.NoMemory) h k = absurd k
  one_answer (Err (faults.Syntax at)) (Ok b) h k = absurd (read_no_syntax b at k h)
  one_answer (Err (faults.Syntax a)) (Err (faults.Syntax b)) h k =
      ap (λ (at : ℕ). Err (faults.Syntax at)) (one_syntax a b h k)
  one_answer (Err (faults.Syntax a)) (Err (faults.TooMany what b)) h k = absurd (syntax_no_limit a what b h k)
  one_answer (Err (faults.Syntax a)) (Err faults.NoMemory) h k = absurd k
  one_answer (Err (faults.TooMany what at)) (Ok b) h k = absurd (read_no_limit b what at k h)
  one_answer (Err (faults.TooMany what a)) (Err (faults.Syntax b)) h k = absurd (syntax_no_limit b what a k h)
  one_answer (Err (faults.TooMany what a)) (Err (faults.TooMany other b)) h k =
      let one = one_limit what other a b h k in
      (λ i. Err (faults.TooMany (one.0 i) (one.1 i)))
  one_answer (Err (faults.TooMany what a)) (Err faults.NoMemory) h k = absurd k
  one_answer (Err faults.NoMemory) b h k = absurd h
