-- Each text has one answer: the source that it is, or its fault.
use Rattle.std.specs.Prelude.{◌≡◌, ℕ, Bool, true, false, List, length, Option, Result, Ok, Err, refl}
use Rattle.std.proofs.Common.{sym, ap, ◌∙◌, true≢false}
use Rattle.grammars.specs.Outcome.{Outcome, Got, Wrong, Deep}
use Rattle.ivy_syntax.specs.declared.tree.Source.{Source}
use Rattle.ivy_syntax.specs.declared.fault.ParseFault.{ParseFault}
use Rattle.ivy_syntax.specs.declared.fault.ParseFault.TheVariants as faults
use Rattle.ivy_syntax.specs.Token.{Token, End}
use Rattle.ivy_syntax.specs.Tokens.{Placed, AreTokens}
use Rattle.ivy_syntax.specs.Descent.{file_at}
use Rattle.ivy_syntax.specs.Limits.{FirstPassed}
use Rattle.ivy_syntax.specs.Texts.{AnswersText, TextLaws}
use Rattle.ivy_syntax.specs.Answering.{AnswersOr, unpassed}
use Rattle.ivy_syntax.proofs.Readings.{one_reading}
use Rattle.ivy_syntax.proofs.Verdict.{Reached, Told, told}
use Rattle.ivy_syntax.proofs.CountedLimits.{kinds_of, NoneBefore, first_passed}
use Rattle.ivy_syntax.proofs.Faults.{places_of, source_there, syntax_there, deep_some, none_before, passed_there}
use Rattle.ivy_syntax.proofs.OneAnswer.{one_answer}

abbrev is_end : Token → Bool
is_end End = true
is_end _ = false

the_end : (t : Token) → is_end t ≡ true → t ≡ End
the_end End is = refl
the_end _ is = absurd (true≢false (sym is))

not_end : (t : Token) → is_end t ≡ false → t ≡ End → ⊥
not_end t is ends = true≢false (sym (ap is_end ends) ∙ is)

-- ---- some answer

HasAnswer : List ℕ → Type 0
HasAnswer text = (answer : Result Source ParseFault) × AnswersText text answer

module _ (text : List ℕ) (ts : List Placed) (are : AreTokens 0 text ts) (found : Option (ℕ × ℕ))
    (first : FirstPassed (kinds_of ts) found) where
  -- a counted limit that is passed before the rest, or else what is known where none is
  or_else : (rest : List Placed) (r : Reached ts rest) (o : Result (Unit {0}) ParseFault)
      → unpassed (places_of ts) (length rest) found ≡ o → (NoneBefore (kinds_of ts) (length r.front) → HasAnswer text)
      → HasAnswer text
  unfolding HasAnswer
  or_else rest r (Ok _) is other = other (none_before text ts are rest r found first is)
  or_else rest r (Err fault) is other = (Err fault, passed_there text ts are rest r found first fault is)

  some_by : (o : Outcome Placed Source) → Told ts o → HasAnswer text
  unfolding HasAnswer
  some_by (Got s rest) h = or_else rest h.0 (unpassed (places_of ts) (length rest) found) refl
      (λ none. by none (is_end h.0.token.0) refl)
    where
      by : NoneBefore (kinds_of ts) (length h.0.front) → (b : Bool) → is_end h.0.token.0 ≡ b → HasAnswer text
      by none true is =
          let ends : h.0.token.0 ≡ End = the_end h.0.token.0 is in
          let whole = h.1 ends in
          (Ok s, source_there text ts are rest h.0 none s ends whole.0 whole.1)
      by none false is = (
        Err (faults.Syntax h.0.token.1),
        syntax_there text ts are rest h.0 none (h.2 (not_end h.0.token.0 is)),
      )
  some_by (Wrong rest) h = or_else rest h.0 (unpassed (places_of ts) (length rest) found) refl
      (λ none. (Err (faults.Syntax h.0.token.1), syntax_there text ts are rest h.0 none h.1))
  some_by (Deep rest) h = or_else rest h.0 (unpassed (places_of ts) (length rest) found) refl
      (λ none. (let limit = deep_some text ts are rest h.0 none h.1 h.2 in
      (Err (faults.TooMany limit.0 h.0.token.1), limit.1)))

some_answer : (text : List ℕ) → (answer : Result Source ParseFault) × AnswersText text answer
unfolding HasAnswer
some_answer text =
    let read = one_reading 0 text in
    let found = first_passed (kinds_of read.0) in
    some_by text read.0 read.1 found.0 found.1 (file_at 32 read.0) (told text read.0 read.1)

pub text_laws : TextLaws
text_laws = record { some = some_answer; one = one_answer }

-- what is answered is the answer, unless memory ran out
pub told_answer : (text : List ℕ) (result answer : Result Source ParseFault) → AnswersOr text result
    → AnswersText text answer → (result ≡ Err faults.NoMemory → ⊥) → result ≡ answer
told_answer text (Ok source) answer h k not = one_answer text (Ok source) answer h k
told_answer text (Err (faults.Syntax at)) answer h k not = one_answer text (Err (faults.Syntax at)) answer h k
told_answer text (Err (faults.TooMany what at)) answer h k not =
    one_answer text (Err (faults.TooMany what at)) answer h k
told_answer text (Err faults.NoMemory) answer h k not = absurd (not refl)
