-- What is answered for a text by its lexemes is its answer.
use Rattle.std.specs.Prelude.{◌≡◌, ℕ, true, false, List, [], ◌∷◌, length, map}
use Rattle.std.specs.Prelude.{Option, Result, Ok, Err, IsErrAnd, refl}
use Rattle.std.proofs.Common.{sym, ap, ◌∙◌, subst, true≢false}
use Rattle.std.proofs.lemmas.Option.{none-some, same_Some}
use Rattle.std.proofs.lemmas.List.{length-map}
use Rattle.grammars.specs.Text.{next}
use Rattle.grammars.specs.Outcome.{Outcome, Got, Wrong, Deep}
use Rattle.ivy_syntax.specs.declared.tree.Source.{Source}
use Rattle.ivy_syntax.specs.declared.fault.ParseFault.{ParseFault}
use Rattle.ivy_syntax.specs.declared.fault.ParseFault.TheVariants as faults
use Rattle.ivy_syntax.specs.declared.lexeme.Kind.{Kind}
use Rattle.ivy_syntax.specs.declared.lexeme.Kind.TheVariants as kind
use Rattle.ivy_syntax.specs.declared.lexeme.Lexeme.{Lexeme}
use Rattle.ivy_syntax.specs.Token.{End, kind_of}
use Rattle.ivy_syntax.specs.Tokens.{Placed, AreTokens}
use Rattle.ivy_syntax.specs.Lexeme.{placed, tokens, token_of}
use Rattle.ivy_syntax.specs.Agreement.{Nests}
use Rattle.ivy_syntax.specs.Descent.{file_at}
use Rattle.ivy_syntax.specs.Limits.{FirstPassed}
use Rattle.ivy_syntax.specs.Texts.{BeginsSource, ReadsAs, TooManyAt, AnswersText}
use Rattle.ivy_syntax.specs.Answering.{AnswersOr, is_end, places, first_place, ends, cut_after, unpassed, IsCut}
use Rattle.ivy_syntax.proofs.Verdict.{Reached, Told, upto, shaped, told_shaped}
use Rattle.ivy_syntax.proofs.CountSteps.{kinds_placed}
use Rattle.ivy_syntax.proofs.Faults.{places_of}
use Rattle.ivy_syntax.proofs.CutTokens.{CutBehind, tokens_cut, shaped_cut}
use Rattle.ivy_syntax.proofs.CutTokens.{cut_passed, cut_source, cut_syntax, cut_deep}

-- ---- lexemes as tokens

end_of : (k : Kind) (bytes : List ℕ) → is_end k ≡ true → token_of k bytes ≡ End
end_of kind.End bytes is = refl
end_of _ bytes is = absurd (true≢false (sym is))

end_only : (k : Kind) (bytes : List ℕ) → is_end k ≡ false → token_of k bytes ≡ End → ⊥
end_only k bytes not ends =
    true≢false (ap is_end (sym (ap kind_of ends) ∙ kind_is k bytes) ∙ not)
  where
    kind_is : (k : Kind) (bytes : List ℕ) → kind_of (token_of k bytes) ≡ k
    kind_is (kind.Word k) bytes = refl
    kind_is kind.Name bytes = refl
    kind_is _ bytes = refl

pub places_are : (lexemes : List Lexeme) → places lexemes ≡ places_of (tokens lexemes)
places_are [] = refl
places_are (l ∷ lexemes) = ap (λ ps. l.at ∷ ps) (places_are lexemes)

ends_there : (rest : List Lexeme) (t : Placed) (behind : List Placed) → tokens rest ≡ t ∷ behind → ends rest ≡ true
    → t.0 ≡ End
ends_there [] t behind same is = absurd (true≢false (sym is))
ends_there (l ∷ rest) t behind same is =
    ap (λ (p : Placed). p.0) (sym (same_Some (placed l) t (ap next same))) ∙ end_of l.kind l.bytes.now is

goes_there : (rest : List Lexeme) (t : Placed) (behind : List Placed) → tokens rest ≡ t ∷ behind → ends rest ≡ false
    → t.0 ≡ End → ⊥
goes_there [] t behind same not is = none-some t (ap next same)
goes_there (l ∷ rest) t behind same not is = end_only l.kind l.bytes.now not
    (ap (λ (p : Placed). p.0) (same_Some (placed l) t (ap next same)) ∙ is)

place_there : (rest : List Lexeme) (t : Placed) (behind : List Placed) → tokens rest ≡ t ∷ behind
    → t.1 ≡ first_place (places rest)
place_there [] t behind same = absurd (none-some t (ap next same))
place_there (l ∷ rest) t behind same = ap (λ (p : Placed). p.1) (sym (same_Some (placed l) t (ap next same)))

-- the tokens of a text, cut after the first that passes a counted limit
pub cut_lexemes : (text : List ℕ) (all cut : List Lexeme) (passed : Option (ℕ × ℕ)) → AreTokens 0 text (tokens all)
    → FirstPassed (map (λ l. l.kind) all) passed → tokens cut ≡ cut_after (tokens all) passed
    → IsCut text (tokens cut) passed
cut_lexemes text all cut passed are first is = record {
  all = tokens all;
  are = are;
  first = subst (λ ks. FirstPassed ks passed) (sym (kinds_placed all)) first;
  cut = is;
}

-- a fault that is passed on
pub passed_on : (text : List ℕ) (result : Result Source ParseFault) (fault : ParseFault)
    → IsErrAnd result (λ other. other ≡ fault) → AnswersText text (Err fault) → AnswersOr text result
passed_on text (Ok source) fault is h = absurd is
passed_on text (Err faults.NoMemory) fault is h = tt
passed_on text (Err (faults.Syntax at)) fault is h = subst (λ f. AnswersText text (Err f)) (sym is) h
passed_on text (Err (faults.TooMany what at)) fault is h = subst (λ f. AnswersText text (Err f)) (sym is) h

module _ (text : List ℕ) (lexemes : List Lexeme) (passed : Option (ℕ × ℕ)) (whole : IsCut text (tokens lexemes) passed)
  where
    cut_is : CutBehind whole.all passed (tokens lexemes)
    cut_is = subst (CutBehind whole.all passed) (sym whole.cut) (tokens_cut whole.all passed)

    unpassed_is : (rest : List Lexeme) → unpassed (places lexemes) (length rest) passed
        ≡ unpassed (places_of (tokens lexemes)) (length (tokens rest)) passed
    unpassed_is rest =
        ap (λ (n : ℕ). unpassed (places lexemes) n passed) (sym (length-map rest placed))
        ∙ ap (λ ps. unpassed ps (length (tokens rest)) passed) (places_are lexemes)

    told_by : (o : Outcome Placed Source) → file_at 32 (tokens lexemes) ≡ o → Told (tokens lexemes) o
    told_by o is = subst (Told (tokens lexemes)) is
        (told_shaped (tokens lexemes) (shaped_cut whole.all (tokens lexemes) passed (shaped 0 text whole.all whole.are)
        cut_is))

    module _ (rest : List Lexeme) (r : Reached (tokens lexemes) (tokens rest)) where
      passed_by : (fault : ParseFault) → Err fault ≡ unpassed (places lexemes) (length rest) passed
          → AnswersText text (Err fault)
      passed_by fault is = cut_passed text whole.all whole.are passed whole.first (tokens lexemes) cut_is (tokens rest) r
          fault (sym (is ∙ unpassed_is rest))

      syntax_by : Ok tt ≡ unpassed (places lexemes) (length rest) passed → (BeginsSource (upto r) → ⊥)
          → (fault : ParseFault) → fault ≡ faults.Syntax (first_place (places rest)) → AnswersOr text (Err fault)
      syntax_by is stops fault syntax = subst (λ f. AnswersOr text (Err f))
          (ap faults.Syntax (place_there rest r.token r.behind r.first) ∙ sym syntax)
          (cut_syntax text whole.all whole.are passed whole.first (tokens lexemes) cut_is (tokens rest) r
          (sym (is ∙ unpassed_is rest)) stops)

    -- ---- a source first

    module _ (rest : List Lexeme) (source : Source) (read : file_at 32 (tokens lexemes) ≡ Got source (tokens rest)) where
      pub got_passed : (fault : ParseFault) → Err fault ≡ unpassed (places lexemes) (length rest) passed
          → AnswersText text (Err fault)
      got_passed fault is = passed_by rest (told_by (Got source (tokens rest)) read).0 fault is

      pub got_source : Ok tt ≡ unpassed (places lexemes) (length rest) passed → ends rest ≡ true → ReadsAs text source
      got_source is end =
          let h = told_by (Got source (tokens rest)) read in
          let r = h.0 in
          let closed = ends_there rest r.token r.behind r.first end in
          cut_source text whole.all whole.are passed whole.first (tokens lexemes) cut_is (tokens rest) r
          (sym (is ∙ unpassed_is rest)) source closed (h.1 closed).0 (h.1 closed).1

      pub got_early : Ok tt ≡ unpassed (places lexemes) (length rest) passed → ends rest ≡ false → (fault : ParseFault)
          → fault ≡ faults.Syntax (first_place (places rest)) → AnswersOr text (Err fault)
      got_early is goes fault syntax =
          let h = told_by (Got source (tokens rest)) read in
          let r = h.0 in
          syntax_by rest r is (h.2 (goes_there rest r.token r.behind r.first goes)) fault syntax

    -- ---- no source goes on

    module _ (rest : List Lexeme) (read : file_at 32 (tokens lexemes) ≡ Wrong (tokens rest)) where
      pub wrong_passed : (fault : ParseFault) → Err fault ≡ unpassed (places lexemes) (length rest) passed
          → AnswersText text (Err fault)
      wrong_passed fault is = passed_by rest (told_by (Wrong (tokens rest)) read).0 fault is

      pub wrong_syntax : Ok tt ≡ unpassed (places lexemes) (length rest) passed → (fault : ParseFault)
          → fault ≡ faults.Syntax (first_place (places rest)) → AnswersOr text (Err fault)
      wrong_syntax is fault syntax =
          let h = told_by (Wrong (tokens rest)) read in syntax_by rest h.0 is h.1 fault syntax

    -- ---- one goes on, and none within the bound

    module _ (rest : List Lexeme) (read : (file_at 32 (tokens lexemes) ≡ Deep (tokens rest)) × Nests (tokens rest)) where
      pub deep_passed : (fault : ParseFault) → Err fault ≡ unpassed (places lexemes) (length rest) passed
          → AnswersText text (Err fault)
      deep_passed fault is = passed_by rest (told_by (Deep (tokens rest)) read.0).0 fault is

      pub deep_told : Ok tt ≡ unpassed (places lexemes) (length rest) passed → (at : ℕ)
          → at ≡ first_place (places rest) → TooManyAt text 7 at
      deep_told is at place =
          let h = told_by (Deep (tokens rest)) read.0 in
          let r = h.0 in
          subst (TooManyAt text 7) (place_there rest r.token r.behind r.first ∙ sym place)
          (cut_deep text whole.all whole.are passed whole.first (tokens lexemes) cut_is (tokens rest) r
          (sym (is ∙ unpassed_is rest)) (subst Nests r.first read.1) h.1 h.2)
