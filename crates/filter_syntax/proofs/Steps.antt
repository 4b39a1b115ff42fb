-- The tokens of a text, one after the other, as lexemes.
use Rattle.std.proofs.Common.{◌≡◌, ◌≢◌, ℕ, ◌+◌, ◌-◌, ◌<◌, ◌≤◌, eqb, List, [], ◌∷◌, ◌++◌, length, get_or, take, drop}
use Rattle.std.proofs.Common.{map, None, arith, sym, ap, ◌∙◌, subst, add-one, drop-cons, length-drop}
use Rattle.std.proofs.lemmas.Bool.{cond-true, cond-false, eq-eqb, ne_eqb}
use Rattle.std.proofs.lemmas.List.{map-append, take_all}
use Rattle.std.specs.Option.{option_map}
use Rattle.std.specs.Prelude.{Some}
use Rattle.grammars.specs.Steps.{ReadUpTo, gap_step}
use Rattle.grammars.specs.Steps as steps
use Rattle.filter_syntax.specs.Token.{Token}
use Rattle.filter_syntax.specs.Tokens.{Placed, IsApart, lexicon, AreTokens}
use Rattle.filter_syntax.specs.Lexing.{first_token, token_of, seen, IsFound}
use Rattle.filter_syntax.specs.declared.tokens.Kind.{Kind}
use Rattle.filter_syntax.specs.declared.tokens.Kind.TheVariants as kinds
use Rattle.filter_syntax.specs.declared.tokens.Lexeme.{Lexeme}
use Rattle.filter_syntax.proofs.Fronts.{measured}
use Rattle.filter_syntax.proofs.TokenLists.{gap_len, scanner}

pub byte_there : (text : List ℕ) (at : ℕ) → at < length text → drop at text ≡ get_or text at 0 ∷ drop (at + 1) text
byte_there text at within = drop-cons text at 0 within
    ∙ ap (λ (n : ℕ). get_or text at 0 ∷ drop n text) (sym (add-one at))

-- what `&text[at..]` is
pub behind_is : (text : List ℕ) (at : ℕ) → take (length text - at) (drop at text) ≡ drop at text
behind_is text at = take_all (length text - at) (drop at text) (omega (arith, length-drop at text))

module _ (text : List ℕ) (at : ℕ) (lexemes : List Lexeme) (onto : ReadUpTo lexicon text at (map (seen text) lexemes))
  where
    solid : at < length text → get_or text at 0 ≢ 32 → gap_len (drop at text) ≡ 0
    solid within other =
        ap gap_len (byte_there text at within) ∙ cond-false {A = ℕ} (eqb (get_or text at 0) 32) 1 0 (ne_eqb _ _ other)

    pub space_step : at < length text → get_or text at 0 ≡ 32 → ReadUpTo lexicon text (at + 1) (map (seen text) lexemes)
    space_step within space =
        let one : gap_len (drop at text) ≡ 1 =
        ap gap_len (byte_there text at within) ∙ cond-true {A = ℕ} (eqb (get_or text at 0) 32) 1 0 (eq-eqb _ _ space) in
        subst (λ (n : ℕ). ReadUpTo lexicon text (at + n) (map (seen text) lexemes)) one
        (gap_step lexicon IsApart scanner text at (map (seen text) lexemes) onto (omega (arith, one)))

    -- with one more lexeme
    one_more : (after : List Lexeme) (lexeme : Lexeme) → after ≡ lexemes ++ lexeme ∷ []
        → map (seen text) after ≡ map (seen text) lexemes ++ (seen text lexeme ∷ [])
    one_more after lexeme is = ap (map (seen text)) is ∙ map-append (seen text) lexemes (lexeme ∷ [])

    pub token_step : (len : ℕ) (kind : Kind) (after : List Lexeme) → at < length text → get_or text at 0 ≢ 32
        → IsFound (drop at text) kind len (first_token (drop at text))
        → after ≡ lexemes ++ record { kind = kind; from = at; to = at + len } ∷ []
        → ReadUpTo lexicon text (at + len) (map (seen text) after)
    token_step len kind after within other found is =
        let token : Token = token_of kind (take len (drop at text)) in
        let count : at + len - at ≡ len = omega arith in
        subst (ReadUpTo lexicon text (at + len))
        (sym (one_more after (record { kind = kind; from = at; to = at + len }) is
        ∙ ap (λ (n : ℕ). map (seen text) lexemes ++ ((token_of kind (take n (drop at text)), at) ∷ [])) count))
        (steps.token_step lexicon IsApart scanner text at (map (seen text) lexemes) onto token len (solid within other)
        (ap (option_map measured) found.is ∙ ap (λ (n : ℕ). Some (token, n)) (sym found.takes)))

    -- the last lexeme
    last_one : (after : List Lexeme) (lexeme mark : Lexeme) → lexeme ≡ mark → after ≡ lexemes ++ lexeme ∷ []
        → AreTokens 0 text (map (seen text) lexemes ++ (seen text mark ∷ []))
        → AreTokens 0 text (map (seen text) after)
    last_one after lexeme mark same is whole =
        subst (λ (l : List Placed). AreTokens 0 text l)
        (sym (one_more after lexeme is ∙ ap (λ (l : Lexeme). map (seen text) lexemes ++ (seen text l ∷ [])) same)) whole

    pub bad_end : (after : List Lexeme) (lexeme : Lexeme) → at < length text → get_or text at 0 ≢ 32
        → first_token (drop at text) ≡ None
        → lexeme ≡ record { kind = kinds.Bad; from = at; to = at }
        → after ≡ lexemes ++ lexeme ∷ []
        → AreTokens 0 text (map (seen text) after)
    bad_end after lexeme within other none mark is =
        last_one after lexeme _ mark is
        (steps.bad_step lexicon IsApart scanner text at (map (seen text) lexemes) onto within (solid within other)
        (ap (option_map measured) none))

    pub whole_end : (after : List Lexeme) (lexeme : Lexeme) → length text ≤ at
        → lexeme ≡ record { kind = kinds.End; from = at; to = at }
        → after ≡ lexemes ++ lexeme ∷ []
        → AreTokens 0 text (map (seen text) after)
    whole_end after lexeme past mark is =
        last_one after lexeme _ mark is
        (steps.end_step lexicon IsApart scanner text at (map (seen text) lexemes) onto past)
