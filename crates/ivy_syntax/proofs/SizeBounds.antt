-- A text has no fewer bytes than its source has nodes, and no fewer than its literals have.
use Rattle.std.specs.Prelude.{◌≡◌, ◌≤◌, ◌<◌, ◌+◌, ◌*◌, ◌^◌, ℕ, List, [], ◌∷◌, ◌++◌, length, codes, refl}
use Rattle.std.proofs.Common.{arith, ap}
use Rattle.std.proofs.lemmas.List.{length-append}
use Rattle.std.proofs.lemmas.Fmt.{decimal_nonempty}
use Rattle.ivy_syntax.specs.declared.lexeme.Keyword.{Keyword}
use Rattle.ivy_syntax.specs.declared.lexeme.Keyword.TheVariants as keyword
use Rattle.ivy_syntax.specs.declared.lexeme.Symbol.{Symbol}
use Rattle.ivy_syntax.specs.declared.lexeme.Symbol.TheVariants as symbol
use Rattle.ivy_syntax.specs.declared.lexeme.Operator.{Operator}
use Rattle.ivy_syntax.specs.declared.lexeme.Operator.TheVariants as operator
use Rattle.ivy_syntax.specs.Token.{Token, Word, Sign, Operation, Name, Number, Hex, Quoted, End, Bad}
use Rattle.ivy_syntax.specs.Token.{letters, sign, mark, StandFor, Spells}
use Rattle.ivy_syntax.specs.Tokens.{Placed, AreTokens, BeginsGap, blank, comment}
use Rattle.ivy_syntax.specs.Tokens.{BeginsComment, line, block}
use Rattle.grammars.specs.Tokens.{ends, passes, takes, stops}
use Rattle.ivy_syntax.specs.Sizes.{SizeLaws}
use Rattle.ivy_syntax.proofs.TreeSizes.{literal_size, literals_in, literals_first, literals_append, file_holds}

-- ---- tokens

some_letters : (k : Keyword) → 1 ≤ length (letters k)
some_letters keyword.Contract = omega arith
some_letters _ = omega arith

some_sign : (s : Symbol) → 1 ≤ length (sign s)
some_sign symbol.Comma = omega arith
some_sign _ = omega arith

some_mark : (o : Operator) → 1 ≤ length (mark o)
some_mark operator.Or = omega arith
some_mark _ = omega arith

-- two digits for each byte
two_each : (digits value : List ℕ) → StandFor digits value → length digits ≡ 2 * length value
two_each [] [] h = refl
two_each (high ∷ low ∷ digits) (b ∷ value) h = omega (arith, two_each digits value h.3)
two_each (high ∷ []) (b ∷ value) h = absurd h
two_each (high ∷ low ∷ digits) [] h = absurd h
two_each (high ∷ []) [] h = absurd h
two_each [] (b ∷ value) h = absurd h

-- A token takes at least one byte, and at least as many as its literal has.
record Takes (t : Token) (bytes : List ℕ) : Type 0 where
  some : 1 ≤ length bytes
  literal : literal_size t ≤ length bytes

spelled_takes : (t : Token) (bytes : List ℕ) → Spells t bytes → Takes t bytes
spelled_takes (Word k) bytes h =
    record { some = omega (arith, ap length h, some_letters k); literal = omega arith }
spelled_takes (Sign s) bytes h =
    record { some = omega (arith, ap length h, some_sign s); literal = omega arith }
spelled_takes (Operation o) bytes h =
    record { some = omega (arith, ap length h, some_mark o); literal = omega arith }
spelled_takes (Name []) bytes h = absurd h.1
spelled_takes (Name (b ∷ name)) bytes h = record { some = omega (arith, ap length h.0); literal = omega arith }
spelled_takes (Number n) bytes h =
    let small : n < 2 ^ 64 = omega (arith, h.1) in
    record { some = omega (arith, ap length h.0, decimal_nonempty n small); literal = omega arith }
spelled_takes (Hex value) bytes h =
    let two = two_each h.0 value h.2 in
    let all = ap length h.1 in
    record { some = omega (arith, all); literal = omega (arith, all, two) }
spelled_takes (Quoted text) bytes h =
    let all = ap length h.0 in
    let parts = length-append text (codes "'") in
    record { some = omega (arith, all); literal = omega (arith, all, parts) }
spelled_takes End bytes h = absurd h
spelled_takes Bad bytes h = absurd h

-- ---- texts

-- what stands after a comment is no longer
comment_within : (text passed rest : List ℕ) → BeginsComment text passed rest → length rest ≤ length text
comment_within text passed rest (line body whole is all behind) =
    omega (arith, ap length whole, length-append passed rest)
comment_within text passed rest (block body more whole closes is) =
    let inside = ap length closes.whole in
    let parts = length-append body (codes "*/" ++ rest) in
    omega (arith, ap length whole, inside, parts)

gap_within : (text gap rest : List ℕ) → BeginsGap text gap rest → length rest ≤ length text
gap_within text gap rest (blank b one whole is) = omega (arith, ap length whole)
gap_within text gap rest (comment begins) = comment_within text gap rest begins

-- There is at most one token more than bytes, and the literals of the tokens have no more bytes than there are.
record Fits (text : List ℕ) (tokens : List Placed) : Type 0 where
  count : length tokens ≤ 1 + length text
  literals : literals_in tokens ≤ length text

tokens_fit : (at : ℕ) (text : List ℕ) (tokens : List Placed) → AreTokens at text tokens → Fits text tokens
tokens_fit _ _ _ (ends at) = record { count = omega arith; literals = omega arith }
tokens_fit _ _ _ (passes at text gap rest tokens begins h) =
    let fits = tokens_fit (at + length gap) rest tokens h in
    let within = gap_within text gap rest begins in
    record { count = omega arith; literals = omega arith }
tokens_fit _ _ _ (takes at text token bytes rest tokens bare longest h) =
    let fits = tokens_fit (at + length bytes) rest tokens h in
    let own = spelled_takes token bytes longest.begins.spelled in
    let all = ap length longest.begins.whole in
    let parts = length-append bytes rest in
    record { count = omega arith; literals = omega (arith, literals_first (token, at) tokens) }
tokens_fit _ _ _ (stops at b rest is bad) = record { count = omega arith; literals = omega arith }

pub size_laws : SizeLaws
size_laws = record {
  nodes = λ text source reads.
      (let fits = tokens_fit 0 text (reads.tokens ++ ((End, reads.end) ∷ [])) reads.are in
      let holds = file_holds reads.reads in
      omega (arith, length-append reads.tokens ((End, reads.end) ∷ [])));
  literals = λ text source reads.
      (let fits = tokens_fit 0 text (reads.tokens ++ ((End, reads.end) ∷ [])) reads.are in
      let holds = file_holds reads.reads in
      omega (arith, literals_append reads.tokens ((End, reads.end) ∷ [])));
}
