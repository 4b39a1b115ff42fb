-- Single tokens: which of them stand for what, and that each can be written.
use Rattle.std.specs.Prelude.{◌≡◌, ℕ, ◌<◌, true, false, decimal, List, [], ◌∷◌, Option, option_map}
use Rattle.std.specs.Prelude.{Some, None, refl}
use Rattle.std.proofs.Common.{sym, ap, ◌∙◌, true≢false, arith}
use Rattle.std.proofs.lemmas.Option.{none-some, same_Some}
use Rattle.grammars.specs.Heads.{Example}
use Rattle.grammars.specs.Examples.{chosen_is, one_chosen}
use Rattle.ivy_syntax.specs.declared.tree.Op.{Op}
use Rattle.ivy_syntax.specs.declared.tree.Word.{Word}
use Rattle.ivy_syntax.specs.declared.lexeme.Keyword.{Keyword}
use Rattle.ivy_syntax.specs.declared.lexeme.Keyword.TheVariants as keyword
use Rattle.ivy_syntax.specs.declared.lexeme.Symbol.{Symbol}
use Rattle.ivy_syntax.specs.declared.lexeme.Symbol.TheVariants as symbol
use Rattle.ivy_syntax.specs.declared.lexeme.Operator.{Operator}
use Rattle.ivy_syntax.specs.declared.lexeme.Operator.TheVariants as operator
use Rattle.ivy_syntax.specs.Token.{Token, Operation, Name, Number, Hex, Quoted, Spells, letters, sign, IsName, mark}
use Rattle.ivy_syntax.specs.Token as token
use Rattle.ivy_syntax.specs.Tokens.{Placed}
use Rattle.ivy_syntax.specs.declared.level.Level.{Level}
use Rattle.ivy_syntax.specs.declared.level.Level.TheVariants.{Or, And, Comparison, Shift, Sum, Term, Unary}
use Rattle.ivy_syntax.specs.Grammar.{binary, below, word}
use Rattle.ivy_syntax.specs.Descent.{is_symbol, is_keyword, sign_in, word_in, is_sign, is_word, the_sign, the_word}
use Rattle.ivy_syntax.specs.Descent.{named}
use Rattle.ivy_syntax.specs.Descent.{name_in, is_level, is_of_level, joins, op_of}
use Rattle.ivy_syntax.specs.Descent as descent
use Rattle.ivy_syntax.specs.Grammar.{rank}

-- a token that can be written
abbrev pub Fine : Placed → Type 0
Fine t = (bytes : List ℕ) × Spells t.0 bytes

-- ---- signs and keywords

the_symbol : (s found : Symbol) → is_symbol s found ≡ true → found ≡ s
the_symbol symbol.OpenParen symbol.OpenParen is = refl
the_symbol symbol.CloseParen symbol.CloseParen is = refl
the_symbol symbol.OpenBrace symbol.OpenBrace is = refl
the_symbol symbol.CloseBrace symbol.CloseBrace is = refl
the_symbol symbol.OpenBracket symbol.OpenBracket is = refl
the_symbol symbol.CloseBracket symbol.CloseBracket is = refl
the_symbol symbol.Comma symbol.Comma is = refl
the_symbol symbol.Colon symbol.Colon is = refl
the_symbol _ _ is = absurd (true≢false (sym is))

same_symbol : (s : Symbol) → is_symbol s s ≡ true
same_symbol symbol.OpenParen = refl
same_symbol _ = refl

the_keyword : (k found : Keyword) → is_keyword k found ≡ true → found ≡ k
the_keyword keyword.Contract keyword.Contract is = refl
the_keyword keyword.Clause keyword.Clause is = refl
the_keyword keyword.Locks keyword.Locks is = refl
the_keyword keyword.Requires keyword.Requires is = refl
the_keyword keyword.Of keyword.Of is = refl
the_keyword keyword.Verify keyword.Verify is = refl
the_keyword keyword.Lock keyword.Lock is = refl
the_keyword keyword.Unlock keyword.Unlock is = refl
the_keyword keyword.With keyword.With is = refl
the_keyword keyword.True keyword.True is = refl
the_keyword keyword.False keyword.False is = refl
the_keyword _ _ is = absurd (true≢false (sym is))

same_keyword : (k : Keyword) → is_keyword k k ≡ true
same_keyword keyword.Contract = refl
same_keyword _ = refl

sign_token : (s : Symbol) (t : Token) → sign_in s t ≡ true → t ≡ token.Sign s
sign_token s (token.Sign found) is = ap token.Sign (the_symbol s found is)
sign_token s _ is = absurd (true≢false (sym is))

word_token : (k : Keyword) (t : Token) → word_in k t ≡ true → t ≡ token.Word k
word_token k (token.Word found) is = ap token.Word (the_keyword k found is)
word_token k _ is = absurd (true≢false (sym is))

name_token : (t : Token) (at : ℕ) (w : Word) → name_in t at ≡ Some w
    → (name : List ℕ) × (t ≡ Name name) × (w ≡ word name at)
name_token (Name name) at w is = (name, refl, sym (same_Some (word name at) w is))
name_token _ at w is = absurd (none-some w is)

pub sign_is : (s : Symbol) (t : Placed) → is_sign s t ≡ true → t ≡ (token.Sign s, t.1)
sign_is s t is = ap (λ k. (k, t.1)) (sign_token s t.0 is)

pub word_is : (k : Keyword) (t : Placed) → is_word k t ≡ true → t ≡ (token.Word k, t.1)
word_is k t is = ap (λ x. (x, t.1)) (word_token k t.0 is)

pub the_sign_is : (s : Symbol) (t e : Placed) → the_sign s t ≡ Some e → t ≡ (token.Sign s, t.1)
the_sign_is s t e same = sign_is s t (chosen_is (is_sign s) t e same).0

pub the_word_is : (k : Keyword) (t e : Placed) → the_word k t ≡ Some e → t ≡ (token.Word k, t.1)
the_word_is k t e same = word_is k t (chosen_is (is_word k) t e same).0

-- a name, and its word
pub named_is : (t : Placed) (w : Word) → named t ≡ Some w
    → (name : List ℕ) × (t ≡ (Name name, t.1)) × (w ≡ word name t.1)
named_is t w is = let found = name_token t.0 t.1 w is in (found.0, ap (λ k. (k, t.1)) found.1, found.2)

-- ---- each can be written

pub a_sign : (s : Symbol) → Example Fine (the_sign s)
a_sign s = one_chosen Fine (is_sign s) (token.Sign s, 0) (sign s, refl) (same_symbol s)

pub a_word : (k : Keyword) → Example Fine (the_word k)
a_word k = one_chosen Fine (is_word k) (token.Word k, 0) (letters k, refl) (same_keyword k)

abbrev others : List ℕ → List ℕ
others [] = []
others (b ∷ bytes) = bytes

abbrev second : List ℕ → Option ℕ
second [] = None
second (b ∷ []) = None
second (a ∷ b ∷ bytes) = Some b

-- no keyword is one letter
one_letter : (k : Keyword) → 97 ∷ [] ≡ letters k → ⊥
one_letter keyword.Contract same = none-some _ (ap second same)
one_letter _ same = none-some _ (ap second same)

pub a_name : Example Fine named
a_name = record {
  token = (Name (97 ∷ []), 0);
  value = word (97 ∷ []) 0;
  fine = (97 ∷ [], (refl, (refl, refl, one_letter)));
  means = refl;
}

pub zero_fine : Fine (Number 0, 0)
zero_fine = (decimal 0, (refl, omega arith))

-- ---- operators between operands

the_level : (level found : Level) → is_level level found ≡ true → found ≡ level
the_level Or Or is = refl
the_level And And is = refl
the_level Comparison Comparison is = refl
the_level Shift Shift is = refl
the_level Sum Sum is = refl
the_level Term Term is = refl
the_level Unary Unary is = refl
the_level _ _ is = absurd (true≢false (sym is))

same_level : (level : Level) → is_level level level ≡ true
same_level Or = refl
same_level _ = refl

-- all levels but that of what is unary have operators between operands
abbrev pub HasOperators : Level → Type 0
HasOperators Unary = ⊥
HasOperators _ = Unit {0}

-- the next level binds more
pub binds_more : (level : Level) → HasOperators level → rank level < rank (below level)
binds_more Unary has = absurd has
binds_more Or has = omega arith
binds_more _ has = omega arith

by_option : (level : Level) (found : Option (Level × Op)) → is_of_level level found ≡ true
    → found ≡ Some (level, op_of found)
by_option level None is = absurd (true≢false (sym is))
by_option level (Some found) is = ap (λ (l : Level). Some (l, found.1)) (the_level level found.0 is)

joining : (level : Level) (t : Token) → is_of_level level (descent.joining t) ≡ true
    → (o : Operator) × (t ≡ Operation o) × (binary o ≡ Some (level, op_of (descent.joining t)))
joining level (Operation o) is = (o, refl, by_option level (binary o) is)
joining level (token.Word k) is = absurd (true≢false (sym is))
joining level _ is = absurd (true≢false (sym is))

-- a token that joins operands of a level
pub joining_is : (level : Level) (t : Placed) → joins level t ≡ true
    → (o : Operator) × (t ≡ (Operation o, t.1)) × (binary o ≡ Some (level, op_of (descent.joining t.0)))
joining_is level t is =
    let found = joining level t.0 is in (found.0, ap (λ k. (k, t.1)) found.1, found.2)

pub is_joining : (level : Level) (o : Operator) (op : Op) (at : ℕ) → binary o ≡ Some (level, op)
    → joins level (Operation o, at) ≡ true
is_joining level o op at is = ap (is_of_level level) is ∙ same_level level

none_unary : (o : Operator) → joins Unary (Operation o, 0) ≡ false
none_unary operator.Or = refl
none_unary _ = refl

-- what is unary has no operators of its own between operands
pub not_unary : (o : Operator) (op : Op) → binary o ≡ Some (Unary, op) → ⊥
not_unary o op is = true≢false (sym (is_joining Unary o op 0 is) ∙ none_unary o)

-- the level of which a token goes on an expression: that of an operator, and the last for the parenthesis of a call
abbrev pub goes_at : Token → Option Level
goes_at (Operation o) = option_map (λ j. j.0) (binary o)
goes_at (token.Sign symbol.OpenParen) = Some Unary
goes_at _ = None

pub goes_of : (level : Level) (t : Placed) → joins level t ≡ true → goes_at t.0 ≡ Some level
goes_of level t is =
    let found = joining_is level t is in
    ap (λ (t : Placed). goes_at t.0) found.1 ∙ ap (option_map (λ j. j.0)) found.2
