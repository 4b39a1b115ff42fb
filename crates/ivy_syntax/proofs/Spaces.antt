-- Tokens with a space before each are a space and what is written of them, and what is written is text.
use Rattle.std.proofs.Common.{◌≡◌, ◌<◌, ◌^◌, ◌-◌, ℕ, Bool, true, List, [], ◌∷◌, ◌++◌}
use Rattle.std.proofs.Common.{length, take, drop, get_or}
use Rattle.std.proofs.Common.{refl, ap, sym, ◌∙◌, append_assoc, arith}
use Rattle.std.specs.Prelude.{codes, nat_lt}
use Rattle.std.specs.Char.{is_ascii_hexdigit}
use Rattle.std.specs.List.{list_all}
use Rattle.std.specs.Str.{IsAscii, IsUtf8}
use Rattle.std.proofs.lemmas.Bool.Decides.{nat_tests}
use Rattle.std.proofs.lemmas.Grind.{flat_map-append}
use Rattle.std.proofs.Math.Seq.{take-length}
use Rattle.std.proofs.lemmas.Str.{IsAscii-append, IsUtf8-from_ascii}
use Rattle.std.proofs.lemmas.Str.Ascii.{IsAscii-cons}
use Rattle.std.proofs.lemmas.Fmt.{IsAscii-decimal}
use Rattle.grammars.specs.Written.{all_ascii, written_ascii}
use Rattle.grammars.specs.Tokens as tokens
use Rattle.ivy_syntax.specs.declared.lexeme.Keyword.{Keyword}
use Rattle.ivy_syntax.specs.declared.lexeme.Keyword.TheVariants as keyword
use Rattle.ivy_syntax.specs.declared.lexeme.Symbol.{Symbol}
use Rattle.ivy_syntax.specs.declared.lexeme.Symbol.TheVariants as symbol
use Rattle.ivy_syntax.specs.declared.lexeme.Operator.{Operator}
use Rattle.ivy_syntax.specs.declared.lexeme.Operator.TheVariants as operator
use Rattle.ivy_syntax.specs.Token.{Token, Word, Sign, Operation, Name, Number, Hex, Quoted, End, Bad}
use Rattle.ivy_syntax.specs.Token.{letters, sign, mark, begins_name, goes_on, IsName, is_quotable, Spells}
use Rattle.ivy_syntax.specs.Tokens.{CanBeWritten, digits_of, spelling, written}
use Rattle.ivy_syntax.specs.Spaced.{spaced}
use Rattle.ivy_syntax.proofs.Reach.{all_hex}
use Rattle.ivy_syntax.proofs.Written.{digits_stand}

-- Tokens are added after others.
pub added : (text : List ℕ) (a b : List Token) → (text ++ spaced a) ++ spaced b ≡ text ++ spaced (a ++ b)
added text a b =
    append_assoc text (spaced a) (spaced b)
    ∙ ap (λ (l : List ℕ). text ++ l) (sym (flat_map-append (λ t. 32 ∷ spelling t) a b))

ended : (t : Token) (ts : List Token) → spaced (t ∷ ts) ++ (10 ∷ []) ≡ 32 ∷ written (t ∷ ts)
ended t ts = refl

-- Behind the first space stands what is written.
pub behind_first : (text : List ℕ) (ts : List Token) → text ≡ spaced ts ++ (10 ∷ []) → get_or text 0 0 ≡ 32
    → take (length text - 1) (drop 1 text) ≡ written ts
behind_first text [] is first = absurd (omega (arith, first, ap (λ (l : List ℕ). get_or l 0 0) is))
behind_first text (t ∷ ts) is first =
    ap (λ (l : List ℕ). take (length l - 1) (drop 1 l)) (is ∙ ended t ts)
    ∙ ap (λ (n : ℕ). take n (written (t ∷ ts))) {x = length (32 ∷ written (t ∷ ts)) - 1} {y = length (written (t ∷ ts))}
    (omega arith)
    ∙ take-length (written (t ∷ ts))

-- With no space before it stand no tokens.
pub none_before : (text : List ℕ) (ts : List Token) → text ≡ spaced ts ++ (10 ∷ [])
    → (get_or text 0 0 ≡ 32 → ⊥)
    → text ≡ written ts
none_before text [] is bare = is
none_before text (t ∷ ts) is bare = absurd (bare (ap (λ (l : List ℕ). get_or l 0 0) (is ∙ ended t ts)))

-- ---- what can be written is text

abbrev is_low : ℕ → Bool
is_low b = nat_lt b 128

low_is : (b : ℕ) → is_low b ≡ true → b < 128
low_is b is = grind (arith, nat_tests)

low_ascii : (bs : List ℕ) → list_all is_low bs ≡ true → IsAscii bs
low_ascii bs are = all_ascii is_low low_is bs are

letters_ascii : (k : Keyword) → IsAscii (letters k)
letters_ascii k = low_ascii (letters k) (low k)
  where
    low : (k : Keyword) → list_all is_low (letters k) ≡ true
    low keyword.Contract = refl
    low keyword.Clause = refl
    low keyword.Locks = refl
    low keyword.Requires = refl
    low keyword.Of = refl
    low keyword.Verify = refl
    low keyword.Lock = refl
    low keyword.Unlock = refl
    low keyword.With = refl
    low keyword.True = refl
    low keyword.False = refl

sign_ascii : (s : Symbol) → IsAscii (sign s)
sign_ascii s = low_ascii (sign s) (low s)
  where
    low : (s : Symbol) → list_all is_low (sign s) ≡ true
    low symbol.OpenParen = refl
    low symbol.CloseParen = refl
    low symbol.OpenBrace = refl
    low symbol.CloseBrace = refl
    low symbol.OpenBracket = refl
    low symbol.CloseBracket = refl
    low symbol.Comma = refl
    low symbol.Colon = refl

mark_ascii : (o : Operator) → IsAscii (mark o)
mark_ascii o = low_ascii (mark o) (low o)
  where
    low : (o : Operator) → list_all is_low (mark o) ≡ true
    low operator.Or = refl
    low operator.And = refl
    low operator.Equal = refl
    low operator.NotEqual = refl
    low operator.Less = refl
    low operator.LessEqual = refl
    low operator.Greater = refl
    low operator.GreaterEqual = refl
    low operator.ShiftLeft = refl
    low operator.ShiftRight = refl
    low operator.Plus = refl
    low operator.Minus = refl
    low operator.Star = refl
    low operator.Slash = refl
    low operator.Percent = refl
    low operator.Not = refl

first_low : (b : ℕ) → begins_name b ≡ true → b < 128
first_low b is = grind (arith, nat_tests)

next_low : (b : ℕ) → goes_on b ≡ true → b < 128
next_low b is = grind (arith, nat_tests)

quotable_low : (b : ℕ) → is_quotable b ≡ true → b < 128
quotable_low b is = grind (arith, nat_tests)

name_ascii : (name : List ℕ) → IsName name → IsAscii name
name_ascii [] is = absurd is
name_ascii (b ∷ bytes) is = IsAscii-cons b bytes (first_low b is.0) (all_ascii goes_on next_low bytes is.1)

hex_low : (d : ℕ) → is_ascii_hexdigit d ≡ true → d < 128
hex_low d is = grind (arith, nat_tests)

spelling_ascii : (t : Token) (bytes : List ℕ) → Spells t bytes → IsAscii (spelling t)
spelling_ascii (Word k) bytes h = letters_ascii k
spelling_ascii (Sign s) bytes h = sign_ascii s
spelling_ascii (Operation o) bytes h = mark_ascii o
spelling_ascii (Name name) bytes h = name_ascii name h.1
spelling_ascii (Number n) bytes h = let small : n < 2 ^ 63 = h.1 in IsAscii-decimal n (omega arith)
spelling_ascii (Hex value) bytes h =
    IsAscii-append (codes "0x") (digits_of value) (low_ascii (codes "0x") refl)
    (all_ascii is_ascii_hexdigit hex_low (digits_of value)
    (all_hex (digits_of value) value (digits_stand h.0 value h.2)))
spelling_ascii (Quoted text) bytes h =
    IsAscii-cons 39 (text ++ codes "'") (omega arith)
    (IsAscii-append text (codes "'") (all_ascii is_quotable quotable_low text h.1) (low_ascii (codes "'") refl))
spelling_ascii End bytes h = absurd h
spelling_ascii Bad bytes h = absurd h

abbrev CanSpell : Token → Type 0
CanSpell t = (bytes : List ℕ) × Spells t bytes

pub written_text : (ts : List Token) → CanBeWritten ts → IsUtf8 (written ts)
written_text ts can = IsUtf8-from_ascii (written ts)
    (IsAscii-append (tokens.written spelling ts) (10 ∷ [])
    (written_ascii spelling CanSpell (λ t can. spelling_ascii t can.0 can.1) ts can) (low_ascii (10 ∷ []) refl))
