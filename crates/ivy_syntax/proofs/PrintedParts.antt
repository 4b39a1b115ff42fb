-- The tokens of lists and of expressions, by those of their parts.
use Rattle.std.proofs.Common.{◌≡◌, ◌<◌, ◌+◌, ℕ, suc, Bool, true, false, List, [], ◌∷◌, ◌++◌, take, map, length, get_or}
use Rattle.std.proofs.Common.{refl, ap, sym, ◌∙◌, append_assoc, arith}
use Rattle.std.specs.Prelude.{nat_lt}
use Rattle.std.proofs.lemmas.List.{take_more, length-take-le, append-nil}
use Rattle.std.proofs.lemmas.Bool.Decides.{nat_tests}
use Rattle.ivy_syntax.specs.declared.tree.Op.{Op}
use Rattle.ivy_syntax.specs.declared.tree.Expr.{Expr}
use Rattle.ivy_syntax.specs.declared.tree.Form.{Form}
use Rattle.ivy_syntax.specs.declared.tree.Form.TheOpen.{Form-F}
use Rattle.ivy_syntax.specs.declared.tree.Form.TheVariants as forms
use Rattle.ivy_syntax.specs.declared.lexeme.Symbol.TheVariants as symbol
use Rattle.ivy_syntax.specs.Token.{Token, Sign, Operation, Name}
use Rattle.ivy_syntax.specs.declared.level.Level.{Level}
use Rattle.ivy_syntax.specs.declared.level.Level.TheVariants.{Or, Unary}
use Rattle.ivy_syntax.specs.Grammar.{below}
use Rattle.ivy_syntax.specs.Shown.{separated, operator_of, level_of, left_level, is_enclosed, enclosed_if}
use Rattle.ivy_syntax.specs.Shown.{tokens_at}
use Rattle.ivy_syntax.specs.Spaced.{spaced, sign_if}
use Rattle.ivy_syntax.specs.Unplaced.{form_again}
use Rattle.ivy_syntax.proofs.ShownParts.{form_tokens, tokens_of, each_at_or, separated_more}
use Rattle.ivy_syntax.proofs.Spaces.{added}

-- ---- lists

some : (n : ℕ) → nat_lt 0 (suc n) ≡ true
some n = grind (arith, nat_tests)

one_more : {X : Type 0} (f : X → List Token) (xs : List X) (x : X)
    → separated (map f (xs ++ (x ∷ [])))
    ≡ separated (map f xs) ++ (sign_if (nat_lt 0 (length xs)) symbol.Comma ++ f x)
one_more f [] x = refl
one_more f (y ∷ xs) x =
    separated_more f (y ∷ xs) x tt
    ∙ ap (λ more. separated (map f (y ∷ xs)) ++ (sign_if more symbol.Comma ++ f x)) (sym (some (length xs)))

-- One part more is added, after a comma if others stand before.
pub next_separated : {X : Type 0} (f : X → List Token) (xs : List X) (i : ℕ) (x : X) (old text between new : List ℕ)
    → i < length xs
    → x ≡ get_or xs i x
    → text ≡ old ++ spaced (separated (map f (take i xs)))
    → between ≡ text ++ spaced (sign_if (nat_lt 0 i) symbol.Comma)
    → new ≡ between ++ spaced (f x)
    → new ≡ old ++ spaced (separated (map f (take (i + 1) xs)))
next_separated {X} f xs i x old text between new h is before with_comma with_part =
    let parts = map f (take i xs) in
    let comma = sign_if (nat_lt 0 i) symbol.Comma in
    let size : length (take i xs) ≡ i = length-take-le i xs (omega arith) in
    let taken : take (i + 1) xs ≡ take i xs ++ (x ∷ [])
    = take_more xs i x h ∙ ap (λ (y : X). take i xs ++ (y ∷ [])) (sym is) in
    let all : separated (map f (take (i + 1) xs)) ≡ separated parts ++ (comma ++ f x)
    = ap (λ (l : List X). separated (map f l)) taken ∙ one_more f (take i xs) x
    ∙ ap (λ (n : ℕ). separated parts ++ (sign_if (nat_lt 0 n) symbol.Comma ++ f x)) size in
    with_part
    ∙ ap (λ (l : List ℕ). l ++ spaced (f x)) with_comma
    ∙ ap (λ (l : List ℕ). (l ++ spaced comma) ++ spaced (f x)) before
    ∙ ap (λ (l : List ℕ). l ++ spaced (f x)) (added old (separated parts) comma)
    ∙ added old (separated parts ++ comma) (f x)
    ∙ ap (λ (ts : List Token). old ++ spaced ts) (append_assoc (separated parts) comma (f x) ∙ sym all)

-- ---- expressions

by_form : (place : Level) (e : Expr) (x : Form-F Form Expr) → e.form ≡ form_again x
    → tokens_at place e ≡ form_tokens x place
by_form place e x is =
    ap (λ (form : Form). tokens_at place (record { from = e.from; at = e.at; form = form })) is
    ∙ tokens_of place e.from e.at x

pub of_call : (place : Level) (e : Expr) (name : List ℕ) (args : List Expr) → e.form ≡ forms.Call name args
    → tokens_at place e ≡ Name name ∷ enclosed_if true (separated (map (tokens_at Or) args))
of_call place e name args is =
    by_form place e (Form-F.Call name args) is
    ∙ ap (λ (parts : List (List Token)). Name name ∷ enclosed_if true (separated parts)) (each_at_or args)

pub of_members : (place : Level) (e : Expr) (items : List Expr) → e.form ≡ forms.Members items
    → tokens_at place e ≡ Sign symbol.OpenBracket
    ∷ (separated (map (tokens_at Or) items) ++ (Sign symbol.CloseBracket ∷ []))
of_members place e items is =
    by_form place e (Form-F.Members items) is
    ∙ ap (λ (parts : List (List Token)). Sign symbol.OpenBracket
    ∷ (separated parts ++ (Sign symbol.CloseBracket ∷ []))) (each_at_or items)

pub of_unary : (place : Level) (e : Expr) (op : Op) (arg : Expr) → e.form ≡ forms.Unary op arg
    → tokens_at place e ≡ Operation (operator_of op) ∷ tokens_at Unary arg
of_unary place e op arg is = by_form place e (Form-F.Unary op arg) is

enclosed_is : (enclosed : Bool) (tokens : List Token)
    → enclosed_if enclosed tokens
    ≡ sign_if enclosed symbol.OpenParen ++ (tokens ++ sign_if enclosed symbol.CloseParen)
enclosed_is true tokens = refl
enclosed_is false tokens = sym (append-nil tokens)

pub of_binary : (place : Level) (e : Expr) (op : Op) (left right : Expr) → e.form ≡ forms.Binary op left right
    → tokens_at place e ≡ sign_if (is_enclosed (level_of op) place) symbol.OpenParen
    ++ ((tokens_at (left_level (level_of op)) left
    ++ (Operation (operator_of op) ∷ tokens_at (below (level_of op)) right))
    ++ sign_if (is_enclosed (level_of op) place) symbol.CloseParen)
of_binary place e op left right is =
    by_form place e (Form-F.Binary op left right) is
    ∙ enclosed_is (is_enclosed (level_of op) place)
    (tokens_at (left_level (level_of op)) left ++ (Operation (operator_of op) ∷ tokens_at (below (level_of op)) right))

-- for the function that adds an expression
pub ruleset expressions = (added, of_call, of_members, of_unary, of_binary)
