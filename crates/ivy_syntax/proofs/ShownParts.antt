-- The tokens of each expression, and those where another level reads it.
use Rattle.std.specs.Prelude.{◌≡◌, ◌≤◌, ℕ, Bool, true, false, List, [], ◌∷◌, ◌++◌, map, Option, Some, None, refl}
use Rattle.std.proofs.Common.{sym, ap, ◌∙◌, subst, arith}
use Rattle.std.proofs.lemmas.Bool.Decides.{nat_tests}
use Rattle.std.specs.List.{flat_map}
use mathlib.Core.List.{append_assoc, append-nil}
use Rattle.ivy_syntax.specs.Shown.{left_level, tokens_at, enclosed_if, is_enclosed, level_of, Show, tokens_by}
use Rattle.ivy_syntax.specs.Shown.{separated, binary_tokens, operator_of}
use Rattle.ivy_syntax.specs.Token.{Operation, Name, Token}
use Rattle.ivy_syntax.specs.Tokens.{Placed}
use Rattle.ivy_syntax.specs.declared.tree.Form.TheVariants as forms
use Rattle.ivy_syntax.specs.declared.level.Level.{Level}
use Rattle.ivy_syntax.specs.declared.level.Level.TheVariants.{Or, And, Comparison, Shift, Sum, Term, Unary}
use Rattle.ivy_syntax.specs.Grammar.{between, before, Members, member, more_members}
use Rattle.ivy_syntax.specs.Grammar.{below, rank, binary, unary, enclosed, single, IsSingle, a_number}
use Rattle.ivy_syntax.specs.Grammar.{a_true, a_false, a_hex, a_text, a_name}
use Rattle.ivy_syntax.specs.declared.tree.Expr.{Expr, fold-Expr}
use Rattle.ivy_syntax.specs.declared.tree.Form.{Form}
use Rattle.ivy_syntax.specs.declared.tree.Form.TheOpen.{Form-F}
use Rattle.ivy_syntax.specs.declared.tree.Op.{Op}
use Rattle.ivy_syntax.specs.declared.lexeme.Operator.{Operator}
use Rattle.ivy_syntax.specs.declared.lexeme.Operator.TheVariants as operator
use Rattle.ivy_syntax.specs.declared.lexeme.Symbol.TheVariants as symbol
use Rattle.ivy_syntax.specs.Token as token
use Rattle.ivy_syntax.specs.Unplaced.{unplaced_expr, form_again}
use Rattle.ivy_syntax.proofs.ExprFolds.{folded, moved, by_forms, expr_of, replaced}

-- ---- folds at each form

-- the tokens of a form where a level reads it
abbrev pub form_tokens : Form-F Form Expr → Show
form_tokens x = tokens_by (replaced (λ e place. tokens_at place e) x)

pub tokens_of : (place : Level) (from at : ℕ) (x : Form-F Form Expr)
    → tokens_at place (expr_of from at x) ≡ form_tokens x place
tokens_of place from at x = ap (λ (f : Show). f place) (folded Show Show tokens_by (λ e. e.form) from at x)

pub unplaced_of : (from at : ℕ) (x : Form-F Form Expr)
    → unplaced_expr (expr_of from at x) ≡ expr_of 0 0 (replaced unplaced_expr x)
unplaced_of from at x = folded Form Expr form_again (λ e. record { from = 0; at = 0; form = e.form }) from at x

-- the level of an expression's outermost operator
abbrev pub own_by : Form-F Level Level → Level
own_by (Form-F.Binary op left right) = level_of op
own_by _ = Unary

abbrev pub own : Expr → Level
own = fold-Expr Level Level own_by (λ e. e.form)

pub own_of : (from at : ℕ) (x : Form-F Form Expr) → own (expr_of from at x) ≡ own_by (replaced own x)
own_of from at x = folded Level Level own_by (λ e. e.form) from at x

-- ---- from other places

pub enclosed_tokens : (place : Level) (at : ℕ) (e : Expr) → tokens_at place (enclosed at e) ≡ tokens_at place e
enclosed_tokens place at e = ap (λ (f : Show). f place) (moved Show Show tokens_by (λ f. f) at e.at e)

pub enclosed_unplaced : (at : ℕ) (e : Expr) → unplaced_expr (enclosed at e) ≡ unplaced_expr e
enclosed_unplaced at e = moved Form Expr form_again (λ f. record { from = 0; at = 0; form = f }) at e.at e

pub enclosed_own : (at : ℕ) (e : Expr) → own (enclosed at e) ≡ own e
enclosed_own at e = moved Level Level own_by (λ l. l) at e.at e

-- ---- expressions of one token

-- A form of one token, by its layer.
record IsOne (t : Token) (form : Form) : Type 0 where
  pub layer : Form-F Form Expr
  pub is : form ≡ form_again layer
  pub tokens : (place : Level) → form_tokens layer place ≡ t ∷ []
  pub level : own_by (replaced own layer) ≡ Unary

one_by : (t : Token) (x : Form-F Form Expr) → ((place : Level) → form_tokens x place ≡ t ∷ [])
    → own_by (replaced own x) ≡ Unary → IsOne t (form_again x)
one_by t x tokens level = record { layer = x; is = refl; tokens = tokens; level = level }

one_of : (t : Token) (form : Form) → IsSingle t form → IsOne t form
one_of t _ (a_number n) = one_by t (Form-F.Number n) (λ place. refl) refl
one_of t _ a_true = one_by t (Form-F.Truth true) (λ place. refl) refl
one_of t _ a_false = one_by t (Form-F.Truth false) (λ place. refl) refl
one_of t _ (a_hex bytes) = one_by t (Form-F.Hex bytes) (λ place. refl) refl
one_of t _ (a_text bytes) = one_by t (Form-F.Quoted bytes) (λ place. refl) refl
one_of t _ (a_name name) = one_by t (Form-F.Name name) (λ place. refl) refl

pub single_tokens : (place : Level) (at : ℕ) (t : Token) (form : Form) → IsSingle t form
    → tokens_at place (single at form) ≡ t ∷ []
single_tokens place at t form is =
    let o = one_of t form is in
    ap (λ (f : Form). tokens_at place (single at f)) o.is ∙ tokens_of place at at o.layer ∙ o.tokens place

pub single_own : (at : ℕ) (t : Token) (form : Form) → IsSingle t form → own (single at form) ≡ Unary
single_own at t form is =
    let o = one_of t form is in ap (λ (f : Form). own (single at f)) o.is ∙ own_of at at o.layer ∙ o.level

pub single_unplaced : (at other : ℕ) (form : Form) → unplaced_expr (single at form) ≡ unplaced_expr (single other form)
single_unplaced at other form =
    moved Form Expr form_again (λ f. record { from = 0; at = 0; form = f }) at at (single other form)

-- ---- levels

pub never_enclosed : (place : Level) → is_enclosed Unary place ≡ false
never_enclosed Or = refl
never_enclosed And = refl
never_enclosed Comparison = refl
never_enclosed Shift = refl
never_enclosed Sum = refl
never_enclosed Term = refl
never_enclosed Unary = refl

pub bare_at_or : (level : Level) → is_enclosed level Or ≡ false
bare_at_or Or = refl
bare_at_or And = refl
bare_at_or Comparison = refl
bare_at_or Shift = refl
bare_at_or Sum = refl
bare_at_or Term = refl
bare_at_or Unary = refl

pub bare_at_own : (level : Level) → is_enclosed level level ≡ false
bare_at_own Or = refl
bare_at_own And = refl
bare_at_own Comparison = refl
bare_at_own Shift = refl
bare_at_own Sum = refl
bare_at_own Term = refl
bare_at_own Unary = refl

rank_below : (level : Level) → rank level ≤ rank (below level)
rank_below Or = omega arith
rank_below And = omega arith
rank_below Comparison = omega arith
rank_below Shift = omega arith
rank_below Sum = omega arith
rank_below Term = omega arith
rank_below Unary = omega arith

-- What stands in parentheses where a level reads it does where the next one does.
pub enclosed_below : (level place : Level) → is_enclosed level place ≡ true → is_enclosed level (below place) ≡ true
enclosed_below level place is = let more = rank_below place in grind (arith, nat_tests)

-- ---- in parentheses or bare

never_in_layer : (place : Level) (ts : List Token) → ts ≡ enclosed_if (is_enclosed Unary place) ts
never_in_layer place ts = ap (λ (b : Bool). enclosed_if b ts) (sym (never_enclosed place))

enclosed_layer : (x : Form-F Form Expr) (place : Level)
    → form_tokens x place ≡ enclosed_if (is_enclosed (own_by (replaced own x)) place) (form_tokens x Or)
enclosed_layer (Form-F.Number n) place = never_in_layer place _
enclosed_layer (Form-F.Truth true) place = never_in_layer place _
enclosed_layer (Form-F.Truth false) place = never_in_layer place _
enclosed_layer (Form-F.Hex bytes) place = never_in_layer place _
enclosed_layer (Form-F.Quoted bytes) place = never_in_layer place _
enclosed_layer (Form-F.Name name) place = never_in_layer place _
enclosed_layer (Form-F.Call name args) place = never_in_layer place _
enclosed_layer (Form-F.Members items) place = never_in_layer place _
enclosed_layer (Form-F.Unary op arg) place = never_in_layer place _
enclosed_layer (Form-F.Binary op left right) place =
    let ts : List Token
    = binary_tokens (level_of op) op (λ place. tokens_at place left) (λ place. tokens_at place right) in
    ap (λ (b : Bool). enclosed_if (is_enclosed (level_of op) place) (enclosed_if b ts))
    (sym (bare_at_or (level_of op)))

-- Where a level reads it the tokens are those that it has on its own, in parentheses or bare.
shown_at : (e : Expr) (place : Level)
    → tokens_at place e ≡ enclosed_if (is_enclosed (own e) place) (tokens_at Or e)
shown_at = by_forms (λ e. (place : Level) → tokens_at place e
    ≡ enclosed_if (is_enclosed (own e) place) (tokens_at Or e))
    (λ from at x all place. tokens_of place from at x ∙ enclosed_layer x place
    ∙ (λ i. enclosed_if (is_enclosed (sym (own_of from at x) i) place) (sym (tokens_of Or from at x) i)))

pub bare_tokens : (e : Expr) (place : Level) → is_enclosed (own e) place ≡ false → tokens_at place e ≡ tokens_at Or e
bare_tokens e place not = shown_at e place ∙ ap (λ (b : Bool). enclosed_if b (tokens_at Or e)) not

pub enclosed_in : (e : Expr) (place : Level) → is_enclosed (own e) place ≡ true → tokens_at place e
    ≡ token.Sign symbol.OpenParen ∷ (tokens_at Or e ++ (token.Sign symbol.CloseParen ∷ []))
enclosed_in e place is = shown_at e place ∙ ap (λ (b : Bool). enclosed_if b (tokens_at Or e)) is

-- ---- operators

abbrev IsRight : Operator → Option (Level × Op) → Type 0
IsRight o (Some found) = (level_of found.1 ≡ found.0) × (operator_of found.1 ≡ o)
IsRight o None = Unit {0}

binary_right : (o : Operator) → IsRight o (binary o)
binary_right operator.Or = (refl, refl)
binary_right operator.And = (refl, refl)
binary_right operator.Equal = (refl, refl)
binary_right operator.NotEqual = (refl, refl)
binary_right operator.Less = (refl, refl)
binary_right operator.LessEqual = (refl, refl)
binary_right operator.Greater = (refl, refl)
binary_right operator.GreaterEqual = (refl, refl)
binary_right operator.ShiftLeft = (refl, refl)
binary_right operator.ShiftRight = (refl, refl)
binary_right operator.Plus = (refl, refl)
binary_right operator.Minus = (refl, refl)
binary_right operator.Star = (refl, refl)
binary_right operator.Slash = (refl, refl)
binary_right operator.Percent = (refl, refl)
binary_right operator.Not = tt

binary_level : (o : Operator) (level : Level) (op : Op) → binary o ≡ Some (level, op) → level_of op ≡ level
binary_level o level op is = (subst (IsRight o) is (binary_right o)).0

binary_written : (o : Operator) (level : Level) (op : Op) → binary o ≡ Some (level, op) → operator_of op ≡ o
binary_written o level op is = (subst (IsRight o) is (binary_right o)).1

abbrev IsUnary : Operator → Option Op → Type 0
IsUnary o (Some op) = operator_of op ≡ o
IsUnary o None = Unit {0}

unary_right : (o : Operator) → IsUnary o (unary o)
unary_right operator.Not = refl
unary_right operator.Minus = refl
unary_right _ = tt

unary_written : (o : Operator) (op : Op) → unary o ≡ Some op → operator_of op ≡ o
unary_written o op is = subst (IsUnary o) is (unary_right o)

-- ---- lists

-- a list that has a first element
abbrev pub IsSome : {A : Type 0} → List A → Type 0
IsSome [] = ⊥
IsSome (x ∷ xs) = Unit {0}

pub some_more : {A : Type 0} (xs : List A) (x : A) → IsSome (xs ++ (x ∷ []))
some_more [] x = tt
some_more (y ∷ xs) x = tt

pub separated_more : {A : Type 0} (f : A → List Token) (xs : List A) (x : A) → IsSome xs
    → separated (map f (xs ++ (x ∷ []))) ≡ separated (map f xs) ++ (token.Sign symbol.Comma ∷ f x)
separated_more f [] x some = absurd some
separated_more f (y ∷ []) x some = refl
separated_more f (y ∷ z ∷ xs) x some =
    ap (λ (l : List Token). f y ++ (token.Sign symbol.Comma ∷ l)) (separated_more f (z ∷ xs) x tt)
    ∙ sym (append_assoc (f y) (token.Sign symbol.Comma ∷ separated (map f (z ∷ xs))) (token.Sign symbol.Comma ∷ f x))

pub flat_more : {A : Type 0} (f : A → List Token) (xs : List A) (x : A)
    → flat_map f (xs ++ (x ∷ [])) ≡ flat_map f xs ++ f x
flat_more f [] x = append-nil (f x)
flat_more f (y ∷ xs) x = ap (λ (l : List Token). f y ++ l) (flat_more f xs x)
    ∙ sym (append_assoc (f y) (flat_map f xs) (f x))

-- ---- each form

-- Operators of a level group to the left, but for comparisons.
pub left_same : (level : Level) → (level ≡ Comparison → ⊥) → left_level level ≡ level
left_same Comparison not = absurd (not refl)
left_same Or not = refl
left_same And not = refl
left_same Shift not = refl
left_same Sum not = refl
left_same Term not = refl
left_same Unary not = refl

pub between_own : (at : ℕ) (op : Op) (a b : Expr) (o : Operator) (level : Level) → binary o ≡ Some (level, op)
    → own (between at op a b) ≡ level
between_own at op a b o level is = own_of a.from at (Form-F.Binary op a b) ∙ binary_level o level op is

pub between_tokens : (at : ℕ) (op : Op) (a b : Expr) (o : Operator) (level : Level) → binary o ≡ Some (level, op)
    → tokens_at Or (between at op a b)
    ≡ tokens_at (left_level level) a ++ (Operation o ∷ tokens_at (below level) b)
between_tokens at op a b o level is =
    let ts : List Token = binary_tokens (level_of op) op (λ place. tokens_at place a) (λ place. tokens_at place b) in
    tokens_of Or a.from at (Form-F.Binary op a b) ∙ ap (λ (b : Bool). enclosed_if b ts) (bare_at_or (level_of op))
    ∙ ap (λ (l : Level). tokens_at (left_level l) a ++ (Operation (operator_of op) ∷ tokens_at (below l) b))
    (binary_level o level op is)
    ∙ ap (λ (o : Operator). tokens_at (left_level level) a ++ (Operation o ∷ tokens_at (below level) b))
    (binary_written o level op is)

pub before_tokens : (at : ℕ) (op : Op) (e : Expr) (o : Operator) → unary o ≡ Some op
    → tokens_at Or (before at op e) ≡ Operation o ∷ tokens_at Unary e
before_tokens at op e o is =
    tokens_of Or at at (Form-F.Unary op e)
    ∙ ap (λ (o : Operator). Operation o ∷ tokens_at Unary e) (unary_written o op is)

pub each_at_or : (es : List Expr)
    → map (λ (f : Show). f Or) (map (λ e place. tokens_at place e) es) ≡ map (tokens_at Or) es
each_at_or [] = refl
each_at_or (e ∷ es) = ap (λ (l : List (List Token)). tokens_at Or e ∷ l) (each_at_or es)

-- the arguments of a call or the members of a list
abbrev pub listed : List Expr → List Token
listed items = separated (map (tokens_at Or) items)

pub call_printed : (at : ℕ) (name : List ℕ) (args : List Expr) → tokens_at Or (single at (forms.Call name args))
    ≡ Name name ∷ token.Sign symbol.OpenParen ∷ (listed args ++ (token.Sign symbol.CloseParen ∷ []))
call_printed at name args =
    tokens_of Or at at (Form-F.Call name args)
    ∙ ap (λ (l : List (List Token)). Name name ∷ token.Sign symbol.OpenParen
    ∷ (separated l ++ (token.Sign symbol.CloseParen ∷ []))) (each_at_or args)

pub members_printed : (at : ℕ) (items : List Expr) → tokens_at Or (single at (forms.Members items))
    ≡ token.Sign symbol.OpenBracket ∷ (listed items ++ (token.Sign symbol.CloseBracket ∷ []))
members_printed at items =
    tokens_of Or at at (Form-F.Members items)
    ∙ ap (λ (l : List (List Token)). token.Sign symbol.OpenBracket
    ∷ (separated l ++ (token.Sign symbol.CloseBracket ∷ []))) (each_at_or items)

pub some_members : {depth : ℕ} {u : List Placed} {items : List Expr} → Members depth u items → IsSome items
some_members (member h) = tt
some_members (more_members {items = items} {e = e} at h k) = some_more items e
