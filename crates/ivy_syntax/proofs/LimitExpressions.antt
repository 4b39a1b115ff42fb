-- The counted limits in expressions, by the tree.
use Rattle.std.proofs.Common.{◌≡◌, ◌≤◌, ◌<◌, ◌+◌, ◌-◌, ◌&&◌, ℕ, suc, Bool, true, false, List, [], ◌∷◌, ◌++◌}
use Rattle.std.proofs.Common.{length, refl, ap, sym, ◌∙◌, subst, arith, Option, Some, None, if◌then◌else◌}
use Rattle.std.specs.Prelude.{nat_le, is_none}
use Rattle.std.proofs.lemmas.Bool.{and_parts, and_from}
use Rattle.std.proofs.lemmas.Bool.Decides.{nat_tests}
use Rattle.ivy_syntax.specs.declared.tree.Expr.{Expr}
use Rattle.ivy_syntax.specs.declared.tree.Form.{Form}
use Rattle.ivy_syntax.specs.declared.tree.Form.TheVariants as forms
use Rattle.ivy_syntax.specs.declared.tree.Op.{Op}
use Rattle.ivy_syntax.specs.declared.lexeme.Keyword.TheVariants as keyword
use Rattle.ivy_syntax.specs.declared.lexeme.Operator.{Operator}
use Rattle.ivy_syntax.specs.declared.lexeme.Kind.{Kind}
use Rattle.ivy_syntax.specs.declared.lexeme.Kind.TheVariants as kind
use Rattle.ivy_syntax.specs.Token.{Token}
use Rattle.ivy_syntax.specs.Token as token
use Rattle.ivy_syntax.specs.Tokens.{Placed}
use Rattle.ivy_syntax.specs.Token.{kind_of}
use Rattle.ivy_syntax.specs.Grammar.{IsSingle, a_number, a_true, a_false, a_hex, a_text, a_name, single, between}
use Rattle.ivy_syntax.specs.Grammar.{before}
use Rattle.ivy_syntax.specs.Limits.{is_contract, is_clause, is_requires, is_comma, leads_param, takes_expressions}
use Rattle.ivy_syntax.specs.Limits.{holds, at_least}
use Rattle.ivy_syntax.specs.Counting.{first_of}
use Rattle.ivy_syntax.specs.TreeLimits.{operators, is_short}
use Rattle.ivy_syntax.proofs.LimitStates.{State, next, passed, member_passed, NonePasses, state_after, after_both}
use Rattle.ivy_syntax.proofs.LimitStates.{first_passes, second_passes, both_pass}
use Rattle.ivy_syntax.proofs.TreeCounts.{operators_of, are_short}
use Rattle.ivy_syntax.proofs.TreeCounts.{binary_operators, binary_short, unary_operators, unary_short, IsPlain}

-- ---- tests

-- this number where the test holds, and else what is told next
abbrev pub told_by : Bool → ℕ → Option ℕ → Option ℕ
told_by b n rest = if b then Some n else rest

-- where none is told
pub not_passed : (n : ℕ) (m : Bool) → told_by m n None ≡ None → m ≡ false
not_passed n true h = absurd (cc)
not_passed n false h = refl

pub nothing_told : (n : ℕ) (m : Bool) → m ≡ false → told_by m n None ≡ None
nothing_told n m h = ap (λ m. told_by m n None) h

pub neither : (x y : ℕ) (m b : Bool) → told_by m x (told_by b y None) ≡ None → (m ≡ false) × (b ≡ false)
neither x y true b h = absurd (cc)
neither x y false true h = absurd (cc)
neither x y false false h = (refl, refl)

pub none_told : (x y : ℕ) (m b : Bool) → m ≡ false → b ≡ false → told_by m x (told_by b y None) ≡ None
none_told x y m b h k = λ i. told_by (h i) x (told_by (k i) y None)

pub less : (most n : ℕ) → nat_le most n ≡ false → n < most
less most n h = grind (arith, nat_tests)

pub test_less : (most n : ℕ) → n < most → nat_le most n ≡ false
test_less most n h = grind (arith, nat_tests)

-- what a name passes where no parameter and no requirement is named
name_passes : (leads first second comma req top p q m : Bool) → first ≡ false → second ≡ false
    → (comma && top) ≡ false
    → told_by (leads && first && p) 2 (told_by (leads && second && p) 4
    (told_by (comma && req && top && q) 5 (told_by m 8 None))) ≡ told_by m 8 None
name_passes leads true second comma req top p q m f g h = absurd (cc)
name_passes leads false true comma req top p q m f g h = absurd (cc)
name_passes true false false true req true p q m f g h = absurd (cc)
name_passes true false false true true false p q m f g h = refl
name_passes true false false true false false p q m f g h = refl
name_passes true false false false req top p q m f g h = refl
name_passes false false false true req true p q m f g h = absurd (cc)
name_passes false false false true true false p q m f g h = refl
name_passes false false false true false false p q m f g h = refl
name_passes false false false false req top p q m f g h = refl

-- ---- the place of an expression

-- a section that takes expressions; a comma right before this place stands in a bracket
pub record TakesExpr (s : State) : Type 0 where
  pub takes : holds takes_expressions s.section ≡ true
  pub contract : holds is_contract s.section ≡ false
  pub clause : holds is_clause s.section ≡ false
  pub enclosed : (holds is_comma s.last && is_none (first_of s.stack)) ≡ false

-- with n operators, k last, and p parameters
abbrev pub behind : State → ℕ → Kind → ℕ → State
behind s n k p = record s { operators = n; last = Some k; params = p }

-- what the expression comes to there
pub record ExprFits (s : State) (e : Expr) : Type 0 where
  pub entry : member_passed s ≡ false
  pub operators : operators e ≤ 256 - s.operators
  pub short : is_short e ≡ true

-- The tokens of the expression lead to the state with its operators, and none passes exactly where it fits.
pub record ExprRead (s : State) (u : List Placed) (e : Expr) : Type 0 where
  pub last : Kind
  pub params : ℕ
  pub no_comma : is_comma last ≡ false
  pub runs : state_after s u ≡ behind s (s.operators + operators e) last params
  pub to : NonePasses s u → ExprFits s e
  pub from : ExprFits s e → NonePasses s u

-- in a bracket that k opened
abbrev pub within : State → Kind → State
within s k = record s { last = Some k; stack = 0 ∷ s.stack }

-- in a bracket, with n operators, k last, p parameters, and after c commas
abbrev pub listed : State → ℕ → Kind → ℕ → ℕ → State
listed s n k p c = record s { operators = n; last = Some k; params = p; stack = c ∷ s.stack }

-- what the members come to in a bracket that stands there
pub record MembersFit (s : State) (items : List Expr) : Type 0 where
  pub few : length items ≤ 16
  pub operators : operators_of items ≤ 256 - s.operators
  pub short : are_short items ≡ true

pub record MembersRead (s : State) (k : Kind) (u : List Placed) (items : List Expr) : Type 0 where
  pub last : Kind
  pub params : ℕ
  pub commas : ℕ
  pub no_comma : is_comma last ≡ false
  pub count : suc commas ≡ length items
  pub runs : state_after (within s k) u ≡ listed s (s.operators + operators_of items) last params commas
  pub to : NonePasses (within s k) u → MembersFit s items
  pub from : MembersFit s items → NonePasses (within s k) u

-- after a token that is no comma no member begins
pub no_entry : (s : State) → holds is_comma s.last ≡ false → member_passed s ≡ false
no_entry s h = ap (λ b. b && holds takes_expressions s.section && at_least 16 (first_of s.stack)) h

pub is_enclosed : (s : State) → holds is_comma s.last ≡ false
    → (holds is_comma s.last && is_none (first_of s.stack)) ≡ false
is_enclosed s h = ap (λ b. b && is_none (first_of s.stack)) h

-- ---- one token

-- a token that passes one only as a member's first token
abbrev Plain : Kind → Type 0
Plain k = (s : State) → TakesExpr s → passed s k ≡ told_by (member_passed s) 8 None

pub name_is_plain : Plain kind.Name
name_is_plain s at =
    name_passes (holds leads_param s.last) (holds is_contract s.section) (holds is_clause s.section)
    (holds is_comma s.last) (holds is_requires s.part) (is_none (first_of s.stack)) (nat_le 32 s.params)
    (nat_le 8 s.assets) (member_passed s) at.contract at.clause at.enclosed

one_read : (s : State) (t : Token) (form : Form) (place : ℕ) → TakesExpr s → Plain (kind_of t) → IsPlain form
    → is_comma (kind_of t) ≡ false
    → next s (kind_of t) ≡ behind s s.operators (kind_of t) (next s (kind_of t)).params
    → ExprRead s ((t, place) ∷ []) (single place form)
one_read s t form place at plain is no_comma same =
    let none : operators (single place form) ≡ 0 = is.operators place in
    record {
      last = kind_of t;
      params = (next s (kind_of t)).params;
      no_comma = no_comma;
      runs = same ∙ ap (λ n. behind s n (kind_of t) (next s (kind_of t)).params) (omega arith);
      to = λ h. record {
        entry = not_passed 8 (member_passed s) (sym (plain s at) ∙ h.0);
        operators = omega arith;
        short = is.short place;
      };
      from = λ f. (plain s at ∙ nothing_told 8 (member_passed s) f.entry, tt);
    }

pub single_read : (s : State) (t : Token) (form : Form) (place : ℕ) → TakesExpr s → IsSingle t form → IsPlain form
    → ExprRead s ((t, place) ∷ []) (single place form)
single_read s _ _ place at (a_number n) is =
    one_read s (token.Number n) (forms.Number n) place at (λ s at. refl) is refl refl
single_read s _ _ place at a_true is =
    one_read s (token.Word keyword.True) (forms.Truth true) place at (λ s at. refl) is refl refl
single_read s _ _ place at a_false is =
    one_read s (token.Word keyword.False) (forms.Truth false) place at (λ s at. refl) is refl refl
single_read s _ _ place at (a_hex bytes) is =
    one_read s (token.Hex bytes) (forms.Hex bytes) place at (λ s at. refl) is refl refl
single_read s _ _ place at (a_text bytes) is =
    one_read s (token.Quoted bytes) (forms.Quoted bytes) place at (λ s at. refl) is refl refl
single_read s _ _ place at (a_name name) is =
    one_read s (token.Name name) (forms.Name name) place at name_is_plain is refl refl

-- ---- operators

pub prefixed_read : (s : State) (o : Operator) (place : ℕ) (op : Op) (u : List Placed) (e : Expr)
    → ExprRead (behind s (suc s.operators) (kind.Operation o) s.params) u e
    → ExprRead s ((token.Operation o, place) ∷ u) (before place op e)
prefixed_read s o place op u e r =
    let count : operators (before place op e) ≡ 1 + operators e = unary_operators place op e in
    record {
      last = r.last;
      params = r.params;
      no_comma = r.no_comma;
      runs = r.runs ∙ ap (λ n. behind s n r.last r.params) (omega arith);
      to = λ h. (let first = neither 8 9 (member_passed s) (nat_le 256 s.operators) h.0 in
          let rest = r.to h.1 in
          record {
            entry = first.0;
            operators = omega (arith, less 256 s.operators first.1, rest.operators);
            short = unary_short place op e ∙ rest.short;
          });
      from = λ f. (
        none_told 8 9 (member_passed s) (nat_le 256 s.operators) f.entry
            (test_less 256 s.operators (omega (arith, f.operators))),
        r.from (record {
          entry = refl;
          operators = omega (arith, f.operators);
          short = sym (unary_short place op e) ∙ f.short;
        }),
      );
    }

pub joined_read : (s : State) (o : Operator) (place : ℕ) (op : Op) (u w : List Placed) (a b : Expr) → ExprRead s u a
    → ((n p : ℕ) → ExprRead (behind s n (kind.Operation o) p) w b)
    → ExprRead s (u ++ ((token.Operation o, place) ∷ w)) (between place op a b)
joined_read s o place op u w a b l right =
    let t : Placed = (token.Operation o, place) in
    let m : State = behind s (s.operators + operators a) l.last l.params in
    let r = right (suc (s.operators + operators a)) l.params in
    let count : operators (between place op a b) ≡ 1 + operators a + operators b = binary_operators place op a b in
    record {
      last = r.last;
      params = r.params;
      no_comma = r.no_comma;
      runs = after_both s u (t ∷ w) ∙ ap (λ s. state_after s (t ∷ w)) l.runs ∙ r.runs
          ∙ ap (λ n. behind s n r.last r.params) (omega arith);
      to = λ h. (let first = l.to (first_passes s u (t ∷ w) h) in
          let second : NonePasses m (t ∷ w)
          = subst (λ s. NonePasses s (t ∷ w)) l.runs (second_passes s u (t ∷ w) h) in
          let here = neither 8 9 (member_passed m) (nat_le 256 (s.operators + operators a)) second.0 in
          let rest = r.to second.1 in
          record {
            entry = first.entry;
            operators = omega (arith, first.operators, less 256 (s.operators + operators a) here.1, rest.operators);
            short = binary_short place op a b ∙ and_from (is_short a) (is_short b) first.short rest.short;
          });
      from = λ f. (let parts = and_parts (is_short a) (is_short b) (sym (binary_short place op a b) ∙ f.short) in
          let small : operators (between place op a b) ≤ 256 - s.operators = f.operators in
          both_pass s u (t ∷ w)
          (l.from (record { entry = f.entry; operators = omega arith; short = parts.0 }))
          (subst (λ s. NonePasses s (t ∷ w)) (sym l.runs) (
            none_told 8 9 (member_passed m) (nat_le 256 (s.operators + operators a)) (no_entry m l.no_comma)
                (test_less 256 (s.operators + operators a) (omega arith)),
            r.from (record { entry = refl; operators = omega arith; short = parts.1 }),
          )));
    }
