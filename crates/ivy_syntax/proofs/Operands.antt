-- What is unary comes out as the parser goes: by its first token.
use Rattle.std.specs.Prelude.{◌≡◌, ◌⊎◌, ℕ, suc, Bool, true, false, List, [], ◌∷◌, ◌++◌, Some, None, refl}
use Rattle.std.proofs.Common.{sym, ap, ◌∙◌, subst}
use Rattle.grammars.specs.Part.{Part}
use Rattle.grammars.specs.Heads.{Nothing}
use Rattle.grammars.specs.Sequence.{Within}
use Rattle.grammars.specs.Bits.{Made, Closed}
use Rattle.grammars.specs.Once.{Once, Not, One}
use Rattle.grammars.specs.Depth.{Any, together}
use Rattle.grammars.specs.Gathered.{Separated, one_item, and_item, gathered_reads, gathered_one, gathered_more}
use Rattle.grammars.specs.Perhaps.{Perhaps, Missing, Stands}
use Rattle.grammars.specs.Taken.{made_of, made_is, closed_of, closed_is}
use Rattle.ivy_syntax.specs.declared.tree.Expr.{Expr}
use Rattle.ivy_syntax.specs.declared.tree.Form.{Form}
use Rattle.ivy_syntax.specs.declared.tree.Form.TheVariants as forms
use Rattle.ivy_syntax.specs.declared.tree.Op.{Op}
use Rattle.ivy_syntax.specs.declared.lexeme.Keyword.TheVariants as keyword
use Rattle.ivy_syntax.specs.declared.lexeme.Symbol.{Symbol}
use Rattle.ivy_syntax.specs.declared.lexeme.Symbol.TheVariants as symbol
use Rattle.ivy_syntax.specs.declared.lexeme.Operator.{Operator}
use Rattle.ivy_syntax.specs.declared.lexeme.Operator.TheVariants as operator
use Rattle.ivy_syntax.specs.Token.{Token, Operation, Name, Number, Hex, Quoted, sign}
use Rattle.ivy_syntax.specs.Token as token
use Rattle.ivy_syntax.specs.Tokens.{Placed}
use Rattle.ivy_syntax.specs.declared.level.Level.TheVariants.{Or, Unary}
use Rattle.ivy_syntax.specs.Grammar.{single, enclosed, before, unary, IsSingle}
use Rattle.ivy_syntax.specs.Grammar.{a_number, a_true, a_false, a_hex, a_text, a_name}
use Rattle.ivy_syntax.specs.Grammar.{Reads, alone, joined, prefixed, one_token, empty_call, call, members}
use Rattle.ivy_syntax.specs.Grammar.{parentheses, Members, member, more_members}
use Rattle.ivy_syntax.specs.Descent.{is_sign, Start, Literal, Named, Paren}
use Rattle.ivy_syntax.specs.Descent.{Bracket, Prefix, NoStart, prefix, start, close_paren, close_bracket}
use Rattle.ivy_syntax.proofs.Pieces.{sign_is, the_sign_is, not_unary, goes_at}
use Rattle.ivy_syntax.proofs.Growth.{reads_grow, lists_grow}
use Rattle.ivy_syntax.proofs.Levels.{Goes_on, IsAtLeast}

-- ---- lists with commas

abbrev pub is_comma : Placed → Bool
is_comma = is_sign symbol.Comma

-- a part, and more of it after commas
abbrev pub Listed : {V : Type 0} → Part Placed V → Part Placed (List V)
Listed X = Separated is_comma X

-- a part goes on with a comma
abbrev pub OrComma : (Placed → Type 0) → Placed → Type 0
OrComma C t = C t ⊎ (is_comma t ≡ true)

-- what an operator or a call's parenthesis is not
pub weak : (t : Placed) (s : Symbol) → t ≡ (token.Sign s, t.1) → goes_at (token.Sign s) ≡ None → Goes_on Or t → ⊥
weak t s is none more = subst (IsAtLeast Or) (ap (λ t. goes_at t.0) is ∙ none) more

pub comma_apart : (t : Placed) → is_comma t ≡ true → Goes_on Or t → ⊥
comma_apart t is more = weak t symbol.Comma (sign_is symbol.Comma t is) refl more

add_member : (depth : ℕ) (u w : List Placed) (t : Placed) (items : List Expr) (e : Expr) → Members depth u items
    → is_comma t ≡ true → Reads Or depth w e → Members depth (u ++ (t ∷ w)) (items ++ (e ∷ []))
add_member depth u w t items e h is k =
    subst (λ t. Members depth (u ++ (t ∷ w)) (items ++ (e ∷ []))) (sym (sign_is symbol.Comma t is))
    (more_members t.1 h k)

pub of_listed : (depth : ℕ) → Within (Listed (Reads Or depth)) (Members depth)
of_listed depth = gathered_reads is_comma one_item and_item (Reads Or depth) (λ t. Reads Or depth) (Members depth)
    (λ u e h. member h) (add_member depth)

pub of_any_listed : Within (Listed (Any (Reads Or))) (Any Members)
of_any_listed = gathered_reads is_comma one_item and_item (Any (Reads Or)) (λ t. Any (Reads Or)) (Any Members)
    (λ u e h. (h.0, member h.1)) (λ u w t items e h is k.
    let both = together Members (Reads Or) lists_grow (reads_grow Or) u w items e h k in
    (both.0, add_member both.0 u w t items e both.1 is both.2))

pub to_listed : (depth : ℕ) (Z : Part Placed Expr) → Within (Reads Or depth) Z → Within (Members depth) (Listed Z)
to_listed depth Z inside u _ (member {e = e} h) =
    gathered_one is_comma one_item and_item Z (λ t. Z) u e (inside u e h)
to_listed depth Z inside _ _ (more_members {u = u} {w = w} {items = items} {e = e} at h k) =
    gathered_more is_comma one_item and_item Z (λ t. Z) u w (token.Sign symbol.Comma, at) items e
    (to_listed depth Z inside u items h) refl (inside w e k)

-- ---- the part after the first token

abbrev pub Args : Part Placed Expr → Part Placed (List Expr)
Args O = Perhaps close_paren [] (Listed O)

abbrev pub called : ℕ → List ℕ → Placed → Expr → List Expr → Expr
called at name t e args = single at (forms.Call name args)

abbrev pub opens : Placed → Bool
opens = is_sign symbol.OpenParen

abbrev pub Named_part : Part Placed Expr → ℕ → List ℕ → Part Placed Expr
Named_part O at name = Once opens (λ t. Args O) (called at name) (single at (forms.Name name))

-- what stands after a first token at this place, by what is unary and what is an expression one deeper
abbrev pub Follows : Part Placed Expr → Part Placed Expr → ℕ → Start → Part Placed Expr
Follows U O at (Literal form) = Nothing (single at form)
Follows U O at (Named name) = Named_part O at name
Follows U O at Paren = Made (enclosed at) (Closed close_paren O)
Follows U O at Bracket = Made (λ items. single at (forms.Members items)) (Closed close_bracket (Listed O))
Follows U O at (Prefix op) = Made (before at op) U
Follows U O at NoStart = λ u v. ⊥

pub single_follows : (U O : Part Placed Expr) (at : ℕ) (t : Token) (form : Form) → IsSingle t form
    → Follows U O at (start t) [] (single at form)
single_follows U O at _ _ (a_number n) = (refl, refl)
single_follows U O at _ _ a_true = (refl, refl)
single_follows U O at _ _ a_false = (refl, refl)
single_follows U O at _ _ (a_hex bytes) = (refl, refl)
single_follows U O at _ _ (a_text bytes) = (refl, refl)
single_follows U O at _ _ (a_name name) = Not (single at (forms.Name name))

-- a part after a first token
pub record FirstOf (X : Placed → Part Placed Expr) (u : List Placed) (e : Expr) : Type 0 where
  pub token : Placed
  pub behind : List Placed
  pub all : u ≡ token ∷ behind
  pub reads : X token behind e

abbrev pub Behind : Part Placed Expr → Part Placed Expr → Placed → Part Placed Expr
Behind U O t = Follows U O t.1 (start t.0)

pub follows : (depth : ℕ) (U O : Part Placed Expr) → ((d : ℕ) → depth ≡ suc d → Within (Reads Unary d) U)
    → ((d : ℕ) → depth ≡ suc d → Within (Reads Or d) O) → (u : List Placed) (e : Expr) → Reads Unary depth u e
    → FirstOf (Behind U O) u e
follows depth U O inside_u inside_o u e (alone h) = follows depth U O inside_u inside_o u e h
follows depth U O inside_u inside_o _ _ (joined {op = op} o at is not h k) = absurd (not_unary o op is)
follows _ U O inside_u inside_o _ _ (prefixed {depth = d} {u = w} {e = e} {op = op} o at is h) = record {
  token = (Operation o, at);
  behind = w;
  all = refl;
  reads = subst (λ s. Follows U O at s w (before at op e)) (sym (ap prefix is))
      (made_of (before at op) U w e (inside_u d refl w e h));
}
follows depth U O inside_u inside_o _ _ (one_token {t = t} {form = form} at is) = record {
  token = (t, at);
  behind = [];
  all = refl;
  reads = single_follows U O at t form is;
}
follows _ U O inside_u inside_o _ _ (empty_call {depth = d} name at first last) = record {
  token = (Name name, at);
  behind = (token.Sign symbol.OpenParen, first) ∷ (token.Sign symbol.CloseParen, last) ∷ [];
  all = refl;
  reads = One (token.Sign symbol.OpenParen, first) (single at (forms.Name name)) []
      ((token.Sign symbol.CloseParen, last) ∷ []) refl
      (Missing (token.Sign symbol.CloseParen, last) (token.Sign symbol.CloseParen, last) refl);
}
follows _ U O inside_u inside_o _ _ (call {depth = d} {u = w} {args = args} name at first last h) = record {
  token = (Name name, at);
  behind = (token.Sign symbol.OpenParen, first) ∷ (w ++ ((token.Sign symbol.CloseParen, last) ∷ []));
  all = refl;
  reads = One (token.Sign symbol.OpenParen, first) (single at (forms.Name name)) args
      (w ++ ((token.Sign symbol.CloseParen, last) ∷ [])) refl
      (Stands (w ++ ((token.Sign symbol.CloseParen, last) ∷ [])) args
      (closed_of close_paren (Listed O) w args (token.Sign symbol.CloseParen, last)
      (token.Sign symbol.CloseParen, last) refl (to_listed d O (inside_o d refl) w args h)));
}
follows _ U O inside_u inside_o _ _ (members {depth = d} {u = w} {items = items} at close h) = record {
  token = (token.Sign symbol.OpenBracket, at);
  behind = w ++ ((token.Sign symbol.CloseBracket, close) ∷ []);
  all = refl;
  reads = made_of (λ items. single at (forms.Members items)) (Closed close_bracket (Listed O))
      (w ++ ((token.Sign symbol.CloseBracket, close) ∷ [])) items
      (closed_of close_bracket (Listed O) w items (token.Sign symbol.CloseBracket, close)
      (token.Sign symbol.CloseBracket, close) refl (to_listed d O (inside_o d refl) w items h));
}
follows _ U O inside_u inside_o _ _ (parentheses {depth = d} {u = w} {e = e} at close h) = record {
  token = (token.Sign symbol.OpenParen, at);
  behind = w ++ ((token.Sign symbol.CloseParen, close) ∷ []);
  all = refl;
  reads = made_of (enclosed at) (Closed close_paren O) (w ++ ((token.Sign symbol.CloseParen, close) ∷ [])) e
      (closed_of close_paren O w e (token.Sign symbol.CloseParen, close)
      (token.Sign symbol.CloseParen, close) refl (inside_o d refl w e h));
}

-- ---- and the other way round

pub a_single : (depth : ℕ) (t : Token) (form : Form) (at : ℕ) (w : List Placed) (e : Expr) → IsSingle t form
    → Nothing (single at form) w e → Reads Unary depth ((t, at) ∷ w) e
a_single depth t form at w e is h =
    subst (λ w. Reads Unary depth ((t, at) ∷ w) e) (sym h.0)
    (subst (λ e. Reads Unary depth ((t, at) ∷ []) e) (sym h.1) (one_token at is))

a_call : (depth : ℕ) (name : List ℕ) (at : ℕ) (open_at : ℕ) (w : List Placed) (args : List Expr)
    → Args (Reads Or depth) w args
    → Reads Unary (suc depth) ((Name name, at) ∷ (token.Sign symbol.OpenParen, open_at) ∷ w)
    (single at (forms.Call name args))
a_call depth name at open_at _ _ (Missing t e is) =
    subst (λ t. Reads Unary (suc depth) ((Name name, at) ∷ (token.Sign symbol.OpenParen, open_at) ∷ t ∷ [])
    (single at (forms.Call name []))) (sym (the_sign_is symbol.CloseParen t e is)) (empty_call name at open_at t.1)
a_call depth name at open_at w args (Stands _ _ h) =
    let c = closed_is close_paren (Listed (Reads Or depth)) w args h in
    subst (λ w. Reads Unary (suc depth) ((Name name, at) ∷ (token.Sign symbol.OpenParen, open_at) ∷ w)
    (single at (forms.Call name args)))
    (sym (c.all ∙ ap (λ t. c.inner ++ (t ∷ [])) (the_sign_is symbol.CloseParen c.token c.meaning c.means)))
    (call name at open_at c.token.1 (of_listed depth c.inner args c.reads))

a_named : (depth : ℕ) (name : List ℕ) (at : ℕ) (w : List Placed) (e : Expr)
    → Named_part (Reads Or depth) at name w e → Reads Unary (suc depth) ((Name name, at) ∷ w) e
a_named depth name at _ _ (Not _) = one_token at (a_name name)
a_named depth name at _ _ (One t _ args w is h) =
    subst (λ t. Reads Unary (suc depth) ((Name name, at) ∷ t ∷ w) (single at (forms.Call name args)))
    (sym (sign_is symbol.OpenParen t is)) (a_call depth name at t.1 w args h)

a_bracket : (depth : ℕ) (at : ℕ) (w : List Placed) (e : Expr)
    → Follows (Reads Unary depth) (Reads Or depth) at Bracket w e
    → Reads Unary (suc depth) ((token.Sign symbol.OpenBracket, at) ∷ w) e
a_bracket depth at w e h =
    let m = made_is (λ items. single at (forms.Members items)) (Closed close_bracket (Listed (Reads Or depth))) w e h in
    let c = closed_is close_bracket (Listed (Reads Or depth)) w m.0 m.1 in
    subst (λ w. Reads Unary (suc depth) ((token.Sign symbol.OpenBracket, at) ∷ w) e)
    (sym (c.all ∙ ap (λ t. c.inner ++ (t ∷ [])) (the_sign_is symbol.CloseBracket c.token c.meaning c.means)))
    (subst (λ e. Reads Unary (suc depth) ((token.Sign symbol.OpenBracket, at)
    ∷ (c.inner ++ ((token.Sign symbol.CloseBracket, c.token.1) ∷ []))) e) (sym m.2)
    (members at c.token.1 (of_listed depth c.inner m.0 c.reads)))

a_paren : (depth : ℕ) (at : ℕ) (w : List Placed) (e : Expr)
    → Follows (Reads Unary depth) (Reads Or depth) at Paren w e
    → Reads Unary (suc depth) ((token.Sign symbol.OpenParen, at) ∷ w) e
a_paren depth at w e h =
    let m = made_is (enclosed at) (Closed close_paren (Reads Or depth)) w e h in
    let c = closed_is close_paren (Reads Or depth) w m.0 m.1 in
    subst (λ w. Reads Unary (suc depth) ((token.Sign symbol.OpenParen, at) ∷ w) e)
    (sym (c.all ∙ ap (λ t. c.inner ++ (t ∷ [])) (the_sign_is symbol.CloseParen c.token c.meaning c.means)))
    (subst (λ e. Reads Unary (suc depth) ((token.Sign symbol.OpenParen, at)
    ∷ (c.inner ++ ((token.Sign symbol.CloseParen, c.token.1) ∷ []))) e) (sym m.2)
    (parentheses at c.token.1 c.reads))

a_prefix : (depth : ℕ) (o : Operator) (op : Op) (at : ℕ) (w : List Placed) (e : Expr) → unary o ≡ Some op
    → Made (before at op) (Reads Unary depth) w e → Reads Unary (suc depth) ((Operation o, at) ∷ w) e
a_prefix depth o op at w e is h =
    let m = made_is (before at op) (Reads Unary depth) w e h in
    subst (λ e. Reads Unary (suc depth) ((Operation o, at) ∷ w) e) (sym m.2) (prefixed o at is m.1)

pub unfollows : (depth : ℕ) (t : Token) (at : ℕ) (w : List Placed) (e : Expr)
    → Follows (Reads Unary depth) (Reads Or depth) at (start t) w e → Reads Unary (suc depth) ((t, at) ∷ w) e
unfollows depth (Number n) at w e h = a_single (suc depth) (Number n) (forms.Number n) at w e (a_number n) h
unfollows depth (token.Word keyword.True) at w e h =
    a_single (suc depth) (token.Word keyword.True) (forms.Truth true) at w e a_true h
unfollows depth (token.Word keyword.False) at w e h =
    a_single (suc depth) (token.Word keyword.False) (forms.Truth false) at w e a_false h
unfollows depth (Hex bytes) at w e h = a_single (suc depth) (Hex bytes) (forms.Hex bytes) at w e (a_hex bytes) h
unfollows depth (Quoted bytes) at w e h =
    a_single (suc depth) (Quoted bytes) (forms.Quoted bytes) at w e (a_text bytes) h
unfollows depth (Name name) at w e h = a_named depth name at w e h
unfollows depth (token.Sign symbol.OpenParen) at w e h = a_paren depth at w e h
unfollows depth (token.Sign symbol.OpenBracket) at w e h = a_bracket depth at w e h
unfollows depth (Operation operator.Not) at w e h = a_prefix depth operator.Not _ at w e refl h
unfollows depth (Operation operator.Minus) at w e h = a_prefix depth operator.Minus _ at w e refl h
unfollows depth _ at w e h = absurd h
