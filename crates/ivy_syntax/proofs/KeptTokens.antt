-- The tokens that are printed of what some read as are those, with some parentheses left out.
use Rattle.std.specs.Prelude.{◌≡◌, ◌⊎◌, ℕ, true, false, List, [], ◌∷◌, ◌++◌, map}
use Rattle.std.specs.List.{flat_map}
use Rattle.std.proofs.Common.{sym, ap, ◌∙◌, inl, inr, subst, true≢false}
use Rattle.std.proofs.lemmas.Bool.{cases_Bool}
use mathlib.Core.List.{append-nil}
use Rattle.grammars.specs.Places.{kinds}
use Rattle.ivy_syntax.specs.declared.tree.Expr.{Expr}
use Rattle.ivy_syntax.specs.declared.tree.Form.TheOpen.{Form-F}
use Rattle.ivy_syntax.specs.declared.tree.Form.TheVariants as forms
use Rattle.ivy_syntax.specs.declared.tree.Source.{Source}
use Rattle.ivy_syntax.specs.declared.lexeme.Keyword.TheVariants as keyword
use Rattle.ivy_syntax.specs.declared.lexeme.Symbol.TheVariants as symbol
use Rattle.ivy_syntax.specs.Token.{Token, Operation, Name}
use Rattle.ivy_syntax.specs.Token as token
use Rattle.ivy_syntax.specs.Tokens.{Placed}
use Rattle.ivy_syntax.specs.declared.level.Level.{Level}
use Rattle.ivy_syntax.specs.declared.level.Level.TheVariants.{Or, Comparison, Shift, Unary}
use Rattle.ivy_syntax.specs.Grammar.{below, Reads, alone, joined, compared}
use Rattle.ivy_syntax.specs.Grammar.{prefixed, one_token, empty_call, call, members, parentheses, Members, member}
use Rattle.ivy_syntax.specs.Grammar.{more_members, between, before, enclosed, single, word, Names, a_name_alone}
use Rattle.ivy_syntax.specs.Grammar.{more_names, IsGroup, group, Groups, a_group, more_groups, Params, no_params}
use Rattle.ivy_syntax.specs.Grammar.{params, IsReq, req, ReqList, a_req, more_reqs, Requires, no_requires, requires}
use Rattle.ivy_syntax.specs.Grammar.{IsStmt, verify, lock, unlock, Stmts, a_stmt, more_stmts, IsClause, clause, Clauses}
use Rattle.ivy_syntax.specs.Grammar.{a_clause, more_clauses, IsContract, contract, Contracts, a_contract}
use Rattle.ivy_syntax.specs.Grammar.{more_contracts, File, file}
use Rattle.ivy_syntax.specs.Shown.{tokens_at, is_enclosed, separated, word_tokens, group_tokens, params_tokens}
use Rattle.ivy_syntax.specs.Shown.{req_tokens, requires_tokens, stmt_tokens, clause_tokens, contract_tokens, shown}
use Rattle.ivy_syntax.proofs.ShownParts.{own, own_of, enclosed_tokens, single_tokens, single_own, bare_at_own}
use Rattle.ivy_syntax.proofs.ShownParts.{enclosed_below, bare_tokens, enclosed_in, separated_more, flat_more, left_same}
use Rattle.ivy_syntax.proofs.ShownParts.{between_own, between_tokens, before_tokens, listed, call_printed}
use Rattle.ivy_syntax.proofs.ShownParts.{members_printed, some_members}
use Rattle.ivy_syntax.proofs.Reprinted.{some_names, some_groups, some_reqs, requires_some}
use Rattle.ivy_syntax.proofs.Kept.{Kept, none, keeps, drops, kept_both, kept_as}

-- ---- expressions

-- The bare tokens of an expression are left of these, and with parentheses where this level asks for them.
record BareKept (level : Level) (u : List Placed) (e : Expr) : Type 0 where
  pub bare : Kept (tokens_at Or e) (kinds u)
  pub in_parentheses : is_enclosed (own e) level ≡ true
      → Kept (token.Sign symbol.OpenParen ∷ (tokens_at Or e ++ (token.Sign symbol.CloseParen ∷ []))) (kinds u)

kept_by : (level : Level) (u : List Placed) (e : Expr) (ts : List Token) → own e ≡ level → tokens_at Or e ≡ ts
    → Kept ts (kinds u) → BareKept level u e
kept_by level u e ts own_is are h = record {
  bare = kept_as (tokens_at Or e) ts (kinds u) are h;
  in_parentheses = λ is.
      absurd (true≢false (sym is ∙ ap (λ (l : Level). is_enclosed l level) own_is ∙ bare_at_own level));
}

-- where the level reads it, bare or in parentheses
kept_at : (level : Level) (u : List Placed) (e : Expr) → BareKept level u e → Kept (tokens_at level e) (kinds u)
kept_at level u e h = by (cases_Bool (is_enclosed (own e) level))
  where
    by : (is_enclosed (own e) level ≡ true) ⊎ (is_enclosed (own e) level ≡ false) → Kept (tokens_at level e) (kinds u)
    by (inl is) = kept_as (tokens_at level e) _ (kinds u) (enclosed_in e level is) (h.in_parentheses is)
    by (inr not) = kept_as (tokens_at level e) (tokens_at Or e) (kinds u) (bare_tokens e level not) h.bare

kept_parentheses : (u : List Placed) (at close : ℕ) (e : Expr) → BareKept Or u e
    → BareKept Unary ((token.Sign symbol.OpenParen, at) ∷ (u ++ ((token.Sign symbol.CloseParen, close) ∷ [])))
    (enclosed at e)
kept_parentheses u at close e h =
    let all : Kept (token.Sign symbol.OpenParen ∷ (tokens_at Or e ++ (token.Sign symbol.CloseParen ∷ [])))
    (token.Sign symbol.OpenParen ∷ kinds (u ++ ((token.Sign symbol.CloseParen, close) ∷ [])))
    = keeps (token.Sign symbol.OpenParen)
    (kept_both (tokens_at Or e) (token.Sign symbol.CloseParen ∷ []) u ((token.Sign symbol.CloseParen, close) ∷ [])
    h.bare (keeps (token.Sign symbol.CloseParen) none)) in
    record {
      bare = kept_as (tokens_at Or (enclosed at e)) (tokens_at Or e) _ (enclosed_tokens Or at e)
          (drops (token.Sign symbol.OpenParen)
          (subst (λ (l : List Token). Kept l (kinds (u ++ ((token.Sign symbol.CloseParen, close) ∷ []))))
          (append-nil (tokens_at Or e))
          (kept_both (tokens_at Or e) [] u ((token.Sign symbol.CloseParen, close) ∷ []) h.bare
          (drops (token.Sign symbol.CloseParen) none))));
      in_parentheses = λ is. subst (λ (l : List Token). Kept (token.Sign symbol.OpenParen
          ∷ (l ++ (token.Sign symbol.CloseParen ∷ [])))
          (token.Sign symbol.OpenParen ∷ kinds (u ++ ((token.Sign symbol.CloseParen, close) ∷ []))))
          (sym (enclosed_tokens Or at e)) all;
    }

mutual
  expr_kept : {level : Level} {depth : ℕ} {u : List Placed} {e : Expr} → Reads level depth u e → BareKept level u e
  expr_kept (alone {level = level} {u = u} {e = e} h) =
      let k = expr_kept h in
      record { bare = k.bare; in_parentheses = λ is. k.in_parentheses (enclosed_below (own e) level is) }
  expr_kept (joined {level = level} {u = u} {w = w} {a = a} {b = b} {op = op} o at is not h k) =
      kept_by level (u ++ ((Operation o, at) ∷ w)) (between at op a b)
      (tokens_at level a ++ (Operation o ∷ tokens_at (below level) b)) (between_own at op a b o level is)
      (between_tokens at op a b o level is
      ∙ ap (λ (l : Level). tokens_at l a ++ (Operation o ∷ tokens_at (below level) b)) (left_same level not))
      (kept_both (tokens_at level a) (Operation o ∷ tokens_at (below level) b) u ((Operation o, at) ∷ w)
      (kept_at level u a (expr_kept h)) (keeps (Operation o) (kept_at (below level) w b (expr_kept k))))
  expr_kept (compared {u = u} {w = w} {a = a} {b = b} {op = op} o at is h k) =
      kept_by Comparison (u ++ ((Operation o, at) ∷ w)) (between at op a b)
      (tokens_at Shift a ++ (Operation o ∷ tokens_at Shift b)) (between_own at op a b o Comparison is)
      (between_tokens at op a b o Comparison is)
      (kept_both (tokens_at Shift a) (Operation o ∷ tokens_at Shift b) u ((Operation o, at) ∷ w)
      (kept_at Shift u a (expr_kept h)) (keeps (Operation o) (kept_at Shift w b (expr_kept k))))
  expr_kept (prefixed {u = u} {e = e} {op = op} o at is h) =
      kept_by Unary ((Operation o, at) ∷ u) (before at op e) (Operation o ∷ tokens_at Unary e)
      (own_of at at (Form-F.Unary op e)) (before_tokens at op e o is)
      (keeps (Operation o) (kept_at Unary u e (expr_kept h)))
  expr_kept (one_token {t = t} {form = form} at is) =
      kept_by Unary ((t, at) ∷ []) (single at form) (t ∷ []) (single_own at t form is) (single_tokens Or at t form is)
      (keeps t none)
  expr_kept (empty_call name at first last) =
      kept_by Unary _ (single at (forms.Call name [])) _ (own_of at at (Form-F.Call name [])) (call_printed at name [])
      (keeps (Name name) (keeps (token.Sign symbol.OpenParen) (keeps (token.Sign symbol.CloseParen) none)))
  expr_kept (call {u = u} {args = args} name at first last h) =
      kept_by Unary _ (single at (forms.Call name args)) _ (own_of at at (Form-F.Call name args))
      (call_printed at name args)
      (keeps (Name name) (keeps (token.Sign symbol.OpenParen)
      (kept_both (listed args) (token.Sign symbol.CloseParen ∷ []) u ((token.Sign symbol.CloseParen, last) ∷ [])
      (list_kept h) (keeps (token.Sign symbol.CloseParen) none))))
  expr_kept (members {u = u} {items = items} at close h) =
      kept_by Unary _ (single at (forms.Members items)) _ (own_of at at (Form-F.Members items))
      (members_printed at items)
      (keeps (token.Sign symbol.OpenBracket)
      (kept_both (listed items) (token.Sign symbol.CloseBracket ∷ []) u ((token.Sign symbol.CloseBracket, close) ∷ [])
      (list_kept h) (keeps (token.Sign symbol.CloseBracket) none)))
  expr_kept (parentheses {u = u} {e = e} at close h) = kept_parentheses u at close e (expr_kept h)

  list_kept : {depth : ℕ} {u : List Placed} {items : List Expr} → Members depth u items → Kept (listed items) (kinds u)
  list_kept (member {u = u} {e = e} h) = kept_at Or u e (expr_kept h)
  list_kept (more_members {u = u} {w = w} {items = items} {e = e} at h k) =
      kept_as (listed (items ++ (e ∷ []))) _ (kinds (u ++ ((token.Sign symbol.Comma, at) ∷ w)))
      (separated_more (tokens_at Or) items e (some_members h))
      (kept_both (listed items) (token.Sign symbol.Comma ∷ tokens_at Or e) u ((token.Sign symbol.Comma, at) ∷ w)
      (list_kept h) (keeps (token.Sign symbol.Comma) (kept_at Or w e (expr_kept k))))

-- by the level that reads it
tokens_kept : (level : Level) (depth : ℕ) (u : List Placed) (e : Expr) → Reads level depth u e
    → Kept (tokens_at level e) (kinds u)
tokens_kept level depth u e h = kept_at level u e (expr_kept h)

-- ---- parameters

-- what is printed of what these tokens read as is left of them
abbrev Keeps : {V : Type 0} → (List Placed → V → Type 0) → (V → List Token) → Type 0
Keeps X tokens = (u : List Placed) (v : _) → X u v → Kept (tokens v) (kinds u)

names_kept : Keeps Names (λ words. separated (map word_tokens words))
names_kept _ _ (a_name_alone name at) = keeps (Name name) none
names_kept _ _ (more_names {u = u} {words = words} comma name at h) =
    kept_as _ _ (kinds (u ++ ((token.Sign symbol.Comma, comma) ∷ (Name name, at) ∷ [])))
    (separated_more word_tokens words (word name at) (some_names u words h))
    (kept_both (separated (map word_tokens words)) (token.Sign symbol.Comma ∷ Name name ∷ []) u
    ((token.Sign symbol.Comma, comma) ∷ (Name name, at) ∷ []) (names_kept u words h)
    (keeps (token.Sign symbol.Comma) (keeps (Name name) none)))

group_kept : Keeps IsGroup group_tokens
group_kept _ _ (group {u = u} {words = words} colon kind at h) =
    kept_both (separated (map word_tokens words)) (token.Sign symbol.Colon ∷ Name kind ∷ []) u
    ((token.Sign symbol.Colon, colon) ∷ (Name kind, at) ∷ []) (names_kept u words h)
    (keeps (token.Sign symbol.Colon) (keeps (Name kind) none))

groups_kept : Keeps Groups params_tokens
groups_kept u _ (a_group {g = g} h) = group_kept u g h
groups_kept _ _ (more_groups {u = u} {w = w} {groups = groups} {g = g} comma h k) =
    kept_as _ _ (kinds (u ++ ((token.Sign symbol.Comma, comma) ∷ w)))
    (separated_more group_tokens groups g (some_groups u groups h))
    (kept_both (params_tokens groups) (token.Sign symbol.Comma ∷ group_tokens g) u
    ((token.Sign symbol.Comma, comma) ∷ w) (groups_kept u groups h)
    (keeps (token.Sign symbol.Comma) (group_kept w g k)))

params_kept : Keeps Params params_tokens
params_kept _ _ no_params = none
params_kept u groups (params h) = groups_kept u groups h

-- ---- clauses

req_kept : (depth : ℕ) → Keeps (IsReq depth) req_tokens
req_kept depth _ _ (req {u = u} {w = w} {amount = amount} {asset = asset} name at colon of h k) =
    keeps (Name name) (keeps (token.Sign symbol.Colon)
    (kept_both (tokens_at Or amount) (token.Word keyword.Of ∷ tokens_at Or asset) u ((token.Word keyword.Of, of) ∷ w)
    (tokens_kept Or depth u amount h) (keeps (token.Word keyword.Of) (tokens_kept Or depth w asset k))))

reqs_kept : (depth : ℕ) → Keeps (ReqList depth) (λ reqs. separated (map req_tokens reqs))
reqs_kept depth u _ (a_req {r = r} h) = req_kept depth u r h
reqs_kept depth _ _ (more_reqs {u = u} {w = w} {reqs = reqs} {r = r} comma h k) =
    kept_as _ _ (kinds (u ++ ((token.Sign symbol.Comma, comma) ∷ w)))
    (separated_more req_tokens reqs r (some_reqs depth u reqs h))
    (kept_both (separated (map req_tokens reqs)) (token.Sign symbol.Comma ∷ req_tokens r) u
    ((token.Sign symbol.Comma, comma) ∷ w) (reqs_kept depth u reqs h)
    (keeps (token.Sign symbol.Comma) (req_kept depth w r k)))

requires_kept : (depth : ℕ) → Keeps (Requires depth) requires_tokens
requires_kept depth _ _ no_requires = none
requires_kept depth _ _ (requires {u = u} {reqs = reqs} at h) =
    kept_as (requires_tokens reqs) _ _ (requires_some reqs (some_reqs depth u reqs h))
    (keeps (token.Word keyword.Requires) (reqs_kept depth u reqs h))

stmt_kept : (depth : ℕ) → Keeps (IsStmt depth) stmt_tokens
stmt_kept depth _ _ (verify {u = u} {e = e} at h) = keeps (token.Word keyword.Verify) (tokens_kept Or depth u e h)
stmt_kept depth _ _ (lock {u = u} {e = e} at name place with h) =
    keeps (token.Word keyword.Lock) (keeps (Name name) (keeps (token.Word keyword.With) (tokens_kept Or depth u e h)))
stmt_kept depth _ _ (unlock at name place) = keeps (token.Word keyword.Unlock) (keeps (Name name) none)

stmts_kept : (depth : ℕ) → Keeps (Stmts depth) (flat_map stmt_tokens)
stmts_kept depth u _ (a_stmt {s = s} h) =
    kept_as _ _ (kinds u) (append-nil (stmt_tokens s)) (stmt_kept depth u s h)
stmts_kept depth _ _ (more_stmts {u = u} {w = w} {stmts = stmts} {s = s} h k) =
    kept_as _ _ (kinds (u ++ w)) (flat_more stmt_tokens stmts s)
    (kept_both (flat_map stmt_tokens stmts) (stmt_tokens s) u w (stmts_kept depth u stmts h) (stmt_kept depth w s k))

clause_kept : (depth : ℕ) → Keeps (IsClause depth) clause_tokens
clause_kept depth _ _ (clause {u = u} {v = v} {w = w} {groups = groups} {reqs = reqs} {stmts = stmts} at name place
    first last begin end h k l) =
    keeps (token.Word keyword.Clause) (keeps (Name name) (keeps (token.Sign symbol.OpenParen)
    (kept_both (params_tokens groups) _ u _ (params_kept u groups h) (keeps (token.Sign symbol.CloseParen)
    (kept_both (requires_tokens reqs) _ v _ (requires_kept depth v reqs k) (keeps (token.Sign symbol.OpenBrace)
    (kept_both (flat_map stmt_tokens stmts) _ w ((token.Sign symbol.CloseBrace, end) ∷ []) (stmts_kept depth w stmts l)
    (keeps (token.Sign symbol.CloseBrace) none))))))))

clauses_kept : (depth : ℕ) → Keeps (Clauses depth) (flat_map clause_tokens)
clauses_kept depth u _ (a_clause {c = c} h) =
    kept_as _ _ (kinds u) (append-nil (clause_tokens c)) (clause_kept depth u c h)
clauses_kept depth _ _ (more_clauses {u = u} {w = w} {clauses = clauses} {c = c} h k) =
    kept_as _ _ (kinds (u ++ w)) (flat_more clause_tokens clauses c)
    (kept_both (flat_map clause_tokens clauses) (clause_tokens c) u w (clauses_kept depth u clauses h)
    (clause_kept depth w c k))

-- ---- contracts

contract_kept : (depth : ℕ) → Keeps (IsContract depth) contract_tokens
contract_kept depth _ _ (contract {u = u} {w = w} {groups = groups} {clauses = clauses} at name place first last locks
    value held begin end h k) =
    keeps (token.Word keyword.Contract) (keeps (Name name) (keeps (token.Sign symbol.OpenParen)
    (kept_both (params_tokens groups) _ u _ (params_kept u groups h) (keeps (token.Sign symbol.CloseParen)
    (keeps (token.Word keyword.Locks) (keeps (Name value) (keeps (token.Sign symbol.OpenBrace)
    (kept_both (flat_map clause_tokens clauses) _ w ((token.Sign symbol.CloseBrace, end) ∷ [])
    (clauses_kept depth w clauses k) (keeps (token.Sign symbol.CloseBrace) none)))))))))

contracts_kept : (depth : ℕ) → Keeps (Contracts depth) (flat_map contract_tokens)
contracts_kept depth u _ (a_contract {c = c} h) =
    kept_as _ _ (kinds u) (append-nil (contract_tokens c)) (contract_kept depth u c h)
contracts_kept depth _ _ (more_contracts {u = u} {w = w} {contracts = contracts} {c = c} h k) =
    kept_as _ _ (kinds (u ++ w)) (flat_more contract_tokens contracts c)
    (kept_both (flat_map contract_tokens contracts) (contract_tokens c) u w (contracts_kept depth u contracts h)
    (contract_kept depth w c k))

-- The tokens that are printed of a text are those of the text, with some left out.
pub file_kept : (depth : ℕ) (u : List Placed) (source : Source) → File depth u source → Kept (shown source) (kinds u)
file_kept depth u _ (file {contracts = contracts} h) = contracts_kept depth u contracts h
