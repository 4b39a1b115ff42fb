-- A tree has no more nodes than the tokens that it is read from, and its literals no more bytes than theirs.
use Rattle.std.specs.Prelude.{◌≡◌, ◌≤◌, ◌+◌, ℕ, true, false, List, [], ◌∷◌, ◌++◌, length}
use Rattle.std.proofs.Common.{arith, sym, ap, ◌∙◌}
use Rattle.std.proofs.Math.Nat.{zero-add}
use Rattle.std.proofs.lemmas.List.{length-append, length_push}
use Rattle.std.proofs.lemmas.List.Sums.{sum-map, sum_by-cons, sum_by-append}
use Rattle.ivy_syntax.specs.declared.tree.Op.{Op}
use Rattle.ivy_syntax.specs.declared.tree.Expr.{Expr}
use Rattle.ivy_syntax.specs.declared.tree.Form.{Form}
use Rattle.ivy_syntax.specs.declared.tree.Form.TheOpen.{Form-F}
use Rattle.ivy_syntax.specs.declared.tree.Word.{Word}
use Rattle.ivy_syntax.specs.declared.tree.Group.{Group}
use Rattle.ivy_syntax.specs.declared.tree.Req.{Req}
use Rattle.ivy_syntax.specs.declared.tree.Stmt.{Stmt}
use Rattle.ivy_syntax.specs.declared.tree.ClauseTree.{ClauseTree}
use Rattle.ivy_syntax.specs.declared.tree.Contract.{Contract}
use Rattle.ivy_syntax.specs.declared.tree.Source.{Source}
use Rattle.ivy_syntax.specs.declared.lexeme.Keyword.TheVariants as keyword
use Rattle.ivy_syntax.specs.declared.lexeme.Symbol.TheVariants as symbol
use Rattle.ivy_syntax.specs.Token.{Token, Name, Number, Hex, Quoted}
use Rattle.ivy_syntax.specs.Token as token
use Rattle.ivy_syntax.specs.Tokens.{Placed}
use Rattle.ivy_syntax.specs.declared.level.Level.{Level}
use Rattle.ivy_syntax.specs.Grammar.{Reads, alone, joined, compared, prefixed, one_token, empty_call, call}
use Rattle.ivy_syntax.specs.Grammar.{members, parentheses, Members, member, more_members, IsSingle, a_number, a_true}
use Rattle.ivy_syntax.specs.Grammar.{a_false, a_hex, a_text, a_name, single, enclosed, between, Names}
use Rattle.ivy_syntax.specs.Grammar.{a_name_alone, more_names, IsGroup, group, Groups, a_group, more_groups, Params}
use Rattle.ivy_syntax.specs.Grammar.{no_params, params, IsReq, req, ReqList, a_req, more_reqs, Requires, no_requires}
use Rattle.ivy_syntax.specs.Grammar.{requires, IsStmt, verify, lock, word, unlock, Stmts, a_stmt, more_stmts, IsClause}
use Rattle.ivy_syntax.specs.Grammar.{clause, Clauses, a_clause, more_clauses, IsContract, contract, Contracts}
use Rattle.ivy_syntax.specs.Grammar.{a_contract, more_contracts, File, file}
use Rattle.ivy_syntax.specs.Sizes.{total, expr_nodes, group_nodes, req_nodes, stmt_nodes, clause_nodes, contract_nodes}
use Rattle.ivy_syntax.specs.Sizes.{form_nodes, form_literals, nodes, expr_literals, req_literals, stmt_literals}
use Rattle.ivy_syntax.specs.Sizes.{clause_literals, contract_literals, literal_bytes}
use Rattle.ivy_syntax.proofs.ExprFolds.{expr_of, replaced, folded, moved}

-- ---- sums

first_more : {A : Type 0} (size : A → ℕ) (x : A) (xs : List A) → total size (x ∷ xs) ≡ size x + total size xs
first_more size x xs =
    sum-map size (x ∷ xs) ∙ sum_by-cons size x xs ∙ ap (λ (n : ℕ). size x + n) (sym (sum-map size xs))

total_append : {A : Type 0} (size : A → ℕ) (xs ys : List A) → total size (xs ++ ys) ≡ total size xs + total size ys
total_append size xs ys =
    omega (
      arith,
      sum-map size (xs ++ ys),
      sum-map size xs,
      sum-map size ys,
      sum_by-append size xs ys,
    )

one_more : {A : Type 0} (size : A → ℕ) (xs : List A) (x : A) → total size (xs ++ (x ∷ [])) ≡ total size xs + size x
one_more size xs x =
    total_append size xs (x ∷ []) ∙ ap (λ (n : ℕ). total size xs + n) (zero-add (size x))

-- ---- tokens

-- how many bytes a literal has
abbrev pub literal_size : Token → ℕ
literal_size (Hex value) = length value
literal_size (Quoted text) = length text
literal_size _ = 0

-- and those among these tokens have together
abbrev pub literals_in : List Placed → ℕ
literals_in = total (λ t. literal_size t.0)

pub literals_first : (t : Placed) (u : List Placed) → literals_in (t ∷ u) ≡ literal_size t.0 + literals_in u
literals_first t u = first_more (λ (t : Placed). literal_size t.0) t u

pub literals_append : (u w : List Placed) → literals_in (u ++ w) ≡ literals_in u + literals_in w
literals_append u w = total_append (λ (t : Placed). literal_size t.0) u w

-- These are at least so many tokens, and their literals have at least so many bytes.
pub record Holds (u : List Placed) (n l : ℕ) : Type 0 where
  pub tokens : n ≤ length u
  pub literals : l ≤ literals_in u

none : Holds [] 0 0
none = record { tokens = omega arith; literals = omega arith }

-- smaller numbers
less : {u : List Placed} {n l : ℕ} (m k : ℕ) → Holds u n l → m ≤ n → k ≤ l → Holds u m k
less m k h p q = record { tokens = omega arith; literals = omega arith }

-- a token in front, for a node
node : {u : List Placed} {n l : ℕ} (t : Placed) → Holds u n l → Holds (t ∷ u) (1 + n) l
node {u = u} t h = record { tokens = omega arith; literals = omega (arith, literals_first t u) }

-- a token in front, for no node
skip : {u : List Placed} {n l : ℕ} (t : Placed) → Holds u n l → Holds (t ∷ u) n l
skip t h = less _ _ (node t h) (omega arith) (omega arith)

-- a literal alone
literal : (t : Token) (at : ℕ) → Holds ((t, at) ∷ []) (1 + 0) (literal_size t)
literal t at = record { tokens = omega arith; literals = omega (arith, literals_first (t, at) []) }

together : {u w : List Placed} {n l m k : ℕ} → Holds u n l → Holds w m k → Holds (u ++ w) (n + m) (l + k)
together {u = u} {w = w} h g = record {
  tokens = omega (arith, length-append u w);
  literals = omega (arith, literals_append u w);
}

-- tokens after, for no node
followed : {u : List Placed} {n l : ℕ} (w : List Placed) → Holds u n l → Holds (u ++ w) n l
followed w h =
    let rest : Holds w 0 0 = record { tokens = omega arith; literals = omega arith } in
    less _ _ (together h rest) (omega arith) (omega arith)

-- a list of one
one_holds : {A : Type 0} {u : List Placed} (size literals : A → ℕ) (x : A) → Holds u (size x) (literals x)
    → Holds u (total size (x ∷ [])) (total literals (x ∷ []))
one_holds size literals x h = less (0 + size x) (0 + literals x) h (omega arith) (omega arith)

-- a list, and one more
more_hold : {A : Type 0} {u w : List Placed} (size literals : A → ℕ) (xs : List A) (x : A)
    → Holds u (total size xs) (total literals xs) → Holds w (size x) (literals x)
    → Holds (u ++ w) (total size (xs ++ (x ∷ []))) (total literals (xs ++ (x ∷ [])))
more_hold size literals xs x h k =
    less _ _ (together h k) (omega (arith, one_more size xs x)) (omega (arith, one_more literals xs x))

-- ---- expressions

by_parts : {u : List Placed} (from at : ℕ) (x : Form-F Form Expr)
    → Holds u (1 + form_nodes (replaced expr_nodes x)) (form_literals (replaced expr_literals x))
    → Holds u (expr_nodes (expr_of from at x)) (expr_literals (expr_of from at x))
by_parts {u = u} from at x h =
    less _ _ h (omega (arith, folded ℕ ℕ form_nodes (λ e. 1 + e.form) from at x))
    (omega (arith, folded ℕ ℕ form_literals (λ e. e.form) from at x))

enclosed_holds : {u : List Placed} (at : ℕ) (e : Expr) → Holds u (expr_nodes e) (expr_literals e)
    → Holds u (expr_nodes (enclosed at e)) (expr_literals (enclosed at e))
enclosed_holds {u = u} at e h =
    less _ _ h
    (omega (arith, moved ℕ ℕ form_nodes (λ n. 1 + n) at e.at e))
    (omega (arith, moved ℕ ℕ form_literals (λ n. n) at e.at e))

single_holds : {t : Token} {form : Form} (at : ℕ) → IsSingle t form
    → Holds ((t, at) ∷ []) (expr_nodes (single at form)) (expr_literals (single at form))
single_holds {form = form} at (a_number n) =
    by_parts at at (Form-F.Number n) (node (Number n, at) none)
single_holds {form = form} at a_true =
    by_parts at at (Form-F.Truth true) (node (token.Word keyword.True, at) none)
single_holds {form = form} at a_false =
    by_parts at at (Form-F.Truth false) (node (token.Word keyword.False, at) none)
single_holds {form = form} at (a_hex bytes) =
    by_parts at at (Form-F.Hex bytes) (literal (Hex bytes) at)
single_holds {form = form} at (a_text bytes) =
    by_parts at at (Form-F.Quoted bytes) (literal (Quoted bytes) at)
single_holds {form = form} at (a_name name) =
    by_parts at at (Form-F.Name name) (node (Name name, at) none)

-- an operator between operands
between_holds : {u w : List Placed} (t : Placed) (at : ℕ) (op : Op) (a b : Expr)
    → Holds u (expr_nodes a) (expr_literals a) → Holds w (expr_nodes b) (expr_literals b)
    → Holds (u ++ (t ∷ w)) (expr_nodes (between at op a b)) (expr_literals (between at op a b))
between_holds t at op a b h k =
    by_parts a.from at (Form-F.Binary op a b)
    (less (1 + (expr_nodes a + expr_nodes b)) (expr_literals a + expr_literals b) (together h (node t k))
    (omega arith) (omega arith))

mutual
  expr_holds : {level : Level} {depth : ℕ} {u : List Placed} {e : Expr} → Reads level depth u e
      → Holds u (expr_nodes e) (expr_literals e)
  expr_holds (alone h) = expr_holds h
  expr_holds (joined {a = a} {b = b} {op = op} o at is not h k) =
      between_holds (token.Operation o, at) at op a b (expr_holds h) (expr_holds k)
  expr_holds (compared {a = a} {b = b} {op = op} o at is h k) =
      between_holds (token.Operation o, at) at op a b (expr_holds h) (expr_holds k)
  expr_holds (prefixed {e = e} {op = op} o at is h) =
      by_parts at at (Form-F.Unary op e)
      (node (token.Operation o, at) (expr_holds h))
  expr_holds (one_token at is) = single_holds at is
  expr_holds (empty_call name at first close) =
      by_parts at at (Form-F.Call name [])
      (node (Name name, at)
      (skip (token.Sign symbol.OpenParen, first) (skip (token.Sign symbol.CloseParen, close) none)))
  expr_holds (call {args = args} name at first close h) =
      by_parts at at (Form-F.Call name args)
      (node (Name name, at) (skip (token.Sign symbol.OpenParen, first)
      (followed ((token.Sign symbol.CloseParen, close) ∷ []) (members_hold h))))
  expr_holds (members {items = items} at close h) =
      by_parts at at (Form-F.Members items)
      (node (token.Sign symbol.OpenBracket, at)
      (followed ((token.Sign symbol.CloseBracket, close) ∷ []) (members_hold h)))
  expr_holds (parentheses {e = e} at close h) =
      skip (token.Sign symbol.OpenParen, at)
      (followed ((token.Sign symbol.CloseParen, close) ∷ []) (enclosed_holds at e (expr_holds h)))

  members_hold : {depth : ℕ} {u : List Placed} {items : List Expr} → Members depth u items
      → Holds u (total expr_nodes items) (total expr_literals items)
  members_hold (member {e = e} h) = one_holds expr_nodes expr_literals e (expr_holds h)
  members_hold (more_members {items = items} {e = e} at h k) =
      more_hold expr_nodes expr_literals items e (members_hold h) (skip (token.Sign symbol.Comma, at) (expr_holds k))

-- ---- parameters

names_hold : {u : List Placed} {words : List Word} → Names u words → Holds u (length words) 0
names_hold (a_name_alone name at) = node (Name name, at) none
names_hold (more_names {words = words} comma name at h) =
    less _ _ (together (names_hold h) (skip (token.Sign symbol.Comma, comma) (node (Name name, at) none)))
    (omega (arith, length_push words (word name at))) (omega arith)

group_holds : {u : List Placed} {g : Group} → IsGroup u g → Holds u (group_nodes g) 0
group_holds (group colon kind at h) =
    followed ((token.Sign symbol.Colon, colon) ∷ (Name kind, at) ∷ []) (names_hold h)

groups_hold : {u : List Placed} {groups : List Group} → Groups u groups → Holds u (total group_nodes groups) 0
groups_hold (a_group {g = g} h) = less (0 + group_nodes g) 0 (group_holds h) (omega arith) (omega arith)
groups_hold (more_groups {groups = groups} {g = g} comma h k) =
    less _ _ (together (groups_hold h) (skip (token.Sign symbol.Comma, comma) (group_holds k)))
    (omega (arith, one_more group_nodes groups g)) (omega arith)

params_hold : {u : List Placed} {groups : List Group} → Params u groups → Holds u (total group_nodes groups) 0
params_hold no_params = none
params_hold (params h) = groups_hold h

-- ---- clauses

req_holds : {depth : ℕ} {u : List Placed} {r : Req} → IsReq depth u r → Holds u (req_nodes r) (req_literals r)
req_holds (req {amount = amount} {asset = asset} name at colon of h k) =
    less (1 + expr_nodes amount + expr_nodes asset) (expr_literals amount + expr_literals asset)
    (node (Name name, at) (skip (token.Sign symbol.Colon, colon)
    (together (expr_holds h) (skip (token.Word keyword.Of, of) (expr_holds k)))))
    (omega arith) (omega arith)

reqs_hold : {depth : ℕ} {u : List Placed} {reqs : List Req} → ReqList depth u reqs
    → Holds u (total req_nodes reqs) (total req_literals reqs)
reqs_hold (a_req {r = r} h) = one_holds req_nodes req_literals r (req_holds h)
reqs_hold (more_reqs {reqs = reqs} {r = r} comma h k) =
    more_hold req_nodes req_literals reqs r (reqs_hold h) (skip (token.Sign symbol.Comma, comma) (req_holds k))

requires_hold : {depth : ℕ} {u : List Placed} {reqs : List Req} → Requires depth u reqs
    → Holds u (total req_nodes reqs) (total req_literals reqs)
requires_hold no_requires = none
requires_hold (requires at h) = skip (token.Word keyword.Requires, at) (reqs_hold h)

stmt_holds : {depth : ℕ} {u : List Placed} {s : Stmt} → IsStmt depth u s → Holds u (stmt_nodes s) (stmt_literals s)
stmt_holds (verify at h) = node (token.Word keyword.Verify, at) (expr_holds h)
stmt_holds (lock at name place with h) =
    node (token.Word keyword.Lock, at)
    (skip (Name name, place) (skip (token.Word keyword.With, with) (expr_holds h)))
stmt_holds (unlock at name place) = node (token.Word keyword.Unlock, at) (skip (Name name, place) none)

stmts_hold : {depth : ℕ} {u : List Placed} {stmts : List Stmt} → Stmts depth u stmts
    → Holds u (total stmt_nodes stmts) (total stmt_literals stmts)
stmts_hold (a_stmt {s = s} h) = one_holds stmt_nodes stmt_literals s (stmt_holds h)
stmts_hold (more_stmts {stmts = stmts} {s = s} h k) =
    more_hold stmt_nodes stmt_literals stmts s (stmts_hold h) (stmt_holds k)

clause_holds : {depth : ℕ} {u : List Placed} {c : ClauseTree} → IsClause depth u c
    → Holds u (clause_nodes c) (clause_literals c)
clause_holds (clause {groups = groups} {reqs = reqs} {stmts = stmts} at name place first close begin end h k l) =
    less (1 + total group_nodes groups + total req_nodes reqs + total stmt_nodes stmts)
    (total req_literals reqs + total stmt_literals stmts)
    (node (token.Word keyword.Clause, at) (skip (Name name, place) (skip (token.Sign symbol.OpenParen, first)
    (together (params_hold h) (skip (token.Sign symbol.CloseParen, close)
    (together (requires_hold k) (skip (token.Sign symbol.OpenBrace, begin)
    (followed ((token.Sign symbol.CloseBrace, end) ∷ []) (stmts_hold l)))))))))
    (omega arith) (omega arith)

clauses_hold : {depth : ℕ} {u : List Placed} {clauses : List ClauseTree} → Clauses depth u clauses
    → Holds u (total clause_nodes clauses) (total clause_literals clauses)
clauses_hold (a_clause {c = c} h) = one_holds clause_nodes clause_literals c (clause_holds h)
clauses_hold (more_clauses {clauses = clauses} {c = c} h k) =
    more_hold clause_nodes clause_literals clauses c (clauses_hold h) (clause_holds k)

-- ---- contracts

contract_holds : {depth : ℕ} {u : List Placed} {c : Contract} → IsContract depth u c
    → Holds u (contract_nodes c) (contract_literals c)
contract_holds (contract {groups = groups} {clauses = clauses} at name place first close locks value held begin end
    h k) =
    less (2 + total group_nodes groups + total clause_nodes clauses) (total clause_literals clauses)
    (node (token.Word keyword.Contract, at) (skip (Name name, place) (skip (token.Sign symbol.OpenParen, first)
    (together (params_hold h) (skip (token.Sign symbol.CloseParen, close) (skip (token.Word keyword.Locks, locks)
    (node (Name value, held) (skip (token.Sign symbol.OpenBrace, begin)
    (followed ((token.Sign symbol.CloseBrace, end) ∷ []) (clauses_hold k))))))))))
    (omega arith) (omega arith)

contracts_hold : {depth : ℕ} {u : List Placed} {contracts : List Contract} → Contracts depth u contracts
    → Holds u (total contract_nodes contracts) (total contract_literals contracts)
contracts_hold (a_contract {c = c} h) = one_holds contract_nodes contract_literals c (contract_holds h)
contracts_hold (more_contracts {contracts = contracts} {c = c} h k) =
    more_hold contract_nodes contract_literals contracts c (contracts_hold h) (contract_holds k)

pub file_holds : {depth : ℕ} {u : List Placed} {source : Source} → File depth u source
    → Holds u (nodes source) (literal_bytes source)
file_holds (file h) = contracts_hold h
