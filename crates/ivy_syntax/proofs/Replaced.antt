-- What the grammar reads it reads with the same tokens at other places too.
use Rattle.std.specs.Prelude.{◌≡◌, ℕ, suc, List, [], ◌∷◌, ◌++◌}
use Rattle.std.proofs.Common.{sym, subst}
use Rattle.grammars.specs.Places.{kinds, Replaces, front_of, single_of, none_of, halves_of, middle_of}
use Rattle.grammars.specs.Places.{ending_of}
use Rattle.ivy_syntax.specs.declared.tree.Expr.{Expr}
use Rattle.ivy_syntax.specs.declared.tree.Form.TheVariants as forms
use Rattle.ivy_syntax.specs.declared.tree.Group.{Group}
use Rattle.ivy_syntax.specs.declared.tree.Req.{Req}
use Rattle.ivy_syntax.specs.declared.tree.Stmt.{Stmt}
use Rattle.ivy_syntax.specs.declared.tree.Stmt.TheVariants as statements
use Rattle.ivy_syntax.specs.declared.tree.ClauseTree.{ClauseTree}
use Rattle.ivy_syntax.specs.declared.tree.Contract.{Contract}
use Rattle.ivy_syntax.specs.declared.tree.Source.{Source}
use Rattle.ivy_syntax.specs.declared.lexeme.Keyword.TheVariants as keyword
use Rattle.ivy_syntax.specs.declared.lexeme.Symbol.TheVariants as symbol
use Rattle.ivy_syntax.specs.Token.{Token, Operation, Name}
use Rattle.ivy_syntax.specs.Token as token
use Rattle.ivy_syntax.specs.Tokens.{Placed}
use Rattle.ivy_syntax.specs.declared.level.Level.{Level}
use Rattle.ivy_syntax.specs.declared.level.Level.TheVariants.{Comparison, Unary}
use Rattle.ivy_syntax.specs.Grammar.{Reads, alone, joined, compared, prefixed, one_token}
use Rattle.ivy_syntax.specs.Grammar.{empty_call, call, members, parentheses, Members, member, more_members, between}
use Rattle.ivy_syntax.specs.Grammar.{before}
use Rattle.ivy_syntax.specs.Grammar.{enclosed, single, word, Names, a_name_alone, more_names, IsGroup, group, Groups}
use Rattle.ivy_syntax.specs.Grammar.{a_group}
use Rattle.ivy_syntax.specs.Grammar.{more_groups, Params, no_params, params, IsReq, req, ReqList, a_req, more_reqs}
use Rattle.ivy_syntax.specs.Grammar.{Requires}
use Rattle.ivy_syntax.specs.Grammar.{no_requires, requires, IsStmt, verify, lock, unlock, Stmts, a_stmt, more_stmts}
use Rattle.ivy_syntax.specs.Grammar.{IsClause, clause, Clauses, a_clause, more_clauses, IsContract, contract, Contracts}
use Rattle.ivy_syntax.specs.Grammar.{a_contract, more_contracts, File, file}

-- ---- expressions

mutual
  reads_again : {level : Level} {depth : ℕ} {u : List Placed} {e : Expr} → Reads level depth u e → (w : List Placed)
      → kinds w ≡ kinds u → (x : Expr) × Reads level depth w x
  reads_again (alone h) w same = let r = reads_again h w same in (r.0, alone r.1)
  reads_again (joined {level = level} {depth = depth} {u = a} {w = b} {op = op} o at is not h k) w same =
      let m = middle_of a (Operation o) at b w same in
      let l = reads_again h m.first m.same_first in
      let r = reads_again k m.second m.same_second in (
        between m.place op l.0 r.0,
        subst (λ w. Reads level depth w (between m.place op l.0 r.0)) (sym m.all)
            (joined o m.place is not l.1 r.1),
      )
  reads_again (compared {depth = depth} {u = a} {w = b} {op = op} o at is h k) w same =
      let m = middle_of a (Operation o) at b w same in
      let l = reads_again h m.first m.same_first in
      let r = reads_again k m.second m.same_second in (
        between m.place op l.0 r.0,
        subst (λ w. Reads Comparison depth w (between m.place op l.0 r.0)) (sym m.all)
            (compared o m.place is l.1 r.1),
      )
  reads_again (prefixed {depth = depth} {u = a} {op = op} o at is h) w same =
      let f = front_of (Operation o) a w same in
      let r = reads_again h f.behind f.same in (
        before f.place op r.0,
        subst (λ w. Reads Unary (suc depth) w (before f.place op r.0)) (sym f.all)
            (prefixed o f.place is r.1),
      )
  reads_again (one_token {depth = depth} {t = t} {form = form} at is) w same =
      let f = single_of t w same in
      (single f.0 form, subst (λ w. Reads Unary depth w (single f.0 form)) (sym f.1) (one_token f.0 is))
  reads_again (empty_call {depth = depth} name at first last) w same =
      let f = front_of (Name name) ((token.Sign symbol.OpenParen, first) ∷ (token.Sign symbol.CloseParen, last) ∷ []) w
      same in
      let o = front_of (token.Sign symbol.OpenParen) ((token.Sign symbol.CloseParen, last) ∷ []) f.behind f.same in
      let c = single_of (token.Sign symbol.CloseParen) o.behind o.same in (
        single f.place (forms.Call name []),
        subst (λ w. Reads Unary (suc depth) w (single f.place (forms.Call name []))) (cc (f.all, o.all, c.1))
            (empty_call name f.place o.place c.0),
      )
  reads_again (call {depth = depth} {u = a} name at first last h) w same =
      let f = front_of (Name name) ((token.Sign symbol.OpenParen, first) ∷ (a ++ ((token.Sign symbol.CloseParen, last)
      ∷ []))) w same in
      let o = front_of (token.Sign symbol.OpenParen) (a ++ ((token.Sign symbol.CloseParen, last) ∷ [])) f.behind
      f.same in
      let c = ending_of a (token.Sign symbol.CloseParen) last o.behind o.same in
      let r = members_again h c.first c.same in (
        single f.place (forms.Call name r.0),
        subst (λ w. Reads Unary (suc depth) w (single f.place (forms.Call name r.0))) (cc (f.all, o.all, c.all))
            (call name f.place o.place c.place r.1),
      )
  reads_again (members {depth = depth} {u = a} at close h) w same =
      let f = front_of (token.Sign symbol.OpenBracket) (a ++ ((token.Sign symbol.CloseBracket, close) ∷ [])) w same in
      let c = ending_of a (token.Sign symbol.CloseBracket) close f.behind f.same in
      let r = members_again h c.first c.same in (
        single f.place (forms.Members r.0),
        subst (λ w. Reads Unary (suc depth) w (single f.place (forms.Members r.0))) (cc (f.all, c.all))
            (members f.place c.place r.1),
      )
  reads_again (parentheses {depth = depth} {u = a} at close h) w same =
      let f = front_of (token.Sign symbol.OpenParen) (a ++ ((token.Sign symbol.CloseParen, close) ∷ [])) w same in
      let c = ending_of a (token.Sign symbol.CloseParen) close f.behind f.same in
      let r = reads_again h c.first c.same in (
        enclosed f.place r.0,
        subst (λ w. Reads Unary (suc depth) w (enclosed f.place r.0)) (cc (f.all, c.all))
            (parentheses f.place c.place r.1),
      )

  members_again : {depth : ℕ} {u : List Placed} {items : List Expr} → Members depth u items → (w : List Placed)
      → kinds w ≡ kinds u → (x : List Expr) × Members depth w x
  members_again (member h) w same = let r = reads_again h w same in (r.0 ∷ [], member r.1)
  members_again (more_members {depth = depth} {u = a} {w = b} at h k) w same =
      let m = middle_of a (token.Sign symbol.Comma) at b w same in
      let l = members_again h m.first m.same_first in
      let r = reads_again k m.second m.same_second in
      (l.0 ++ (r.0 ∷ []), subst (λ w. Members depth w (l.0 ++ (r.0 ∷ []))) (sym m.all) (more_members m.place l.1 r.1))

-- ---- parameters

pub names_replaced : Replaces Names
names_replaced _ _ (a_name_alone name at) w same =
    let f = single_of (Name name) w same in
    (word name f.0 ∷ [], subst (λ w. Names w (word name f.0 ∷ [])) (sym f.1) (a_name_alone name f.0))
names_replaced _ _ (more_names {u = a} {words = words} comma name at h) w same =
    let m = middle_of a (token.Sign symbol.Comma) comma ((Name name, at) ∷ []) w same in
    let f = single_of (Name name) m.second m.same_second in
    let r = names_replaced a words h m.first m.same_first in (
      r.0 ++ (word name f.0 ∷ []),
      subst (λ w. Names w (r.0 ++ (word name f.0 ∷ []))) (cc (m.all, f.1))
          (more_names m.place name f.0 r.1),
    )

pub group_replaced : Replaces IsGroup
group_replaced _ _ (group {u = a} {words = words} colon kind at h) w same =
    let m = middle_of a (token.Sign symbol.Colon) colon ((Name kind, at) ∷ []) w same in
    let f = single_of (Name kind) m.second m.same_second in
    let r = names_replaced a words h m.first m.same_first in
    let g : Group = record { names = r.0; kind = word kind f.0 } in
    (g, subst (λ w. IsGroup w g) (cc (m.all, f.1)) (group m.place kind f.0 r.1))

pub groups_replaced : Replaces Groups
groups_replaced u _ (a_group {g = g} h) w same = let r = group_replaced u g h w same in (r.0 ∷ [], a_group r.1)
groups_replaced _ _ (more_groups {u = a} {w = b} {groups = groups} {g = g} comma h k) w same =
    let m = middle_of a (token.Sign symbol.Comma) comma b w same in
    let l = groups_replaced a groups h m.first m.same_first in
    let r = group_replaced b g k m.second m.same_second in
    (l.0 ++ (r.0 ∷ []), subst (λ w. Groups w (l.0 ++ (r.0 ∷ []))) (sym m.all) (more_groups m.place l.1 r.1))

pub params_replaced : Replaces Params
params_replaced _ _ no_params w same = ([], subst (λ w. Params w []) (sym (none_of w same)) no_params)
params_replaced u groups (params h) w same = let r = groups_replaced u groups h w same in (r.0, params r.1)

-- ---- requirements

pub req_replaced : (depth : ℕ) → Replaces (IsReq depth)
req_replaced depth _ _ (req {u = a} {w = b} {amount = amount} {asset = asset} name at colon of h k) w same =
    let f = front_of (Name name) ((token.Sign symbol.Colon, colon) ∷ (a ++ ((token.Word keyword.Of, of) ∷ b))) w same in
    let c = front_of (token.Sign symbol.Colon) (a ++ ((token.Word keyword.Of, of) ∷ b)) f.behind f.same in
    let m = middle_of a (token.Word keyword.Of) of b c.behind c.same in
    let l = reads_again h m.first m.same_first in
    let r = reads_again k m.second m.same_second in
    let v : Req = record { name = word name f.place; amount = l.0; asset = r.0 } in
    (v, subst (λ w. IsReq depth w v) (cc (f.all, c.all, m.all)) (req name f.place c.place m.place l.1 r.1))

pub reqs_replaced : (depth : ℕ) → Replaces (ReqList depth)
reqs_replaced depth u _ (a_req {r = v} h) w same =
    let r = req_replaced depth u v h w same in (r.0 ∷ [], a_req r.1)
reqs_replaced depth _ _ (more_reqs {u = a} {w = b} {reqs = reqs} {r = v} comma h k) w same =
    let m = middle_of a (token.Sign symbol.Comma) comma b w same in
    let l = reqs_replaced depth a reqs h m.first m.same_first in
    let r = req_replaced depth b v k m.second m.same_second in
    (l.0 ++ (r.0 ∷ []), subst (λ w. ReqList depth w (l.0 ++ (r.0 ∷ []))) (sym m.all) (more_reqs m.place l.1 r.1))

pub requires_replaced : (depth : ℕ) → Replaces (Requires depth)
requires_replaced depth _ _ no_requires w same =
    ([], subst (λ w. Requires depth w []) (sym (none_of w same)) no_requires)
requires_replaced depth _ _ (requires {u = a} {reqs = reqs} at h) w same =
    let f = front_of (token.Word keyword.Requires) a w same in
    let r = reqs_replaced depth a reqs h f.behind f.same in
    (r.0, subst (λ w. Requires depth w r.0) (sym f.all) (requires f.place r.1))

-- ---- statements

pub stmt_replaced : (depth : ℕ) → Replaces (IsStmt depth)
stmt_replaced depth _ _ (verify {u = a} {e = e} at h) w same =
    let f = front_of (token.Word keyword.Verify) a w same in
    let r = reads_again h f.behind f.same in (
      statements.Verify f.place r.0,
      subst (λ w. IsStmt depth w (statements.Verify f.place r.0)) (sym f.all) (verify f.place r.1),
    )
stmt_replaced depth _ _ (lock {u = a} {e = e} at name place with h) w same =
    let f = front_of (token.Word keyword.Lock) ((Name name, place) ∷ (token.Word keyword.With, with) ∷ a) w same in
    let n = front_of (Name name) ((token.Word keyword.With, with) ∷ a) f.behind f.same in
    let t = front_of (token.Word keyword.With) a n.behind n.same in
    let r = reads_again h t.behind t.same in
    let v : Stmt = statements.Lock f.place (word name n.place) r.0 in
    (v, subst (λ w. IsStmt depth w v) (cc (f.all, n.all, t.all)) (lock f.place name n.place t.place r.1))
stmt_replaced depth _ _ (unlock at name place) w same =
    let f = front_of (token.Word keyword.Unlock) ((Name name, place) ∷ []) w same in
    let n = single_of (Name name) f.behind f.same in
    let v : Stmt = statements.Unlock f.place (word name n.0) in
    (v, subst (λ w. IsStmt depth w v) (cc (f.all, n.1)) (unlock f.place name n.0))

pub stmts_replaced : (depth : ℕ) → Replaces (Stmts depth)
stmts_replaced depth u _ (a_stmt {s = v} h) w same =
    let r = stmt_replaced depth u v h w same in (r.0 ∷ [], a_stmt r.1)
stmts_replaced depth _ _ (more_stmts {u = a} {w = b} {stmts = stmts} {s = v} h k) w same =
    let m = halves_of a b w same in
    let l = stmts_replaced depth a stmts h m.first m.same_first in
    let r = stmt_replaced depth b v k m.second m.same_second in
    (l.0 ++ (r.0 ∷ []), subst (λ w. Stmts depth w (l.0 ++ (r.0 ∷ []))) (sym m.all) (more_stmts l.1 r.1))

-- ---- clauses

pub clause_replaced : (depth : ℕ) → Replaces (IsClause depth)
clause_replaced depth _ _ (clause {u = a} {v = b} {w = c} {groups = groups} {reqs = reqs} {stmts = stmts} at name place
    first last begin end h k l) w same =
    let f1 = front_of (token.Word keyword.Clause) ((Name name, place) ∷ (token.Sign symbol.OpenParen, first) ∷ inner) w
    same in
    let f2 = front_of (Name name) ((token.Sign symbol.OpenParen, first) ∷ inner) f1.behind f1.same in
    let f3 = front_of (token.Sign symbol.OpenParen) inner f2.behind f2.same in
    let m1 = middle_of a (token.Sign symbol.CloseParen) last body f3.behind f3.same in
    let m2 = middle_of b (token.Sign symbol.OpenBrace) begin (c ++ ((token.Sign symbol.CloseBrace, end) ∷ [])) m1.second
    m1.same_second in
    let e = ending_of c (token.Sign symbol.CloseBrace) end m2.second m2.same_second in
    let p = params_replaced a groups h m1.first m1.same_first in
    let q = requires_replaced depth b reqs k m2.first m2.same_first in
    let s = stmts_replaced depth c stmts l e.first e.same in
    let v : ClauseTree = record { name = word name f2.place; params = p.0; reqs = q.0; stmts = s.0 } in (
      v,
      subst (λ w. IsClause depth w v) (cc (f1.all, f2.all, f3.all, m1.all, m2.all, e.all))
          (clause f1.place name f2.place f3.place m1.place m2.place e.place p.1 q.1 s.1),
    )
  where
    body : List Placed
    body = b ++ ((token.Sign symbol.OpenBrace, begin) ∷ (c ++ ((token.Sign symbol.CloseBrace, end) ∷ [])))

    inner : List Placed
    inner = a ++ ((token.Sign symbol.CloseParen, last) ∷ body)

pub clauses_replaced : (depth : ℕ) → Replaces (Clauses depth)
clauses_replaced depth u _ (a_clause {c = v} h) w same =
    let r = clause_replaced depth u v h w same in (r.0 ∷ [], a_clause r.1)
clauses_replaced depth _ _ (more_clauses {u = a} {w = b} {clauses = clauses} {c = v} h k) w same =
    let m = halves_of a b w same in
    let l = clauses_replaced depth a clauses h m.first m.same_first in
    let r = clause_replaced depth b v k m.second m.same_second in
    (l.0 ++ (r.0 ∷ []), subst (λ w. Clauses depth w (l.0 ++ (r.0 ∷ []))) (sym m.all) (more_clauses l.1 r.1))

-- ---- contracts

pub contract_replaced : (depth : ℕ) → Replaces (IsContract depth)
contract_replaced depth _ _ (contract {u = a} {w = c} {groups = groups} {clauses = clauses} at name place first last
    locks value held begin end h k) w same =
    let f1 = front_of (token.Word keyword.Contract) ((Name name, place) ∷ (token.Sign symbol.OpenParen, first)
    ∷ inner) w
    same in
    let f2 = front_of (Name name) ((token.Sign symbol.OpenParen, first) ∷ inner) f1.behind f1.same in
    let f3 = front_of (token.Sign symbol.OpenParen) inner f2.behind f2.same in
    let m = middle_of a (token.Sign symbol.CloseParen) last
    ((token.Word keyword.Locks, locks) ∷ (Name value, held) ∷ (token.Sign symbol.OpenBrace, begin) ∷ body) f3.behind
    f3.same in
    let f4 = front_of (token.Word keyword.Locks) ((Name value, held) ∷ (token.Sign symbol.OpenBrace, begin) ∷ body)
    m.second m.same_second in
    let f5 = front_of (Name value) ((token.Sign symbol.OpenBrace, begin) ∷ body) f4.behind f4.same in
    let f6 = front_of (token.Sign symbol.OpenBrace) body f5.behind f5.same in
    let e = ending_of c (token.Sign symbol.CloseBrace) end f6.behind f6.same in
    let p = params_replaced a groups h m.first m.same_first in
    let q = clauses_replaced depth c clauses k e.first e.same in
    let v : Contract =
    record { name = word name f2.place; params = p.0; value = word value f5.place; clauses = q.0 } in (
      v,
      subst (λ w. IsContract depth w v) (cc (f1.all, f2.all, f3.all, m.all, f4.all, f5.all, f6.all, e.all))
          (contract f1.place name f2.place f3.place m.place f4.place value f5.place f6.place e.place p.1 q.1),
    )
  where
    body : List Placed
    body = c ++ ((token.Sign symbol.CloseBrace, end) ∷ [])

    inner : List Placed
    inner = a ++ ((token.Sign symbol.CloseParen, last) ∷ (token.Word keyword.Locks, locks) ∷ (Name value, held)
        ∷ (token.Sign symbol.OpenBrace, begin) ∷ body)

pub contracts_replaced : (depth : ℕ) → Replaces (Contracts depth)
contracts_replaced depth u _ (a_contract {c = v} h) w same =
    let r = contract_replaced depth u v h w same in (r.0 ∷ [], a_contract r.1)
contracts_replaced depth _ _ (more_contracts {u = a} {w = b} {contracts = contracts} {c = v} h k) w same =
    let m = halves_of a b w same in
    let l = contracts_replaced depth a contracts h m.first m.same_first in
    let r = contract_replaced depth b v k m.second m.same_second in
    (l.0 ++ (r.0 ∷ []), subst (λ w. Contracts depth w (l.0 ++ (r.0 ∷ []))) (sym m.all) (more_contracts l.1 r.1))

-- ---- the whole text

-- A text reads with the same tokens at other places too.
pub file_replaced : (depth : ℕ) → Replaces (File depth)
file_replaced depth u _ (file {contracts = contracts} h) w same =
    let r = contracts_replaced depth u contracts h w same in
    let v : Source = record { contracts = r.0 } in
    (v, file r.1)
