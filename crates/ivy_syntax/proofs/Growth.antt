-- What is read within a bound is read within the next one.
use Rattle.std.specs.Prelude.{ℕ, suc, List}
use Rattle.grammars.specs.Depth.{Grows}
use Rattle.ivy_syntax.specs.declared.tree.Expr.{Expr}
use Rattle.ivy_syntax.specs.Tokens.{Placed}
use Rattle.ivy_syntax.specs.declared.level.Level.{Level}
use Rattle.ivy_syntax.specs.Grammar.{Reads, alone, joined, compared, prefixed, one_token, empty_call, call}
use Rattle.ivy_syntax.specs.Grammar.{members, parentheses, Members, member, more_members, IsReq, req, ReqList, a_req}
use Rattle.ivy_syntax.specs.Grammar.{more_reqs, Requires, no_requires, requires, IsStmt, verify, lock, unlock, Stmts}
use Rattle.ivy_syntax.specs.Grammar.{a_stmt, more_stmts, IsClause, clause, Clauses, a_clause, more_clauses, IsContract}
use Rattle.ivy_syntax.specs.Grammar.{contract, Contracts, a_contract, more_contracts}

mutual
  expr_grows : {level : Level} {depth : ℕ} {u : List Placed} {e : Expr} → Reads level depth u e
      → Reads level (suc depth) u e
  expr_grows (alone h) = alone (expr_grows h)
  expr_grows (joined o at is not h k) = joined o at is not (expr_grows h) (expr_grows k)
  expr_grows (compared o at is h k) = compared o at is (expr_grows h) (expr_grows k)
  expr_grows (prefixed o at is h) = prefixed o at is (expr_grows h)
  expr_grows (one_token at is) = one_token at is
  expr_grows (empty_call name at first last) = empty_call name at first last
  expr_grows (call name at first last h) = call name at first last (members_grow h)
  expr_grows (members at close h) = members at close (members_grow h)
  expr_grows (parentheses at close h) = parentheses at close (expr_grows h)

  members_grow : {depth : ℕ} {u : List Placed} {items : List Expr} → Members depth u items
      → Members (suc depth) u items
  members_grow (member h) = member (expr_grows h)
  members_grow (more_members at h k) = more_members at (members_grow h) (expr_grows k)

pub reads_grow : (level : Level) → Grows (Reads level)
reads_grow level depth u e h = expr_grows h

pub lists_grow : Grows Members
lists_grow depth u items h = members_grow h

pub req_grows : Grows IsReq
req_grows depth _ _ (req name at colon of h k) = req name at colon of (expr_grows h) (expr_grows k)

pub reqs_grow : Grows ReqList
reqs_grow depth u _ (a_req h) = a_req (req_grows depth _ _ h)
reqs_grow depth _ _ (more_reqs comma h k) = more_reqs comma (reqs_grow depth _ _ h) (req_grows depth _ _ k)

pub requires_grows : Grows Requires
requires_grows depth _ _ no_requires = no_requires
requires_grows depth _ _ (requires at h) = requires at (reqs_grow depth _ _ h)

pub stmt_grows : Grows IsStmt
stmt_grows depth _ _ (verify at h) = verify at (expr_grows h)
stmt_grows depth _ _ (lock at name place with h) = lock at name place with (expr_grows h)
stmt_grows depth _ _ (unlock at name place) = unlock at name place

pub stmts_grow : Grows Stmts
stmts_grow depth u _ (a_stmt h) = a_stmt (stmt_grows depth _ _ h)
stmts_grow depth _ _ (more_stmts h k) = more_stmts (stmts_grow depth _ _ h) (stmt_grows depth _ _ k)

pub clause_grows : Grows IsClause
clause_grows depth _ _ (clause at name place first last begin end h k l) =
    clause at name place first last begin end h (requires_grows depth _ _ k) (stmts_grow depth _ _ l)

pub clauses_grow : Grows Clauses
clauses_grow depth u _ (a_clause h) = a_clause (clause_grows depth _ _ h)
clauses_grow depth _ _ (more_clauses h k) = more_clauses (clauses_grow depth _ _ h) (clause_grows depth _ _ k)

pub contract_grows : Grows IsContract
contract_grows depth _ _ (contract at name place first last locks value held begin end h k) =
    contract at name place first last locks value held begin end h (clauses_grow depth _ _ k)

pub contracts_grow : Grows Contracts
contracts_grow depth u _ (a_contract h) = a_contract (contract_grows depth _ _ h)
contracts_grow depth _ _ (more_contracts h k) = more_contracts (contracts_grow depth _ _ h) (contract_grows depth _ _ k)
