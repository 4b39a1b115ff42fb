-- The counted limits in clauses, by the tree.
use Rattle.std.proofs.Common.{◌≡◌, ◌≤◌, ◌<◌, ◌+◌, ◌&&◌, ℕ, suc, Bool, true, false, List, [], ◌∷◌, ◌++◌}
use Rattle.std.proofs.Common.{length, refl, ap, subst, arith, Option, Some, None}
use Rattle.std.specs.Prelude.{nat_le}
use Rattle.std.proofs.lemmas.Bool.{and_right}
use Rattle.std.proofs.lemmas.List.{append_assoc, length-append}
use Rattle.ivy_syntax.specs.declared.tree.Req.{Req}
use Rattle.ivy_syntax.specs.declared.tree.Stmt.{Stmt}
use Rattle.ivy_syntax.specs.declared.tree.ClauseTree.{ClauseTree}
use Rattle.ivy_syntax.specs.declared.lexeme.Keyword.{Keyword}
use Rattle.ivy_syntax.specs.declared.lexeme.Keyword.TheVariants as keyword
use Rattle.ivy_syntax.specs.declared.lexeme.Symbol.TheVariants as symbol
use Rattle.ivy_syntax.specs.declared.lexeme.Kind.{Kind}
use Rattle.ivy_syntax.specs.declared.lexeme.Kind.TheVariants as kind
use Rattle.ivy_syntax.specs.Token as token
use Rattle.ivy_syntax.specs.Tokens.{Placed}
use Rattle.ivy_syntax.specs.Grammar.{word, IsReq, req, ReqList, a_req, more_reqs, Requires, no_requires, requires}
use Rattle.ivy_syntax.specs.Grammar.{IsStmt, verify, lock, unlock, Stmts, a_stmt, more_stmts, IsClause, clause}
use Rattle.ivy_syntax.specs.Grammar.{Clauses, a_clause, more_clauses}
use Rattle.ivy_syntax.specs.Limits.{is_contract, is_clause, is_comma, leads_param, takes_expressions, holds}
use Rattle.ivy_syntax.specs.TreeLimits.{params_of, ExprIsWithin, ReqIsWithin, StmtIsWithin, ClauseIsWithin}
use Rattle.ivy_syntax.proofs.LimitStates.{State, next, member_passed}
use Rattle.ivy_syntax.proofs.LimitExpressions.{within, behind, told_by, nothing_told, neither, none_told}
use Rattle.ivy_syntax.proofs.LimitExpressions.{less, test_less, no_entry}
use Rattle.ivy_syntax.proofs.LimitReadings.{Reading, nothing_read, and_then, passing, limited, ended, fits_as, ends_as}
use Rattle.ivy_syntax.proofs.LimitReadings.{OwnExpr, own_expr, Many, OneMore, one_is, is_one, more_are, are_more}
use Rattle.ivy_syntax.proofs.LimitParams.{AllParams, read_params}

-- ---- states between contracts, clauses and statements

-- what is of no account there for the limits of contracts, clauses and statements
pub record Rest : Type 0 where
  pub assets : ℕ
  pub operators : ℕ
  pub params : ℕ
  pub section : Option Kind
  pub part : Option Kind
  pub stack : List ℕ

-- after so many contracts, clauses and statements, in signatures c, d and m; x is the rest
abbrev pub counting : ℕ → ℕ → ℕ → Option Kind → Rest → State
counting contracts clauses statements last rest = record {
  contracts = contracts;
  clauses = clauses;
  statements = statements;
  assets = rest.assets;
  operators = rest.operators;
  params = rest.params;
  section = rest.section;
  part = rest.part;
  last = last;
  stack = rest.stack;
}

abbrev pub rest_of : State → Rest
rest_of s = record {
  assets = s.assets;
  operators = s.operators;
  params = s.params;
  section = s.section;
  part = s.part;
  stack = s.stack;
}

abbrev pub opening_brace : Kind
opening_brace = kind.Sign symbol.OpenBrace

abbrev pub closing_brace : Kind
closing_brace = kind.Sign symbol.CloseBrace

-- ---- requirements

-- in the requirements of a clause, after the keyword f and then k, with o operators, a assets and p parameters
abbrev asked : State → ℕ → ℕ → Keyword → Kind → ℕ → State
asked s o a f k p = record s {
  operators = o;
  assets = a;
  params = p;
  section = Some (kind.Word f);
  part = Some (kind.Word keyword.Requires);
  last = Some k;
  stack = [];
}

-- a keyword after which a requirement may begin
record LeadsReq (f : Keyword) : Type 0 where
  takes : takes_expressions (kind.Word f) ≡ true
  contract : is_contract (kind.Word f) ≡ false
  clause : is_clause (kind.Word f) ≡ false

requires_leads : LeadsReq keyword.Requires
requires_leads = record { takes = refl; contract = refl; clause = refl }

of_leads : LeadsReq keyword.Of
of_leads = record { takes = refl; contract = refl; clause = refl }

req_few : (leads first second comma most few takes : Bool)
    → told_by (leads && first && most) 2 (told_by (leads && second && most) 4
    (told_by (comma && true && true && few) 5 (told_by (comma && takes && false) 8 None))) ≡ None
    → (comma && few) ≡ false
req_few leads first second false most few takes none = refl
req_few leads first second true most false takes none = refl
req_few true true second true true true takes none = absurd (cc)
req_few true true true true false true takes none = absurd (cc)
req_few true true false true false true takes none = absurd (cc)
req_few true false true true true true takes none = absurd (cc)
req_few true false true true false true takes none = absurd (cc)
req_few true false false true most true takes none = absurd (cc)
req_few false first second true most true takes none = absurd (cc)

few_reqs : (leads first second comma most few takes : Bool) → first ≡ false → second ≡ false
    → (comma && few) ≡ false
    → told_by (leads && first && most) 2 (told_by (leads && second && most) 4
    (told_by (comma && true && true && few) 5 (told_by (comma && takes && false) 8 None))) ≡ None
few_reqs leads true second comma most few takes f g h = absurd (cc)
few_reqs leads false true comma most few takes f g h = absurd (cc)
few_reqs leads false false true most true takes f g h = absurd (cc)
few_reqs true false false true most false true f g h = refl
few_reqs true false false true most false false f g h = refl
few_reqs true false false false most few takes f g h = refl
few_reqs false false false true most false true f g h = refl
few_reqs false false false true most false false f g h = refl
few_reqs false false false false most few takes f g h = refl

record ReqRead (s : State) (o a : ℕ) (f : Keyword) (k : Kind) (p : ℕ) (u : List Placed) (r : Req) : Type 0 where
  operators : ℕ
  last : Kind
  params : ℕ
  no_comma : is_comma last ≡ false
  reads : Reading (asked s o a f k p) u (asked s operators (suc a) keyword.Of last params) (OneMore ReqIsWithin 8 a r)

req_read : (depth : ℕ) (s : State) (o a : ℕ) (f : Keyword) (k : Kind) (p : ℕ) (u : List Placed) (r : Req) → LeadsReq f
    → ((is_comma k && nat_le 8 a) ≡ false → a < 8) → IsReq depth u r → ReqRead s o a f k p u r
req_read depth s o a f k p _ _ at first (req {u = u} {w = w} {amount = amount} {asset = asset} name place colon of h
    j) =
    let params : ℕ = (next (asked s o a f k p) kind.Name).params in
    let before_amount : State = asked s 0 a f (kind.Sign symbol.Colon) params in
    let before_asset : State = asked s 0 (suc a) keyword.Of (kind.Word keyword.Of) 0 in
    let l : OwnExpr before_amount u amount = own_expr before_amount refl at.takes at.contract at.clause refl h in
    let r : OwnExpr before_asset w asset = own_expr before_asset refl refl refl refl refl j in
    let behind_amount : State = behind before_amount l.operators l.last l.params in
    let end : State = behind before_asset r.operators r.last r.params in
    let name_token : Placed = (token.Name name, place) in
    let colon_token : Placed = (token.Sign symbol.Colon, colon) in
    let of_token : Placed = (token.Word keyword.Of, of) in
    let middle : List Placed = of_token ∷ w in
    let Amount : Type 0 = ExprIsWithin amount in
    let Asset : Type 0 = ExprIsWithin asset in
    let second : Reading behind_amount middle end Asset
    = passing behind_amount of_token end w Asset
    (nothing_told 8 (member_passed behind_amount) (no_entry behind_amount l.no_comma)) r.reads in
    let both : Reading before_amount (u ++ middle) end (Amount × Asset)
    = and_then before_amount behind_amount end u middle Amount Asset l.reads second in
    let behind_colon : Reading (asked s o a f kind.Name params) (colon_token ∷ (u ++ middle)) end (Amount × Asset)
    = passing (asked s o a f kind.Name params) colon_token end (u ++ middle) (Amount × Asset) refl both in
    record {
      operators = r.operators;
      last = r.last;
      params = r.params;
      no_comma = r.no_comma;
      reads = limited (asked s o a f k p) name_token end (colon_token ∷ (u ++ middle)) (a < 8) (Amount × Asset)
          (λ none. first (req_few (leads_param k) (is_contract (kind.Word f)) (is_clause (kind.Word f)) (is_comma k)
          (nat_le 32 p) (nat_le 8 a) (takes_expressions (kind.Word f)) none))
          (λ few. few_reqs (leads_param k) (is_contract (kind.Word f)) (is_clause (kind.Word f)) (is_comma k)
          (nat_le 32 p) (nat_le 8 a) (takes_expressions (kind.Word f)) at.contract at.clause
          (and_right (is_comma k) (nat_le 8 a) (test_less 8 a few))) behind_colon;
    }

record ReqsRead (s : State) (o : ℕ) (p : ℕ) (u : List Placed) (reqs : List Req) : Type 0 where
  operators : ℕ
  assets : ℕ
  last : Kind
  params : ℕ
  no_comma : is_comma last ≡ false
  count : assets ≡ length reqs
  reads : Reading (asked s o 0 keyword.Requires (kind.Word keyword.Requires) p) u
      (asked s operators assets keyword.Of last params) (Many ReqIsWithin 8 0 reqs)

reqs_read : (depth : ℕ) (s : State) (o p : ℕ) (u : List Placed) (reqs : List Req) → ReqList depth u reqs
    → ReqsRead s o p u reqs
reqs_read depth s o p u _ (a_req {r = r} h) =
    let start : State = asked s o 0 keyword.Requires (kind.Word keyword.Requires) p in
    let one : ReqRead s o 0 keyword.Requires (kind.Word keyword.Requires) p u r
    = req_read depth s o 0 keyword.Requires (kind.Word keyword.Requires) p u r requires_leads (λ h. omega arith) h in
    record {
      operators = one.operators;
      assets = 1;
      last = one.last;
      params = one.params;
      no_comma = one.no_comma;
      count = refl;
      reads = fits_as start (asked s one.operators 1 keyword.Of one.last one.params) u (OneMore ReqIsWithin 8 0 r)
          (Many ReqIsWithin 8 0 (r ∷ [])) (one_is ReqIsWithin 8 0 r) (is_one ReqIsWithin 8 0 r) one.reads;
    }
reqs_read depth s o p _ _ (more_reqs {u = u} {w = w} {reqs = reqs} {r = r} comma h j) =
    let start : State = asked s o 0 keyword.Requires (kind.Word keyword.Requires) p in
    let t : Placed = (token.Sign symbol.Comma, comma) in
    let k : Kind = kind.Sign symbol.Comma in
    let before : ReqsRead s o p u reqs = reqs_read depth s o p u reqs h in
    let one : ReqRead s before.operators before.assets keyword.Of k before.params w r
    = req_read depth s before.operators before.assets keyword.Of k before.params w r of_leads
    (λ h. less 8 before.assets h) j in
    let middle : State = asked s before.operators before.assets keyword.Of before.last before.params in
    let end : State = asked s one.operators (suc before.assets) keyword.Of one.last one.params in
    let First : Type 0 = Many ReqIsWithin 8 0 reqs in
    let Second : Type 0 = OneMore ReqIsWithin 8 before.assets r in
    let second : Reading middle (t ∷ w) end Second
    = passing middle t end w Second (nothing_told 8 (member_passed middle) (no_entry middle before.no_comma))
    one.reads in
    let count : before.assets ≡ length reqs = before.count in
    record {
      operators = one.operators;
      assets = suc before.assets;
      last = one.last;
      params = one.params;
      no_comma = one.no_comma;
      count = omega (arith, length-append reqs (r ∷ []));
      reads = fits_as start end (u ++ (t ∷ w)) (First × Second) (Many ReqIsWithin 8 0 (reqs ++ (r ∷ [])))
          (λ f. more_are ReqIsWithin 8 0 reqs r (f.0, (omega (arith, f.1.0), f.1.1)))
          (λ f. (let parts = are_more ReqIsWithin 8 0 reqs r f in (parts.0, (omega (arith, parts.1.0), parts.1.1))))
          (and_then start middle end u (t ∷ w) First Second before.reads second);
    }

record RequiresRead (c d m : ℕ) (last : Option Kind) (x : Rest) (u : List Placed) (reqs : List Req) : Type 0 where
  end : Option Kind
  rest : Rest
  no_comma : holds is_comma end ≡ false
  reads : Reading (counting c d m last x) u (counting c d m end rest) (Many ReqIsWithin 8 0 reqs)

requires_read : (depth c d m : ℕ) (last : Option Kind) (x : Rest) (u : List Placed) (reqs : List Req)
    → holds is_comma last ≡ false → Requires depth u reqs → RequiresRead c d m last x u reqs
requires_read depth c d m last x _ _ no_comma no_requires = record {
  end = last;
  rest = x;
  no_comma = no_comma;
  reads = fits_as (counting c d m last x) (counting c d m last x) [] (Unit {0}) (Many ReqIsWithin 8 0 [])
      (λ f. (omega arith, tt)) (λ f. tt) (nothing_read (counting c d m last x));
}
requires_read depth c d m last x _ reqs no_comma (requires {u = u} at h) =
    let s : State = counting c d m last x in
    let r : ReqsRead s x.operators 0 u reqs = reqs_read depth s x.operators 0 u reqs h in
    let end : State = asked s r.operators r.assets keyword.Of r.last r.params in
    record {
      end = Some r.last;
      rest = rest_of end;
      no_comma = r.no_comma;
      reads = passing s (token.Word keyword.Requires, at) end u (Many ReqIsWithin 8 0 reqs)
          (nothing_told 8 (member_passed s) (no_entry s no_comma)) r.reads;
    }

-- ---- statements

-- after a keyword that begins a section
abbrev pub begun : Keyword → Rest → Rest
begun k x = record x { params = 0; section = Some (kind.Word k); part = Some (kind.Word k); stack = [] }

-- and before an expression
abbrev begun_expr : Keyword → Rest → Rest
begun_expr k x = record (begun k x) { operators = 0 }

-- a keyword that is counted, after a token that is no comma
pub counted_here : (s : State) (number most n : ℕ)
    → told_by (nat_le most n) number (told_by (member_passed s) 8 None) ≡ None
    → n < most
counted_here s number most n none = less most n (neither number 8 (nat_le most n) (member_passed s) none).0

pub room_here : (s : State) (number most n : ℕ) → holds is_comma s.last ≡ false → n < most
    → told_by (nat_le most n) number (told_by (member_passed s) 8 None) ≡ None
room_here s number most n no_comma few =
    none_told number 8 (nat_le most n) (member_passed s) (test_less most n few) (no_entry s no_comma)

record StmtRead (c d m : ℕ) (last : Option Kind) (x : Rest) (u : List Placed) (stmt : Stmt) : Type 0 where
  end : Option Kind
  rest : Rest
  no_comma : holds is_comma end ≡ false
  reads : Reading (counting c d m last x) u (counting c d (suc m) end rest) (OneMore StmtIsWithin 64 m stmt)

stmt_read : (depth c d m : ℕ) (last : Option Kind) (x : Rest) (u : List Placed) (stmt : Stmt)
    → holds is_comma last ≡ false → IsStmt depth u stmt → StmtRead c d m last x u stmt
stmt_read depth c d m last x _ _ no_comma (verify {u = u} {e = e} at h) =
    let s : State = counting c d m last x in
    let before : State = counting c d (suc m) (Some (kind.Word keyword.Verify)) (begun_expr keyword.Verify x) in
    let r : OwnExpr before u e = own_expr before refl refl refl refl refl h in
    let end : State = behind before r.operators r.last r.params in
    record {
      end = Some r.last;
      rest = rest_of end;
      no_comma = r.no_comma;
      reads = limited s (token.Word keyword.Verify, at) end u (m < 64) (ExprIsWithin e) (counted_here s 6 64 m)
          (room_here s 6 64 m no_comma) r.reads;
    }
stmt_read depth c d m last x _ _ no_comma (lock {u = u} {e = e} at name place with h) =
    let s : State = counting c d m last x in
    let locking : State = counting c d (suc m) (Some (kind.Word keyword.Lock)) (begun keyword.Lock x) in
    let named : State = counting c d (suc m) (Some kind.Name) (begun keyword.Lock x) in
    let before : State = counting c d (suc m) (Some (kind.Word keyword.With)) (begun_expr keyword.With x) in
    let name_token : Placed = (token.Name name, place) in
    let with_token : Placed = (token.Word keyword.With, with) in
    let r : OwnExpr before u e = own_expr before refl refl refl refl refl h in
    let end : State = behind before r.operators r.last r.params in
    let behind_name : Reading named (with_token ∷ u) end (ExprIsWithin e)
    = passing named with_token end u (ExprIsWithin e) refl r.reads in
    let behind_lock : Reading locking (name_token ∷ with_token ∷ u) end (ExprIsWithin e)
    = passing locking name_token end (with_token ∷ u) (ExprIsWithin e) refl behind_name in
    record {
      end = Some r.last;
      rest = rest_of end;
      no_comma = r.no_comma;
      reads = limited s (token.Word keyword.Lock, at) end (name_token ∷ with_token ∷ u) (m < 64) (ExprIsWithin e)
          (counted_here s 6 64 m) (room_here s 6 64 m no_comma) behind_lock;
    }
stmt_read depth c d m last x _ _ no_comma (unlock at name place) =
    let s : State = counting c d m last x in
    let unlocking : State = counting c d (suc m) (Some (kind.Word keyword.Unlock)) (begun keyword.Unlock x) in
    let end : State = counting c d (suc m) (Some kind.Name) (begun keyword.Unlock x) in
    let name_token : Placed = (token.Name name, place) in
    record {
      end = Some kind.Name;
      rest = begun keyword.Unlock x;
      no_comma = refl;
      reads = limited s (token.Word keyword.Unlock, at) end (name_token ∷ []) (m < 64) (Unit {0})
          (counted_here s 6 64 m) (room_here s 6 64 m no_comma)
          (passing unlocking name_token end [] (Unit {0}) refl (nothing_read end));
    }

record StmtsRead (c d m : ℕ) (last : Option Kind) (x : Rest) (u : List Placed) (stmts : List Stmt) : Type 0 where
  end : Option Kind
  rest : Rest
  no_comma : holds is_comma end ≡ false
  reads : Reading (counting c d m last x) u (counting c d (m + length stmts) end rest) (Many StmtIsWithin 64 m stmts)

stmts_read : (depth c d m : ℕ) (last : Option Kind) (x : Rest) (u : List Placed) (stmts : List Stmt)
    → holds is_comma last ≡ false → Stmts depth u stmts → StmtsRead c d m last x u stmts
stmts_read depth c d m last x u _ no_comma (a_stmt {s = stmt} h) =
    let s : State = counting c d m last x in
    let one : StmtRead c d m last x u stmt = stmt_read depth c d m last x u stmt no_comma h in
    let end : State = counting c d (m + 1) one.end one.rest in
    record {
      end = one.end;
      rest = one.rest;
      no_comma = one.no_comma;
      reads = fits_as s end u (OneMore StmtIsWithin 64 m stmt) (Many StmtIsWithin 64 m (stmt ∷ []))
          (one_is StmtIsWithin 64 m stmt) (is_one StmtIsWithin 64 m stmt)
          (ends_as s (counting c d (suc m) one.end one.rest) end u (OneMore StmtIsWithin 64 m stmt)
          (ap (λ n. counting c d n one.end one.rest) (omega arith)) one.reads);
    }
stmts_read depth c d m last x _ _ no_comma (more_stmts {u = u} {w = w} {stmts = stmts} {s = stmt} h j) =
    let s : State = counting c d m last x in
    let before : StmtsRead c d m last x u stmts = stmts_read depth c d m last x u stmts no_comma h in
    let n : ℕ = m + length stmts in
    let one : StmtRead c d n before.end before.rest w stmt
    = stmt_read depth c d n before.end before.rest w stmt before.no_comma j in
    let middle : State = counting c d n before.end before.rest in
    let end : State = counting c d (m + length (stmts ++ (stmt ∷ []))) one.end one.rest in
    let First : Type 0 = Many StmtIsWithin 64 m stmts in
    let Second : Type 0 = OneMore StmtIsWithin 64 n stmt in
    record {
      end = one.end;
      rest = one.rest;
      no_comma = one.no_comma;
      reads = fits_as s end (u ++ w) (First × Second) (Many StmtIsWithin 64 m (stmts ++ (stmt ∷ [])))
          (more_are StmtIsWithin 64 m stmts stmt) (are_more StmtIsWithin 64 m stmts stmt)
          (and_then s middle end u w First Second before.reads
          (ends_as middle (counting c d (suc n) one.end one.rest) end w Second
          (ap (λ n. counting c d n one.end one.rest) (omega (arith, length-append stmts (stmt ∷ [])))) one.reads));
    }

-- ---- clauses

abbrev ClauseParts : ℕ → ClauseTree → Type 0
ClauseParts d tree =
    (d < 16) × ((params_of tree.params ≤ 32) × (Many ReqIsWithin 8 0 tree.reqs × Many StmtIsWithin 64 0 tree.stmts))

parts_within : (d : ℕ) (tree : ClauseTree) → ClauseParts d tree → OneMore ClauseIsWithin 16 d tree
parts_within d tree f = (
  f.0,
  record {
    params = f.1.0;
    reqs = omega (arith, f.1.1.0.0);
    each_req = f.1.1.0.1;
    stmts = omega (arith, f.1.1.1.0);
    each_stmt = f.1.1.1.1;
  },
)

within_parts : (d : ℕ) (tree : ClauseTree) → OneMore ClauseIsWithin 16 d tree → ClauseParts d tree
within_parts d tree f = (
  f.0,
  (f.1.params, ((omega (arith, f.1.reqs), f.1.each_req), (omega (arith, f.1.stmts), f.1.each_stmt))),
)

record ClauseRead (c d m : ℕ) (last : Option Kind) (x : Rest) (u : List Placed) (tree : ClauseTree) : Type 0 where
  statements : ℕ
  rest : Rest
  reads : Reading (counting c d m last x) u (counting c (suc d) statements (Some closing_brace) rest)
      (OneMore ClauseIsWithin 16 d tree)

clause_read : (depth c d m : ℕ) (last : Option Kind) (x : Rest) (u : List Placed) (tree : ClauseTree)
    → holds is_comma last ≡ false → IsClause depth u tree → ClauseRead c d m last x u tree
clause_read depth c d m last x _ _ no_comma (clause {u = u} {v = v} {w = w} {groups = groups} {reqs = reqs}
    {stmts = stmts} at name place first close begin finish h j l) =
    let s : State = counting c d m last x in
    let opened : State = counting c (suc d) 0 (Some (kind.Word keyword.Clause)) (begun keyword.Clause x) in
    let named : State = counting c (suc d) 0 (Some kind.Name) (begun keyword.Clause x) in
    let name_token : Placed = (token.Name name, place) in
    let paren : Placed = (token.Sign symbol.OpenParen, first) in
    let unparen : Placed = (token.Sign symbol.CloseParen, close) in
    let brace : Placed = (token.Sign symbol.OpenBrace, begin) in
    let unbrace : Placed = (token.Sign symbol.CloseBrace, finish) in
    let tree : ClauseTree
    = record { name = word name place; params = groups; reqs = reqs; stmts = stmts } in
    let p : AllParams named (u ++ (unparen ∷ [])) groups
    = read_params named u groups close (record { owned = refl; requires = refl; takes = refl }) refl h in
    let behind_params : State = behind named p.operators (kind.Sign symbol.CloseParen) p.params in
    let r : RequiresRead c (suc d) 0 (Some (kind.Sign symbol.CloseParen)) (rest_of behind_params) v reqs
    = requires_read depth c (suc d) 0 (Some (kind.Sign symbol.CloseParen)) (rest_of behind_params) v reqs refl j in
    let behind_reqs : State = counting c (suc d) 0 r.end r.rest in
    let in_brace : State = counting c (suc d) 0 (Some opening_brace) r.rest in
    let b : StmtsRead c (suc d) 0 (Some opening_brace) r.rest w stmts
    = stmts_read depth c (suc d) 0 (Some opening_brace) r.rest w stmts refl l in
    let behind_stmts : State = counting c (suc d) (0 + length stmts) b.end b.rest in
    let end : State = counting c (suc d) (0 + length stmts) (Some closing_brace) b.rest in
    let body : List Placed = w ++ (unbrace ∷ []) in
    let rest : List Placed = v ++ (brace ∷ body) in
    let ParamsFit : Type 0 = params_of groups ≤ 32 in
    let ReqsFit : Type 0 = Many ReqIsWithin 8 0 reqs in
    let StmtsFit : Type 0 = Many StmtIsWithin 64 0 stmts in
    let AllFit : Type 0 = ParamsFit × (ReqsFit × StmtsFit) in
    let of_body : Reading in_brace body end StmtsFit
    = ended in_brace behind_stmts w unbrace StmtsFit
    (nothing_told 8 (member_passed behind_stmts) (no_entry behind_stmts b.no_comma)) b.reads in
    let of_brace : Reading behind_reqs (brace ∷ body) end StmtsFit
    = passing behind_reqs brace end body StmtsFit
    (nothing_told 8 (member_passed behind_reqs) (no_entry behind_reqs r.no_comma)) of_body in
    let of_rest : Reading behind_params rest end (ReqsFit × StmtsFit)
    = and_then behind_params behind_reqs end v (brace ∷ body) ReqsFit StmtsFit r.reads of_brace in
    let of_params : Reading (within named (kind.Sign symbol.OpenParen)) ((u ++ (unparen ∷ [])) ++ rest) end
    AllFit
    = and_then (within named (kind.Sign symbol.OpenParen)) behind_params end (u ++ (unparen ∷ [])) rest ParamsFit
    (ReqsFit × StmtsFit) p.reads of_rest in
    let all : List Placed = u ++ (unparen ∷ rest) in
    let of_all : Reading (within named (kind.Sign symbol.OpenParen)) all end AllFit
    = subst (λ ts. Reading (within named (kind.Sign symbol.OpenParen)) ts end AllFit)
    (append_assoc u (unparen ∷ []) rest) of_params in
    let of_paren : Reading named (paren ∷ all) end AllFit
    = passing named paren end all AllFit refl of_all in
    let of_name : Reading opened (name_token ∷ paren ∷ all) end AllFit
    = passing opened name_token end (paren ∷ all) AllFit refl of_paren in
    record {
      statements = 0 + length stmts;
      rest = b.rest;
      reads = fits_as s end ((token.Word keyword.Clause, at) ∷ name_token ∷ paren ∷ all) (ClauseParts d tree)
          (OneMore ClauseIsWithin 16 d tree) (parts_within d tree) (within_parts d tree)
          (limited s (token.Word keyword.Clause, at) end (name_token ∷ paren ∷ all) (d < 16) AllFit
          (counted_here s 3 16 d) (room_here s 3 16 d no_comma) of_name);
    }

pub record ClausesRead (c d m : ℕ) (last : Option Kind) (x : Rest) (u : List Placed) (trees : List ClauseTree) : Type 0
  where
    pub statements : ℕ
    pub rest : Rest
    pub reads : Reading (counting c d m last x) u
        (counting c (d + length trees) statements (Some closing_brace) rest) (Many ClauseIsWithin 16 d trees)

pub clauses_read : (depth c d m : ℕ) (last : Option Kind) (x : Rest) (u : List Placed) (trees : List ClauseTree)
    → holds is_comma last ≡ false → Clauses depth u trees → ClausesRead c d m last x u trees
clauses_read depth c d m last x u _ no_comma (a_clause {c = tree} h) =
    let s : State = counting c d m last x in
    let one : ClauseRead c d m last x u tree = clause_read depth c d m last x u tree no_comma h in
    let end : State = counting c (d + 1) one.statements (Some closing_brace) one.rest in
    record {
      statements = one.statements;
      rest = one.rest;
      reads = fits_as s end u (OneMore ClauseIsWithin 16 d tree) (Many ClauseIsWithin 16 d (tree ∷ []))
          (one_is ClauseIsWithin 16 d tree) (is_one ClauseIsWithin 16 d tree)
          (ends_as s (counting c (suc d) one.statements (Some closing_brace) one.rest) end u
          (OneMore ClauseIsWithin 16 d tree)
          (ap (λ n. counting c n one.statements (Some closing_brace) one.rest) (omega arith)) one.reads);
    }
clauses_read depth c d m last x _ _ no_comma (more_clauses {u = u} {w = w} {clauses = trees} {c = tree} h j) =
    let s : State = counting c d m last x in
    let before : ClausesRead c d m last x u trees = clauses_read depth c d m last x u trees no_comma h in
    let n : ℕ = d + length trees in
    let one : ClauseRead c n before.statements (Some closing_brace) before.rest w tree
    = clause_read depth c n before.statements (Some closing_brace) before.rest w tree refl j in
    let middle : State = counting c n before.statements (Some closing_brace) before.rest in
    let end : State = counting c (d + length (trees ++ (tree ∷ []))) one.statements (Some closing_brace) one.rest in
    let First : Type 0 = Many ClauseIsWithin 16 d trees in
    let Second : Type 0 = OneMore ClauseIsWithin 16 n tree in
    record {
      statements = one.statements;
      rest = one.rest;
      reads = fits_as s end (u ++ w) (First × Second) (Many ClauseIsWithin 16 d (trees ++ (tree ∷ [])))
          (more_are ClauseIsWithin 16 d trees tree) (are_more ClauseIsWithin 16 d trees tree)
          (and_then s middle end u w First Second before.reads
          (ends_as middle (counting c (suc n) one.statements (Some closing_brace) one.rest) end w Second
          (ap (λ n. counting c n one.statements (Some closing_brace) one.rest)
          (omega (arith, length-append trees (tree ∷ [])))) one.reads));
    }
