-- What the grammar says of clauses and contracts is what their parts read, and a whole text comes out.
use Rattle.std.specs.Prelude.{◌≡◌, ℕ, true, List, [], ◌∷◌, ◌++◌, refl}
use Rattle.std.proofs.Common.{sym, ap, ◌∙◌, subst}
use mathlib.Core.List.{append_assoc}
use Rattle.grammars.specs.Part.{Part, Decides}
use Rattle.grammars.specs.Sequence.{Then, Within}
use Rattle.grammars.specs.Bits.{Made, Closed, Opened}
use Rattle.grammars.specs.Depth.{Any, within_any, together, decides_same}
use Rattle.grammars.specs.Gathered.{repeated_reads, Led, led_one, led_more}
use Rattle.grammars.specs.Taken.{made_of, made_is, closed_of, closed_is, opened_of, opened_is, same_part}
use Rattle.ivy_syntax.specs.declared.tree.Expr.{Expr}
use Rattle.ivy_syntax.specs.declared.tree.Word.{Word}
use Rattle.ivy_syntax.specs.declared.tree.Group.{Group}
use Rattle.ivy_syntax.specs.declared.tree.Req.{Req}
use Rattle.ivy_syntax.specs.declared.tree.Stmt.{Stmt}
use Rattle.ivy_syntax.specs.declared.tree.ClauseTree.{ClauseTree}
use Rattle.ivy_syntax.specs.declared.tree.Contract.{Contract}
use Rattle.ivy_syntax.specs.declared.lexeme.Keyword.TheVariants as keyword
use Rattle.ivy_syntax.specs.declared.lexeme.Symbol.TheVariants as symbol
use Rattle.ivy_syntax.specs.Token.{Token, Name}
use Rattle.ivy_syntax.specs.Token as token
use Rattle.ivy_syntax.specs.Tokens.{Placed}
use Rattle.ivy_syntax.specs.declared.level.Level.TheVariants.{Or}
use Rattle.ivy_syntax.specs.Grammar.{Reads, word, Params, Requires, Stmts, IsClause, clause, Clauses, a_clause}
use Rattle.ivy_syntax.specs.Grammar.{more_clauses, IsContract, contract, Contracts, a_contract, more_contracts, File}
use Rattle.ivy_syntax.specs.Grammar.{file}
use Rattle.ivy_syntax.specs.Descent.{Reader, is_word, the_word, named, open_paren, open_brace, close_brace}
use Rattle.ivy_syntax.specs.Descent.{clause_of, contract_of, source_of, file_by, expr_at, file_at}
use Rattle.ivy_syntax.proofs.Pieces.{Fine, word_is, the_sign_is, the_word_is, named_is}
use Rattle.ivy_syntax.proofs.Growth.{requires_grows, stmts_grow, clause_grows, clauses_grow, contract_grows}
use Rattle.ivy_syntax.proofs.Growth.{contracts_grow}
use Rattle.ivy_syntax.proofs.Levels.{Comes}
use Rattle.ivy_syntax.proofs.Expressions.{decides_expr_at}
use Rattle.ivy_syntax.proofs.Parts.{Params_part, Requires_part, Stmts_part, Clause_body, Clause_part, Clauses_part}
use Rattle.ivy_syntax.proofs.Parts.{Contract_body, Contract_part, Contracts_part, File_part, OrContract, file_rule}
use Rattle.ivy_syntax.proofs.Declared.{to_params, params_parts, to_requires, of_requires, any_requires}
use Rattle.ivy_syntax.proofs.Declared.{to_stmts, of_stmts, any_stmts}

-- an expression within some bound
abbrev O : Part Placed Expr
O = Any (Reads Or)

-- ---- clauses

abbrev Led_clause : Part Placed Expr → Part Placed ClauseTree
Led_clause Z = Led (is_word keyword.Clause) (λ t. Clause_part Z)

-- the requirements and the statements of a clause, after its parameters
to_clause_body : (depth : ℕ) (Z : Part Placed Expr) → Within (Reads Or depth) Z → (name : Word) (groups : List Group)
    (v w : List Placed) (reqs : List Req) (stmts : List Stmt) (begin end : ℕ) → Requires depth v reqs
    → Stmts depth w stmts → Clause_body Z name groups (v ++ ((token.Sign symbol.OpenBrace, begin)
    ∷ (w ++ ((token.Sign symbol.CloseBrace, end) ∷ [])))) (clause_of name groups reqs stmts)
to_clause_body depth Z inside name groups v w reqs stmts begin end h k = record {
  first = v;
  second = (token.Sign symbol.OpenBrace, begin) ∷ (w ++ ((token.Sign symbol.CloseBrace, end) ∷ []));
  value = reqs;
  joined = refl;
  reads_first = to_requires depth Z inside v reqs h;
  reads_second = opened_of open_brace
      (λ b. Made (clause_of name groups reqs) (Closed close_brace (Stmts_part Z)))
      (token.Sign symbol.OpenBrace, begin) (token.Sign symbol.OpenBrace, begin)
      (w ++ ((token.Sign symbol.CloseBrace, end) ∷ [])) (clause_of name groups reqs stmts) refl
      (made_of (clause_of name groups reqs) (Closed close_brace (Stmts_part Z))
      (w ++ ((token.Sign symbol.CloseBrace, end) ∷ [])) stmts
      (closed_of close_brace (Stmts_part Z) w stmts (token.Sign symbol.CloseBrace, end)
      (token.Sign symbol.CloseBrace, end) refl (to_stmts depth Z inside w stmts k)));
}

pub to_clause : (depth : ℕ) (Z : Part Placed Expr) → Within (Reads Or depth) Z → Within (IsClause depth) (Led_clause Z)
to_clause depth Z inside _ _ (clause {u = u} {v = v} {w = w} {groups = groups} {reqs = reqs} {stmts = stmts} at name
    place first last begin end h k l) = record {
      token = (token.Word keyword.Clause, at);
      behind = (Name name, place) ∷ (token.Sign symbol.OpenParen, first)
          ∷ (u ++ ((token.Sign symbol.CloseParen, last) ∷ body));
      all = refl;
      begins = refl;
      reads = opened_of named (λ n. Opened open_paren (λ o. Then Params_part (Clause_body Z n))) (Name name, place)
          (word name place) _ _ refl
          (opened_of open_paren (λ o. Then Params_part (Clause_body Z (word name place)))
          (token.Sign symbol.OpenParen, first) (token.Sign symbol.OpenParen, first) _ _ refl inner);
    }
  where
    body : List Placed
    body = v ++ ((token.Sign symbol.OpenBrace, begin) ∷ (w ++ ((token.Sign symbol.CloseBrace, end) ∷ [])))

    inner : Then Params_part (Clause_body Z (word name place)) (u ++ ((token.Sign symbol.CloseParen, last) ∷ body))
        (clause_of (word name place) groups reqs stmts)
    inner = record {
      first = u ++ ((token.Sign symbol.CloseParen, last) ∷ []);
      second = body;
      value = groups;
      joined = sym (append_assoc u ((token.Sign symbol.CloseParen, last) ∷ []) body);
      reads_first = to_params u groups last h;
      reads_second = to_clause_body depth Z inside (word name place) groups v w reqs stmts begin end k l;
    }

record Clause_parts (Z : Part Placed Expr) (u : List Placed) (c : ClauseTree) : Type 0 where
  name : List ℕ
  place : ℕ
  first : ℕ
  last : ℕ
  begin : ℕ
  end : ℕ
  of_params : List Placed
  of_requires : List Placed
  of_stmts : List Placed
  groups : List Group
  reqs : List Req
  stmts : List Stmt
  all : u ≡ (Name name, place) ∷ (token.Sign symbol.OpenParen, first)
      ∷ (of_params ++ ((token.Sign symbol.CloseParen, last) ∷ (of_requires ++ ((token.Sign symbol.OpenBrace, begin)
      ∷ (of_stmts ++ ((token.Sign symbol.CloseBrace, end) ∷ []))))))
  value : c ≡ clause_of (word name place) groups reqs stmts
  reads_params : Params of_params groups
  reads_requires : Requires_part Z of_requires reqs
  reads_stmts : Stmts_part Z of_stmts stmts

record Body_parts (Z : Part Placed Expr) (name : Word) (groups : List Group) (u : List Placed) (c : ClauseTree)
    : Type 0 where
  begin : ℕ
  end : ℕ
  of_requires : List Placed
  of_stmts : List Placed
  reqs : List Req
  stmts : List Stmt
  all : u ≡ of_requires ++ ((token.Sign symbol.OpenBrace, begin)
      ∷ (of_stmts ++ ((token.Sign symbol.CloseBrace, end) ∷ [])))
  value : c ≡ clause_of name groups reqs stmts
  reads_requires : Requires_part Z of_requires reqs
  reads_stmts : Stmts_part Z of_stmts stmts

body_parts : (Z : Part Placed Expr) (name : Word) (groups : List Group) (u : List Placed) (c : ClauseTree)
    → Clause_body Z name groups u c → Body_parts Z name groups u c
body_parts Z name groups u c h =
    let b = opened_is open_brace (λ b. Made (clause_of name groups h.value) (Closed close_brace (Stmts_part Z)))
    h.second c
    h.reads_second in
    let m = made_is (clause_of name groups h.value) (Closed close_brace (Stmts_part Z)) b.behind c b.reads in
    let s = closed_is close_brace (Stmts_part Z) b.behind m.0 m.1 in
    let open_is = the_sign_is symbol.OpenBrace b.token b.means_as b.means in
    let close_is = the_sign_is symbol.CloseBrace s.token s.meaning s.means in
    record {
      begin = b.token.1;
      end = s.token.1;
      of_requires = h.first;
      of_stmts = s.inner;
      reqs = h.value;
      stmts = m.0;
      all = cc (h.joined, b.all, open_is, s.all, close_is);
      value = m.2;
      reads_requires = h.reads_first;
      reads_stmts = s.reads;
    }

clause_parts : (Z : Part Placed Expr) (u : List Placed) (c : ClauseTree) → Clause_part Z u c → Clause_parts Z u c
clause_parts Z u c h =
    let n = opened_is named (λ n. Opened open_paren (λ o. Then Params_part (Clause_body Z n))) u c h in
    let f = named_is n.token n.means_as n.means in
    let o = opened_is open_paren (λ o. Then Params_part (Clause_body Z n.means_as)) n.behind c n.reads in
    let paren_is = the_sign_is symbol.OpenParen o.token o.means_as o.means in
    let t = o.reads in
    let p = params_parts t.first t.value t.reads_first in
    let b = body_parts Z n.means_as t.value t.second c t.reads_second in
    let turned : (p.inner ++ ((token.Sign symbol.CloseParen, p.last) ∷ [])) ++ t.second
    ≡ p.inner ++ ((token.Sign symbol.CloseParen, p.last) ∷ t.second) =
    append_assoc p.inner ((token.Sign symbol.CloseParen, p.last) ∷ []) t.second in
    record {
      name = f.0;
      place = n.token.1;
      first = o.token.1;
      last = p.last;
      begin = b.begin;
      end = b.end;
      of_params = p.inner;
      of_requires = b.of_requires;
      of_stmts = b.of_stmts;
      groups = t.value;
      reqs = b.reqs;
      stmts = b.stmts;
      all = cc (n.all, f.1, o.all, paren_is, t.joined, p.all, turned, b.all);
      value = b.value ∙ ap (λ n. clause_of n t.value b.reqs b.stmts) f.2;
      reads_params = p.reads;
      reads_requires = b.reads_requires;
      reads_stmts = b.reads_stmts;
    }

clause_from : (depth : ℕ) (Z : Part Placed Expr) (t : Placed) (u : List Placed) (c : ClauseTree)
    → is_word keyword.Clause t ≡ true → (p : Clause_parts Z u c) → Requires depth p.of_requires p.reqs
    → Stmts depth p.of_stmts p.stmts → IsClause depth (t ∷ u) c
clause_from depth Z t u c is p h k =
    let tokens : List Placed = (Name p.name, p.place) ∷ (token.Sign symbol.OpenParen, p.first)
    ∷ (p.of_params ++ ((token.Sign symbol.CloseParen, p.last)
    ∷ (p.of_requires ++ ((token.Sign symbol.OpenBrace, p.begin)
    ∷ (p.of_stmts ++ ((token.Sign symbol.CloseBrace, p.end) ∷ [])))))) in
    same_part (IsClause depth) (t ∷ u) ((token.Word keyword.Clause, t.1) ∷ tokens) c
    (clause_of (word p.name p.place) p.groups p.reqs p.stmts)
    (ap (λ t. t ∷ u) (word_is keyword.Clause t is) ∙ ap (λ u. (token.Word keyword.Clause, t.1) ∷ u) p.all) p.value
    (clause t.1 p.name p.place p.first p.last p.begin p.end p.reads_params h k)

pub of_clause : (depth : ℕ) (t : Placed) (u : List Placed) (c : ClauseTree) → is_word keyword.Clause t ≡ true
    → Clause_part (Reads Or depth) u c → IsClause depth (t ∷ u) c
of_clause depth t u c is h =
    let p = clause_parts (Reads Or depth) u c h in
    clause_from depth (Reads Or depth) t u c is p (of_requires depth p.of_requires p.reqs p.reads_requires)
    (of_stmts depth p.of_stmts p.stmts p.reads_stmts)

pub any_clause : (t : Placed) (u : List Placed) (c : ClauseTree) → is_word keyword.Clause t ≡ true → Clause_part O u c
    → Any IsClause (t ∷ u) c
any_clause t u c is h =
    let p = clause_parts O u c h in
    let both = together Requires Stmts requires_grows stmts_grow p.of_requires p.of_stmts p.reqs p.stmts
    (any_requires p.of_requires p.reqs p.reads_requires) (any_stmts p.of_stmts p.stmts p.reads_stmts) in
    (both.0, clause_from both.0 O t u c is p both.1 both.2)

pub to_clauses : (depth : ℕ) (Z : Part Placed Expr) → Within (Reads Or depth) Z
    → Within (Clauses depth) (Clauses_part Z)
to_clauses depth Z inside u _ (a_clause {c = c} h) =
    led_one (is_word keyword.Clause) (λ t. Clause_part Z) u c (to_clause depth Z inside u c h)
to_clauses depth Z inside _ _ (more_clauses {u = u} {w = w} {clauses = clauses} {c = c} h k) =
    led_more (is_word keyword.Clause) (λ t. Clause_part Z) u w clauses c (to_clauses depth Z inside u clauses h)
    (to_clause depth Z inside w c k)

pub of_clauses : (depth : ℕ) → Within (Clauses_part (Reads Or depth)) (Clauses depth)
of_clauses depth = repeated_reads (is_word keyword.Clause) (λ t. Clause_part (Reads Or depth)) (Clauses depth)
    (λ t w c is h. a_clause (of_clause depth t w c is h))
    (λ u w t clauses c h is k. more_clauses h (of_clause depth t w c is k))

pub any_clauses : Within (Clauses_part O) (Any Clauses)
any_clauses = repeated_reads (is_word keyword.Clause) (λ t. Clause_part O) (Any Clauses)
    (λ t w c is h. let a = any_clause t w c is h in (a.0, a_clause a.1))
    (λ u w t clauses c h is k.
    let both = together Clauses IsClause clauses_grow clause_grows u (t ∷ w) clauses c h (any_clause t w c is k) in
    (both.0, more_clauses both.1 both.2))

-- ---- contracts

abbrev Led_contract : Part Placed Expr → Part Placed Contract
Led_contract Z = Led (is_word keyword.Contract) (λ t. Contract_part Z)

-- what a contract locks and its clauses, after its parameters
to_contract_body : (depth : ℕ) (Z : Part Placed Expr) → Within (Reads Or depth) Z → (name : Word) (groups : List Group)
    (w : List Placed) (clauses : List ClauseTree) (locks : ℕ) (value : List ℕ) (held begin end : ℕ)
    → Clauses depth w clauses → Contract_body Z name groups ((token.Word keyword.Locks, locks) ∷ (Name value, held)
    ∷ (token.Sign symbol.OpenBrace, begin) ∷ (w ++ ((token.Sign symbol.CloseBrace, end) ∷ [])))
    (contract_of name groups (word value held) clauses)
to_contract_body depth Z inside name groups w clauses locks value held begin end h =
    opened_of (the_word keyword.Locks)
    (λ l. Opened named (λ v. Opened open_brace
    (λ b. Made (contract_of name groups v) (Closed close_brace (Clauses_part Z)))))
    (token.Word keyword.Locks, locks) (token.Word keyword.Locks, locks) _ _ refl
    (opened_of named (λ v. Opened open_brace
    (λ b. Made (contract_of name groups v) (Closed close_brace (Clauses_part Z))))
    (Name value, held) (word value held) _ _ refl
    (opened_of open_brace (λ b. Made (contract_of name groups (word value held)) (Closed close_brace (Clauses_part Z)))
    (token.Sign symbol.OpenBrace, begin) (token.Sign symbol.OpenBrace, begin) _ _ refl
    (made_of (contract_of name groups (word value held)) (Closed close_brace (Clauses_part Z))
    (w ++ ((token.Sign symbol.CloseBrace, end) ∷ [])) clauses
    (closed_of close_brace (Clauses_part Z) w clauses (token.Sign symbol.CloseBrace, end)
    (token.Sign symbol.CloseBrace, end) refl (to_clauses depth Z inside w clauses h)))))

pub to_contract : (depth : ℕ) (Z : Part Placed Expr) → Within (Reads Or depth) Z
    → Within (IsContract depth) (Led_contract Z)
to_contract depth Z inside _ _ (contract {u = u} {w = w} {groups = groups} {clauses = clauses} at name place first last
    locks value held begin end h k) = record {
      token = (token.Word keyword.Contract, at);
      behind = (Name name, place) ∷ (token.Sign symbol.OpenParen, first)
          ∷ (u ++ ((token.Sign symbol.CloseParen, last) ∷ body));
      all = refl;
      begins = refl;
      reads = opened_of named (λ n. Opened open_paren (λ o. Then Params_part (Contract_body Z n))) (Name name, place)
          (word name place) _ _ refl
          (opened_of open_paren (λ o. Then Params_part (Contract_body Z (word name place)))
          (token.Sign symbol.OpenParen, first) (token.Sign symbol.OpenParen, first) _ _ refl inner);
    }
  where
    body : List Placed
    body = (token.Word keyword.Locks, locks) ∷ (Name value, held) ∷ (token.Sign symbol.OpenBrace, begin)
        ∷ (w ++ ((token.Sign symbol.CloseBrace, end) ∷ []))

    inner : Then Params_part (Contract_body Z (word name place)) (u ++ ((token.Sign symbol.CloseParen, last) ∷ body))
        (contract_of (word name place) groups (word value held) clauses)
    inner = record {
      first = u ++ ((token.Sign symbol.CloseParen, last) ∷ []);
      second = body;
      value = groups;
      joined = sym (append_assoc u ((token.Sign symbol.CloseParen, last) ∷ []) body);
      reads_first = to_params u groups last h;
      reads_second = to_contract_body depth Z inside (word name place) groups w clauses locks value held begin end k;
    }

record Locked_parts (Z : Part Placed Expr) (name : Word) (groups : List Group) (u : List Placed) (c : Contract)
    : Type 0 where
  locks : ℕ
  value_name : List ℕ
  held : ℕ
  begin : ℕ
  end : ℕ
  of_clauses : List Placed
  clauses : List ClauseTree
  all : u ≡ (token.Word keyword.Locks, locks) ∷ (Name value_name, held) ∷ (token.Sign symbol.OpenBrace, begin)
      ∷ (of_clauses ++ ((token.Sign symbol.CloseBrace, end) ∷ []))
  value : c ≡ contract_of name groups (word value_name held) clauses
  reads_clauses : Clauses_part Z of_clauses clauses

locked_parts : (Z : Part Placed Expr) (name : Word) (groups : List Group) (u : List Placed) (c : Contract)
    → Contract_body Z name groups u c → Locked_parts Z name groups u c
locked_parts Z name groups u c h =
    let l = opened_is (the_word keyword.Locks) (λ l. Opened named (λ v. Opened open_brace (λ b. ends v))) u c h in
    let locks_is = the_word_is keyword.Locks l.token l.means_as l.means in
    let v = opened_is named (λ v. Opened open_brace (λ b. ends v)) l.behind c l.reads in
    let f = named_is v.token v.means_as v.means in
    let b = opened_is open_brace (λ b. ends v.means_as) v.behind c v.reads in
    let open_is = the_sign_is symbol.OpenBrace b.token b.means_as b.means in
    let m = made_is (contract_of name groups v.means_as) (Closed close_brace (Clauses_part Z)) b.behind c b.reads in
    let s = closed_is close_brace (Clauses_part Z) b.behind m.0 m.1 in
    let close_is = the_sign_is symbol.CloseBrace s.token s.meaning s.means in
    record {
      locks = l.token.1;
      value_name = f.0;
      held = v.token.1;
      begin = b.token.1;
      end = s.token.1;
      of_clauses = s.inner;
      clauses = m.0;
      all = cc (l.all, locks_is, v.all, f.1, b.all, open_is, s.all, close_is);
      value = m.2 ∙ ap (λ v. contract_of name groups v m.0) f.2;
      reads_clauses = s.reads;
    }
  where
    ends : Word → Part Placed Contract
    ends v = Made (contract_of name groups v) (Closed close_brace (Clauses_part Z))

record Contract_parts (Z : Part Placed Expr) (u : List Placed) (c : Contract) : Type 0 where
  name : List ℕ
  place : ℕ
  first : ℕ
  last : ℕ
  groups : List Group
  of_params : List Placed
  behind : List Placed
  all : u ≡ (Name name, place) ∷ (token.Sign symbol.OpenParen, first)
      ∷ (of_params ++ ((token.Sign symbol.CloseParen, last) ∷ behind))
  reads_params : Params of_params groups
  locked : Locked_parts Z (word name place) groups behind c

contract_parts : (Z : Part Placed Expr) (u : List Placed) (c : Contract) → Contract_part Z u c → Contract_parts Z u c
contract_parts Z u c h =
    let n = opened_is named (λ n. Opened open_paren (λ o. Then Params_part (Contract_body Z n))) u c h in
    let f = named_is n.token n.means_as n.means in
    let o = opened_is open_paren (λ o. Then Params_part (Contract_body Z n.means_as)) n.behind c n.reads in
    let paren_is = the_sign_is symbol.OpenParen o.token o.means_as o.means in
    let t = o.reads in
    let p = params_parts t.first t.value t.reads_first in
    let turned : (p.inner ++ ((token.Sign symbol.CloseParen, p.last) ∷ [])) ++ t.second
    ≡ p.inner ++ ((token.Sign symbol.CloseParen, p.last) ∷ t.second) =
    append_assoc p.inner ((token.Sign symbol.CloseParen, p.last) ∷ []) t.second in
    record {
      name = f.0;
      place = n.token.1;
      first = o.token.1;
      last = p.last;
      groups = t.value;
      of_params = p.inner;
      behind = t.second;
      all = cc (n.all, f.1, o.all, paren_is, t.joined, p.all, turned);
      reads_params = p.reads;
      locked = locked_parts Z (word f.0 n.token.1) t.value t.second c
          (subst (λ n. Contract_body Z n t.value t.second c) f.2 t.reads_second);
    }

contract_from : (depth : ℕ) (Z : Part Placed Expr) (t : Placed) (u : List Placed) (c : Contract)
    → is_word keyword.Contract t ≡ true → (p : Contract_parts Z u c)
    → Clauses depth p.locked.of_clauses p.locked.clauses
    → IsContract depth (t ∷ u) c
contract_from depth Z t u c is p h =
    let l = p.locked in
    let inner : List Placed = (token.Word keyword.Locks, l.locks) ∷ (Name l.value_name, l.held)
    ∷ (token.Sign symbol.OpenBrace, l.begin) ∷ (l.of_clauses ++ ((token.Sign symbol.CloseBrace, l.end) ∷ [])) in
    let tokens : List Placed = (Name p.name, p.place) ∷ (token.Sign symbol.OpenParen, p.first)
    ∷ (p.of_params ++ ((token.Sign symbol.CloseParen, p.last) ∷ inner)) in
    same_part (IsContract depth) (t ∷ u) ((token.Word keyword.Contract, t.1) ∷ tokens) c
    (contract_of (word p.name p.place) p.groups (word l.value_name l.held) l.clauses)
    (ap (λ t. t ∷ u) (word_is keyword.Contract t is) ∙ ap (λ u. (token.Word keyword.Contract, t.1) ∷ u)
    (p.all ∙ ap (λ w. (Name p.name, p.place) ∷ (token.Sign symbol.OpenParen, p.first)
    ∷ (p.of_params ++ ((token.Sign symbol.CloseParen, p.last) ∷ w))) l.all)) l.value
    (contract t.1 p.name p.place p.first p.last l.locks l.value_name l.held l.begin l.end p.reads_params h)

pub of_contract : (depth : ℕ) (t : Placed) (u : List Placed) (c : Contract) → is_word keyword.Contract t ≡ true
    → Contract_part (Reads Or depth) u c → IsContract depth (t ∷ u) c
of_contract depth t u c is h =
    let p = contract_parts (Reads Or depth) u c h in
    contract_from depth (Reads Or depth) t u c is p
    (of_clauses depth p.locked.of_clauses p.locked.clauses p.locked.reads_clauses)

pub any_contract : (t : Placed) (u : List Placed) (c : Contract) → is_word keyword.Contract t ≡ true
    → Contract_part O u c → Any IsContract (t ∷ u) c
any_contract t u c is h =
    let p = contract_parts O u c h in
    let a = any_clauses p.locked.of_clauses p.locked.clauses p.locked.reads_clauses in
    (a.0, contract_from a.0 O t u c is p a.1)

pub to_contracts : (depth : ℕ) (Z : Part Placed Expr) → Within (Reads Or depth) Z
    → Within (Contracts depth) (Contracts_part Z)
to_contracts depth Z inside u _ (a_contract {c = c} h) =
    led_one (is_word keyword.Contract) (λ t. Contract_part Z) u c (to_contract depth Z inside u c h)
to_contracts depth Z inside _ _ (more_contracts {u = u} {w = w} {contracts = contracts} {c = c} h k) =
    led_more (is_word keyword.Contract) (λ t. Contract_part Z) u w contracts c
    (to_contracts depth Z inside u contracts h) (to_contract depth Z inside w c k)

pub of_contracts : (depth : ℕ) → Within (Contracts_part (Reads Or depth)) (Contracts depth)
of_contracts depth = repeated_reads (is_word keyword.Contract) (λ t. Contract_part (Reads Or depth)) (Contracts depth)
    (λ t w c is h. a_contract (of_contract depth t w c is h))
    (λ u w t contracts c h is k. more_contracts h (of_contract depth t w c is k))

pub any_contracts : Within (Contracts_part O) (Any Contracts)
any_contracts = repeated_reads (is_word keyword.Contract) (λ t. Contract_part O) (Any Contracts)
    (λ t w c is h. let a = any_contract t w c is h in (a.0, a_contract a.1))
    (λ u w t contracts c h is k.
    let both = together Contracts IsContract contracts_grow contract_grows u (t ∷ w) contracts c h
    (any_contract t w c is k) in
    (both.0, more_contracts both.1 both.2))

-- ---- the whole text

to_file : (depth : ℕ) (Z : Part Placed Expr) → Within (Reads Or depth) Z → Within (File depth) (File_part Z)
to_file depth Z inside u _ (file {contracts = contracts} h) =
    made_of source_of (Contracts_part Z) u contracts (to_contracts depth Z inside u contracts h)

of_file : (depth : ℕ) → Within (File_part (Reads Or depth)) (File depth)
of_file depth u s h =
    let m = made_is source_of (Contracts_part (Reads Or depth)) u s h in
    subst (λ s. File depth u s) (sym m.2) (file (of_contracts depth u m.0 m.1))

any_file : Within (File_part O) (Any File)
any_file u s h =
    let m = made_is source_of (Contracts_part O) u s h in
    let a = any_contracts u m.0 m.1 in
    (a.0, subst (λ s. File a.0 u s) (sym m.2) (file a.1))

decides_file_by : (depth : ℕ) (expr : Reader Expr) → Comes Or depth expr → (ts : List Placed)
    → Decides Fine (File depth) (Any File) OrContract ts (file_by expr ts)
decides_file_by depth expr comes ts = decides_same Fine (File depth) (Any File)
    (File_part (Reads Or depth)) (File_part O)
    OrContract OrContract ts (λ t c. c) (of_file depth) any_file
    (to_file depth (Reads Or depth) (λ u v h. h))
    (λ u s h. to_file h.0 O (within_any (Reads Or) h.0) u s h.1) (file_by expr ts)
    ((file_rule depth expr comes).comes ts)

-- A text comes out as the parser goes over its tokens.
pub decides_file : (depth : ℕ) (ts : List Placed)
    → Decides Fine (File depth) (Any File) OrContract ts (file_at depth ts)
decides_file depth = decides_file_by depth (expr_at depth) (decides_expr_at depth)

pub decides_file_within : (ts : List Placed)
    → Decides Fine (File 32) (λ u s. (depth : ℕ) × File depth u s) OrContract ts (file_at 32 ts)
decides_file_within = decides_file 32
