-- The tokens of a source: none of them stops a text, and the last one is a closing brace.
use Rattle.std.specs.Prelude.{◌≡◌, ℕ, Bool, true, false, List, [], ◌∷◌, ◌++◌, refl}
use Rattle.std.specs.List.{AllByRecursion}
use Rattle.std.proofs.Common.{sym, ap, ◌∙◌}
use mathlib.Core.List.{append_assoc}
use Rattle.grammars.specs.Sequence.{all_joined}
use Rattle.ivy_syntax.specs.declared.tree.Expr.{Expr}
use Rattle.ivy_syntax.specs.declared.tree.Form.{Form}
use Rattle.ivy_syntax.specs.declared.tree.Word.{Word}
use Rattle.ivy_syntax.specs.declared.tree.Group.{Group}
use Rattle.ivy_syntax.specs.declared.tree.Req.{Req}
use Rattle.ivy_syntax.specs.declared.tree.Stmt.{Stmt}
use Rattle.ivy_syntax.specs.declared.tree.ClauseTree.{ClauseTree}
use Rattle.ivy_syntax.specs.declared.tree.Contract.{Contract}
use Rattle.ivy_syntax.specs.declared.tree.Source.{Source}
use Rattle.ivy_syntax.specs.declared.lexeme.Keyword.TheVariants as keyword
use Rattle.ivy_syntax.specs.declared.lexeme.Symbol.TheVariants as symbol
use Rattle.ivy_syntax.specs.Token.{Token, Operation, Name, Sign, End, Bad}
use Rattle.ivy_syntax.specs.Token as token
use Rattle.ivy_syntax.specs.Tokens.{Placed}
use Rattle.ivy_syntax.specs.declared.level.Level.{Level}
use Rattle.ivy_syntax.specs.Grammar.{Reads, alone, joined, compared, prefixed, one_token, empty_call, call}
use Rattle.ivy_syntax.specs.Grammar.{members, parentheses, Members, member, more_members, Names, a_name_alone}
use Rattle.ivy_syntax.specs.Grammar.{more_names, IsGroup, group, Groups, a_group, more_groups, Params, no_params}
use Rattle.ivy_syntax.specs.Grammar.{params}
use Rattle.ivy_syntax.specs.Grammar.{IsReq, req, ReqList, a_req, more_reqs, Requires, no_requires, requires, IsStmt}
use Rattle.ivy_syntax.specs.Grammar.{verify, lock, unlock, Stmts, a_stmt, more_stmts, IsClause, clause, Clauses}
use Rattle.ivy_syntax.specs.Grammar.{a_clause, more_clauses, IsContract, contract, Contracts, a_contract}
use Rattle.ivy_syntax.specs.Grammar.{more_contracts, File, file}
use Rattle.ivy_syntax.specs.Grammar.{IsSingle, a_number, a_true, a_false, a_hex, a_text, a_name}

-- the end of a text, or a byte with which no token begins
abbrev pub stops : Token → Bool
stops End = true
stops Bad = true
stops _ = false

-- a token that stops no text
abbrev pub IsOpen : Placed → Type 0
IsOpen t = stops t.0 ≡ false

abbrev pub AreOpen : List Placed → Type 0
AreOpen ts = AllByRecursion IsOpen ts

joined_open : (u w : List Placed) → AreOpen u → AreOpen w → AreOpen (u ++ w)
joined_open = all_joined IsOpen

-- ---- expressions

single_open : (t : Token) (form : Form) → IsSingle t form → stops t ≡ false
single_open _ _ (a_number n) = refl
single_open _ _ a_true = refl
single_open _ _ a_false = refl
single_open _ _ (a_hex bytes) = refl
single_open _ _ (a_text bytes) = refl
single_open _ _ (a_name name) = refl

mutual
  expr_open : {level : Level} {depth : ℕ} {u : List Placed} {e : Expr} → Reads level depth u e → AreOpen u
  expr_open (alone h) = expr_open h
  expr_open (joined {u = u} {w = w} o at is not h k) =
      joined_open u ((Operation o, at) ∷ w) (expr_open h) (refl, expr_open k)
  expr_open (compared {u = u} {w = w} o at is h k) =
      joined_open u ((Operation o, at) ∷ w) (expr_open h) (refl, expr_open k)
  expr_open (prefixed o at is h) = (refl, expr_open h)
  expr_open (one_token {t = t} {form = form} at is) = (single_open t form is, tt)
  expr_open (empty_call name at first last) = (refl, (refl, (refl, tt)))
  expr_open (call {u = u} name at first last h) =
      (refl, (refl, joined_open u ((Sign symbol.CloseParen, last) ∷ []) (members_open h) (refl, tt)))
  expr_open (members {u = u} at close h) =
      (refl, joined_open u ((Sign symbol.CloseBracket, close) ∷ []) (members_open h) (refl, tt))
  expr_open (parentheses {u = u} at close h) =
      (refl, joined_open u ((Sign symbol.CloseParen, close) ∷ []) (expr_open h) (refl, tt))

  members_open : {depth : ℕ} {u : List Placed} {items : List Expr} → Members depth u items → AreOpen u
  members_open (member h) = expr_open h
  members_open (more_members {u = u} {w = w} at h k) =
      joined_open u ((Sign symbol.Comma, at) ∷ w) (members_open h) (refl, expr_open k)

-- ---- parameters

names_open : {u : List Placed} {words : List Word} → Names u words → AreOpen u
names_open (a_name_alone name at) = (refl, tt)
names_open (more_names {u = u} comma name at h) =
    joined_open u ((Sign symbol.Comma, comma) ∷ (Name name, at) ∷ []) (names_open h) (refl, (refl, tt))

group_open : {u : List Placed} {g : Group} → IsGroup u g → AreOpen u
group_open (group {u = u} colon kind at h) =
    joined_open u ((Sign symbol.Colon, colon) ∷ (Name kind, at) ∷ []) (names_open h) (refl, (refl, tt))

groups_open : {u : List Placed} {groups : List Group} → Groups u groups → AreOpen u
groups_open (a_group h) = group_open h
groups_open (more_groups {u = u} {w = w} comma h k) =
    joined_open u ((Sign symbol.Comma, comma) ∷ w) (groups_open h) (refl, group_open k)

params_open : {u : List Placed} {groups : List Group} → Params u groups → AreOpen u
params_open no_params = tt
params_open (params h) = groups_open h

-- ---- clauses

req_open : {depth : ℕ} {u : List Placed} {r : Req} → IsReq depth u r → AreOpen u
req_open (req {u = u} {w = w} name at colon of h k) =
    (refl, (refl, joined_open u ((token.Word keyword.Of, of) ∷ w) (expr_open h) (refl, expr_open k)))

reqs_open : {depth : ℕ} {u : List Placed} {reqs : List Req} → ReqList depth u reqs → AreOpen u
reqs_open (a_req h) = req_open h
reqs_open (more_reqs {u = u} {w = w} comma h k) =
    joined_open u ((Sign symbol.Comma, comma) ∷ w) (reqs_open h) (refl, req_open k)

requires_open : {depth : ℕ} {u : List Placed} {reqs : List Req} → Requires depth u reqs → AreOpen u
requires_open no_requires = tt
requires_open (requires at h) = (refl, reqs_open h)

stmt_open : {depth : ℕ} {u : List Placed} {s : Stmt} → IsStmt depth u s → AreOpen u
stmt_open (verify at h) = (refl, expr_open h)
stmt_open (lock at name place with h) = (refl, (refl, (refl, expr_open h)))
stmt_open (unlock at name place) = (refl, (refl, tt))

stmts_open : {depth : ℕ} {u : List Placed} {stmts : List Stmt} → Stmts depth u stmts → AreOpen u
stmts_open (a_stmt h) = stmt_open h
stmts_open (more_stmts {u = u} {w = w} h k) = joined_open u w (stmts_open h) (stmt_open k)

clause_open : {depth : ℕ} {u : List Placed} {c : ClauseTree} → IsClause depth u c → AreOpen u
clause_open (clause {u = u} {v = v} {w = w} at name place first last begin end h k l) = (
  refl,
  (
    refl,
    (
      refl,
      joined_open u behind (params_open h) (
        refl,
        joined_open v body (requires_open k)
            (refl, joined_open w ((Sign symbol.CloseBrace, end) ∷ []) (stmts_open l) (refl, tt)),
      ),
    ),
  ),
)
  where
    body : List Placed
    body = (Sign symbol.OpenBrace, begin) ∷ (w ++ ((Sign symbol.CloseBrace, end) ∷ []))

    behind : List Placed
    behind = (Sign symbol.CloseParen, last) ∷ (v ++ body)

clauses_open : {depth : ℕ} {u : List Placed} {clauses : List ClauseTree} → Clauses depth u clauses → AreOpen u
clauses_open (a_clause h) = clause_open h
clauses_open (more_clauses {u = u} {w = w} h k) = joined_open u w (clauses_open h) (clause_open k)

-- ---- contracts

contract_open : {depth : ℕ} {u : List Placed} {c : Contract} → IsContract depth u c → AreOpen u
contract_open (contract {u = u} {w = w} at name place first last locks value held begin end h k) =
    (refl, (refl, (refl, joined_open u behind (params_open h) (refl, (refl, (refl, (refl, body_open)))))))
  where
    body : List Placed
    body = w ++ ((Sign symbol.CloseBrace, end) ∷ [])

    body_open : AreOpen body
    body_open = joined_open w ((Sign symbol.CloseBrace, end) ∷ []) (clauses_open k) (refl, tt)

    behind : List Placed
    behind = (Sign symbol.CloseParen, last) ∷ (token.Word keyword.Locks, locks) ∷ (Name value, held)
        ∷ (Sign symbol.OpenBrace, begin) ∷ body

contracts_open : {depth : ℕ} {u : List Placed} {contracts : List Contract} → Contracts depth u contracts → AreOpen u
contracts_open (a_contract h) = contract_open h
contracts_open (more_contracts {u = u} {w = w} h k) = joined_open u w (contracts_open h) (contract_open k)

-- No token of a source stops a text.
pub file_open : {depth : ℕ} {u : List Placed} {s : Source} → File depth u s → AreOpen u
file_open (file h) = contracts_open h

-- ---- the last token

-- the tokens end with a closing brace
pub record EndsInBrace (u : List Placed) : Type 0 where
  pub before : List Placed
  pub place : ℕ
  pub all : u ≡ before ++ ((Sign symbol.CloseBrace, place) ∷ [])

contract_ends : {depth : ℕ} {u : List Placed} {c : Contract} → IsContract depth u c → EndsInBrace u
contract_ends (contract {u = u} {w = w} at name place first last locks value held begin end h k) = record {
  before = (token.Word keyword.Contract, at) ∷ (Name name, place) ∷ (Sign symbol.OpenParen, first)
      ∷ (u ++ (header ++ w));
  place = end;
  all = ap (λ r. (token.Word keyword.Contract, at) ∷ (Name name, place) ∷ (Sign symbol.OpenParen, first) ∷ r)
      (sym (append_assoc u (header ++ w) ((Sign symbol.CloseBrace, end) ∷ [])));
}
  where
    header : List Placed
    header = (Sign symbol.CloseParen, last) ∷ (token.Word keyword.Locks, locks) ∷ (Name value, held)
        ∷ (Sign symbol.OpenBrace, begin) ∷ []

contracts_end : {depth : ℕ} {u : List Placed} {contracts : List Contract} → Contracts depth u contracts
    → EndsInBrace u
contracts_end (a_contract h) = contract_ends h
contracts_end (more_contracts {u = u} {w = w} h k) =
    let e = contract_ends k in
    record {
      before = u ++ e.before;
      place = e.place;
      all = ap (λ w. u ++ w) e.all ∙ sym (append_assoc u e.before ((Sign symbol.CloseBrace, e.place) ∷ []));
    }

pub file_ends : {depth : ℕ} {u : List Placed} {s : Source} → File depth u s → EndsInBrace u
file_ends (file h) = contracts_end h
