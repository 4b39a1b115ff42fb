-- The grammar of Ivy, over tokens with their places. Public statements rest on this file.
--
--     file = contract { contract }
--     contract = "contract" name "(" [ params ] ")" "locks" name "{" clause { clause } "}"
--     params = group { "," group }          group = name { "," name } ":" name
--     clause = "clause" name "(" [ params ] ")" [ "requires" req { "," req } ] "{" stmt { stmt } "}"
--     req = name ":" expr "of" expr
--     stmt = "verify" expr | "lock" name "with" expr | "unlock" name
use Rattle.std.specs.Prelude.{◌≡◌, ℕ, suc, true, false, List, [], ◌∷◌, ◌++◌, Option, Some, None}
use Rattle.ivy_syntax.specs.declared.tree.Expr.{Expr}
use Rattle.ivy_syntax.specs.declared.tree.Form.{Form}
use Rattle.ivy_syntax.specs.declared.tree.Form.TheVariants as forms
use Rattle.ivy_syntax.specs.declared.tree.Op.{Op}
use Rattle.ivy_syntax.specs.declared.tree.Op.TheVariants as ops
use Rattle.ivy_syntax.specs.declared.tree.Word.{Word}
use Rattle.ivy_syntax.specs.declared.tree.Group.{Group}
use Rattle.ivy_syntax.specs.declared.tree.Req.{Req}
use Rattle.ivy_syntax.specs.declared.tree.Stmt.{Stmt}
use Rattle.ivy_syntax.specs.declared.tree.Stmt.TheVariants as statements
use Rattle.ivy_syntax.specs.declared.tree.ClauseTree.{ClauseTree}
use Rattle.ivy_syntax.specs.declared.tree.Contract.{Contract}
use Rattle.ivy_syntax.specs.declared.tree.Source.{Source}
use Rattle.ivy_syntax.specs.declared.lexeme.Keyword.TheVariants as keyword
use Rattle.ivy_syntax.specs.declared.lexeme.Symbol.TheVariants as symbol
use Rattle.ivy_syntax.specs.declared.lexeme.Operator.{Operator}
use Rattle.ivy_syntax.specs.declared.lexeme.Operator.TheVariants as operator
use Rattle.ivy_syntax.specs.declared.level.Level.{Level}
use Rattle.ivy_syntax.specs.declared.level.Level.TheVariants.{Or, And, Comparison, Shift, Sum, Term, Unary}
use Rattle.ivy_syntax.specs.Token.{Token, Name, Number, Hex, Quoted}
use Rattle.ivy_syntax.specs.Token as token
use Rattle.ivy_syntax.specs.Tokens.{Placed}

-- ---- operators

-- The levels of expressions, from the one that binds least:
--
--     expr = and { "||" and }                  and = cmp { "&&" cmp }
--     cmp = shift [ ("=="|"!="|"<"|"<="|">"|">=") shift ]
--     shift = sum { ("<<"|">>") sum }          sum = term { ("+"|"-") term }
--     term = unary { ("*"|"/"|"%") unary }     unary = ("!"|"-") unary | atom
--
-- The next level, which binds more.
abbrev pub below : Level → Level
below Or = And
below And = Comparison
below Comparison = Shift
below Shift = Sum
below Sum = Term
below Term = Unary
below Unary = Unary

-- How strongly a level binds, from 1 on.
abbrev pub rank : Level → ℕ
rank Or = 1
rank And = 2
rank Comparison = 3
rank Shift = 4
rank Sum = 5
rank Term = 6
rank Unary = 7

-- the operator of the tree that stands between operands of this level, and the level
abbrev pub binary : Operator → Option (Level × Op)
binary operator.Or = Some (Or, ops.Or)
binary operator.And = Some (And, ops.And)
binary operator.Equal = Some (Comparison, ops.Equal)
binary operator.NotEqual = Some (Comparison, ops.NotEqual)
binary operator.Less = Some (Comparison, ops.Less)
binary operator.LessEqual = Some (Comparison, ops.LessEqual)
binary operator.Greater = Some (Comparison, ops.Greater)
binary operator.GreaterEqual = Some (Comparison, ops.GreaterEqual)
binary operator.ShiftLeft = Some (Shift, ops.ShiftLeft)
binary operator.ShiftRight = Some (Shift, ops.ShiftRight)
binary operator.Plus = Some (Sum, ops.Add)
binary operator.Minus = Some (Sum, ops.Sub)
binary operator.Star = Some (Term, ops.Mul)
binary operator.Slash = Some (Term, ops.Div)
binary operator.Percent = Some (Term, ops.Rem)
binary operator.Not = None

-- the operator of the tree that stands before an operand
abbrev pub unary : Operator → Option Op
unary operator.Not = Some ops.Not
unary operator.Minus = Some ops.Negate
unary _ = None

-- ---- expressions

-- an expression of one token, from the token on
abbrev pub single : ℕ → Form → Expr
single at form = record { from = at; at = at; form = form }

-- one expression, an operator at this place, and another
abbrev pub between : ℕ → Op → Expr → Expr → Expr
between at op left right = record { from = left.from; at = at; form = forms.Binary op left right }

-- an operator at this place, before an expression
abbrev pub before : ℕ → Op → Expr → Expr
before at op arg = record { from = at; at = at; form = forms.Unary op arg }

-- an expression that an opening parenthesis at this place stands before
abbrev pub enclosed : ℕ → Expr → Expr
enclosed at e = record e { from = at }

-- an expression of one token
pub data IsSingle : Token → Form → Type 0 where
  a_number : (n : ℕ) → IsSingle (Number n) (forms.Number n)
  a_true : IsSingle (token.Word keyword.True) (forms.Truth true)
  a_false : IsSingle (token.Word keyword.False) (forms.Truth false)
  a_hex : (bytes : List ℕ) → IsSingle (Hex bytes) (forms.Hex bytes)
  a_text : (bytes : List ℕ) → IsSingle (Quoted bytes) (forms.Quoted bytes)
  a_name : (name : List ℕ) → IsSingle (Name name) (forms.Name name)

mutual
  -- By the rule of this level the tokens read as this expression. So many parentheses, calls, lists and unary operators
  -- may stand within one another there.
  --
  --     atom = number | "true" | "false" | hex | text | name | name "(" [ expr { "," expr } ] ")"
  --          | "[" expr { "," expr } "]" | "(" expr ")"
  pub data Reads : Level → (depth : ℕ) → List Placed → Expr → Type 0 where
    alone : {level : Level} {depth : ℕ} {u : List Placed} {e : Expr}
        → Reads (below level) depth u e
        → Reads level depth u e
    -- Operators of one level group to the left.
    joined : {level : Level} {depth : ℕ} {u w : List Placed} {a b : Expr} {op : Op} (o : Operator) (at : ℕ)
        → binary o ≡ Some (level, op)
        → (level ≡ Comparison → ⊥)
        → Reads level depth u a
        → Reads (below level) depth w b
        → Reads level depth (u ++ ((token.Operation o, at) ∷ w)) (between at op a b)
    compared : {depth : ℕ} {u w : List Placed} {a b : Expr} {op : Op} (o : Operator) (at : ℕ)
        → binary o ≡ Some (Comparison, op)
        → Reads Shift depth u a
        → Reads Shift depth w b
        → Reads Comparison depth (u ++ ((token.Operation o, at) ∷ w)) (between at op a b)
    prefixed : {depth : ℕ} {u : List Placed} {e : Expr} {op : Op} (o : Operator) (at : ℕ)
        → unary o ≡ Some op
        → Reads Unary depth u e
        → Reads Unary (suc depth) ((token.Operation o, at) ∷ u) (before at op e)
    one_token : {depth : ℕ} {t : Token} {form : Form} (at : ℕ)
        → IsSingle t form
        → Reads Unary depth ((t, at) ∷ []) (single at form)
    empty_call : {depth : ℕ} (name : List ℕ) (at first last : ℕ)
        → Reads Unary (suc depth)
        ((Name name, at) ∷ (token.Sign symbol.OpenParen, first) ∷ (token.Sign symbol.CloseParen, last) ∷ [])
        (single at (forms.Call name []))
    call : {depth : ℕ} {u : List Placed} {args : List Expr} (name : List ℕ) (at first last : ℕ)
        → Members depth u args
        → Reads Unary (suc depth) ((Name name, at) ∷ (token.Sign symbol.OpenParen, first)
        ∷ (u ++ ((token.Sign symbol.CloseParen, last) ∷ []))) (single at (forms.Call name args))
    members : {depth : ℕ} {u : List Placed} {items : List Expr} (at close : ℕ)
        → Members depth u items
        → Reads Unary (suc depth) ((token.Sign symbol.OpenBracket, at)
        ∷ (u ++ ((token.Sign symbol.CloseBracket, close) ∷ []))) (single at (forms.Members items))
    parentheses : {depth : ℕ} {u : List Placed} {e : Expr} (at close : ℕ)
        → Reads Or depth u e
        → Reads Unary (suc depth) ((token.Sign symbol.OpenParen, at)
        ∷ (u ++ ((token.Sign symbol.CloseParen, close) ∷ []))) (enclosed at e)

  -- expr { "," expr }
  pub data Members : (depth : ℕ) → List Placed → List Expr → Type 0 where
    member : {depth : ℕ} {u : List Placed} {e : Expr}
        → Reads Or depth u e
        → Members depth u (e ∷ [])
    more_members : {depth : ℕ} {u w : List Placed} {items : List Expr} {e : Expr} (at : ℕ)
        → Members depth u items
        → Reads Or depth w e
        → Members depth (u ++ ((token.Sign symbol.Comma, at) ∷ w)) (items ++ (e ∷ []))

-- ---- parameters

abbrev pub word : List ℕ → ℕ → Word
word name at = record { name = name; at = at }

-- name { "," name }
pub data Names : List Placed → List Word → Type 0 where
  a_name_alone : (name : List ℕ) (at : ℕ) → Names ((Name name, at) ∷ []) (word name at ∷ [])
  more_names : {u : List Placed} {words : List Word} (comma : ℕ) (name : List ℕ) (at : ℕ)
      → Names u words
      → Names (u ++ ((token.Sign symbol.Comma, comma) ∷ (Name name, at) ∷ [])) (words ++ (word name at ∷ []))

pub data IsGroup : List Placed → Group → Type 0 where
  group : {u : List Placed} {words : List Word} (colon : ℕ) (kind : List ℕ) (at : ℕ)
      → Names u words
      → IsGroup (u ++ ((token.Sign symbol.Colon, colon) ∷ (Name kind, at) ∷ []))
      (record { names = words; kind = word kind at })

-- group { "," group }
pub data Groups : List Placed → List Group → Type 0 where
  a_group : {u : List Placed} {g : Group}
      → IsGroup u g
      → Groups u (g ∷ [])
  more_groups : {u w : List Placed} {groups : List Group} {g : Group} (comma : ℕ)
      → Groups u groups
      → IsGroup w g
      → Groups (u ++ ((token.Sign symbol.Comma, comma) ∷ w)) (groups ++ (g ∷ []))

-- [ params ]
pub data Params : List Placed → List Group → Type 0 where
  no_params : Params [] []
  params : {u : List Placed} {groups : List Group}
      → Groups u groups
      → Params u groups

-- ---- clauses

pub data IsReq (depth : ℕ) : List Placed → Req → Type 0 where
  req : {u w : List Placed} {amount asset : Expr} (name : List ℕ) (at colon of : ℕ)
      → Reads Or depth u amount
      → Reads Or depth w asset
      → IsReq depth ((Name name, at) ∷ (token.Sign symbol.Colon, colon) ∷ (u ++ ((token.Word keyword.Of, of) ∷ w)))
      (record { name = word name at; amount = amount; asset = asset })

-- req { "," req }
pub data ReqList (depth : ℕ) : List Placed → List Req → Type 0 where
  a_req : {u : List Placed} {r : Req}
      → IsReq depth u r
      → ReqList depth u (r ∷ [])
  more_reqs : {u w : List Placed} {reqs : List Req} {r : Req} (comma : ℕ)
      → ReqList depth u reqs
      → IsReq depth w r
      → ReqList depth (u ++ ((token.Sign symbol.Comma, comma) ∷ w)) (reqs ++ (r ∷ []))

-- [ "requires" req { "," req } ]
pub data Requires (depth : ℕ) : List Placed → List Req → Type 0 where
  no_requires : Requires depth [] []
  requires : {u : List Placed} {reqs : List Req} (at : ℕ)
      → ReqList depth u reqs
      → Requires depth ((token.Word keyword.Requires, at) ∷ u) reqs

pub data IsStmt (depth : ℕ) : List Placed → Stmt → Type 0 where
  verify : {u : List Placed} {e : Expr} (at : ℕ)
      → Reads Or depth u e
      → IsStmt depth ((token.Word keyword.Verify, at) ∷ u) (statements.Verify at e)
  lock : {u : List Placed} {e : Expr} (at : ℕ) (name : List ℕ) (place with : ℕ)
      → Reads Or depth u e
      → IsStmt depth ((token.Word keyword.Lock, at) ∷ (Name name, place) ∷ (token.Word keyword.With, with) ∷ u)
      (statements.Lock at (word name place) e)
  unlock : (at : ℕ) (name : List ℕ) (place : ℕ)
      → IsStmt depth ((token.Word keyword.Unlock, at) ∷ (Name name, place) ∷ []) (statements.Unlock at
      (word name place))

-- stmt { stmt }
pub data Stmts (depth : ℕ) : List Placed → List Stmt → Type 0 where
  a_stmt : {u : List Placed} {s : Stmt}
      → IsStmt depth u s
      → Stmts depth u (s ∷ [])
  more_stmts : {u w : List Placed} {stmts : List Stmt} {s : Stmt}
      → Stmts depth u stmts
      → IsStmt depth w s
      → Stmts depth (u ++ w) (stmts ++ (s ∷ []))

pub data IsClause (depth : ℕ) : List Placed → ClauseTree → Type 0 where
  clause : {u v w : List Placed} {groups : List Group} {reqs : List Req} {stmts : List Stmt}
      (at : ℕ) (name : List ℕ) (place first last begin end : ℕ)
      → Params u groups
      → Requires depth v reqs
      → Stmts depth w stmts
      → IsClause depth ((token.Word keyword.Clause, at) ∷ (Name name, place) ∷ (token.Sign symbol.OpenParen, first)
      ∷ (u ++ ((token.Sign symbol.CloseParen, last) ∷ (v ++ ((token.Sign symbol.OpenBrace, begin)
      ∷ (w ++ ((token.Sign symbol.CloseBrace, end) ∷ [])))))))
      (record { name = word name place; params = groups; reqs = reqs; stmts = stmts })

-- clause { clause }
pub data Clauses (depth : ℕ) : List Placed → List ClauseTree → Type 0 where
  a_clause : {u : List Placed} {c : ClauseTree}
      → IsClause depth u c
      → Clauses depth u (c ∷ [])
  more_clauses : {u w : List Placed} {clauses : List ClauseTree} {c : ClauseTree}
      → Clauses depth u clauses
      → IsClause depth w c
      → Clauses depth (u ++ w) (clauses ++ (c ∷ []))

-- ---- contracts

pub data IsContract (depth : ℕ) : List Placed → Contract → Type 0 where
  contract : {u w : List Placed} {groups : List Group} {clauses : List ClauseTree}
      (at : ℕ) (name : List ℕ) (place first last locks : ℕ) (value : List ℕ) (held begin end : ℕ)
      → Params u groups
      → Clauses depth w clauses
      → IsContract depth ((token.Word keyword.Contract, at) ∷ (Name name, place) ∷ (token.Sign symbol.OpenParen, first)
      ∷ (u ++ ((token.Sign symbol.CloseParen, last) ∷ (token.Word keyword.Locks, locks) ∷ (Name value, held)
      ∷ (token.Sign symbol.OpenBrace, begin) ∷ (w ++ ((token.Sign symbol.CloseBrace, end) ∷ [])))))
      (record { name = word name place; params = groups; value = word value held; clauses = clauses })

-- contract { contract }
pub data Contracts (depth : ℕ) : List Placed → List Contract → Type 0 where
  a_contract : {u : List Placed} {c : Contract}
      → IsContract depth u c
      → Contracts depth u (c ∷ [])
  more_contracts : {u w : List Placed} {contracts : List Contract} {c : Contract}
      → Contracts depth u contracts
      → IsContract depth w c
      → Contracts depth (u ++ w) (contracts ++ (c ∷ []))

-- the whole text
pub data File (depth : ℕ) : List Placed → Source → Type 0 where
  file : {u : List Placed} {contracts : List Contract}
      → Contracts depth u contracts
      → File depth u (record { contracts = contracts })
