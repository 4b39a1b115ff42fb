-- The tokens that a source is printed with. Public statements rest on this file.
use Rattle.std.specs.Prelude.{ℕ, Bool, true, false, nat_lt, List, [], ◌∷◌, ◌++◌, map}
use Rattle.std.specs.List.{flat_map}
use Rattle.ivy_syntax.specs.declared.tree.Expr.{Expr, fold-Expr}
use Rattle.ivy_syntax.specs.declared.tree.Form.TheOpen.{Form-F}
use Rattle.ivy_syntax.specs.declared.tree.Op.{Op}
use Rattle.ivy_syntax.specs.declared.tree.Op.TheVariants as ops
use Rattle.ivy_syntax.specs.declared.tree.Word.{Word}
use Rattle.ivy_syntax.specs.declared.tree.Group.{Group}
use Rattle.ivy_syntax.specs.declared.tree.Req.{Req}
use Rattle.ivy_syntax.specs.declared.tree.Stmt.{Stmt}
use Rattle.ivy_syntax.specs.declared.tree.Stmt.TheVariants as statements
use Rattle.ivy_syntax.specs.declared.tree.ClauseTree.{ClauseTree}
use Rattle.ivy_syntax.specs.declared.tree.Contract.{Contract}
use Rattle.ivy_syntax.specs.declared.tree.Source.{Source}
use Rattle.ivy_syntax.specs.declared.lexeme.Keyword.TheVariants as keyword
use Rattle.ivy_syntax.specs.declared.lexeme.Symbol.TheVariants as symbol
use Rattle.ivy_syntax.specs.declared.lexeme.Operator.{Operator}
use Rattle.ivy_syntax.specs.declared.lexeme.Operator.TheVariants as operator
use Rattle.ivy_syntax.specs.Token.{Token, Operation, Name, Number, Hex, Quoted}
use Rattle.ivy_syntax.specs.Token as token
use Rattle.ivy_syntax.specs.declared.level.Level.{Level}
use Rattle.ivy_syntax.specs.declared.level.Level.TheVariants.{Or, And, Comparison, Shift, Sum, Term, Unary}
use Rattle.ivy_syntax.specs.Grammar.{below, rank}

-- parts with commas between them
abbrev pub separated : List (List Token) → List Token
separated [] = []
separated (part ∷ []) = part
separated (part ∷ next ∷ parts) = part ++ (token.Sign symbol.Comma ∷ separated (next ∷ parts))

-- ---- expressions

-- as it is written
abbrev pub operator_of : Op → Operator
operator_of ops.Or = operator.Or
operator_of ops.And = operator.And
operator_of ops.Equal = operator.Equal
operator_of ops.NotEqual = operator.NotEqual
operator_of ops.Less = operator.Less
operator_of ops.LessEqual = operator.LessEqual
operator_of ops.Greater = operator.Greater
operator_of ops.GreaterEqual = operator.GreaterEqual
operator_of ops.ShiftLeft = operator.ShiftLeft
operator_of ops.ShiftRight = operator.ShiftRight
operator_of ops.Add = operator.Plus
operator_of ops.Sub = operator.Minus
operator_of ops.Mul = operator.Star
operator_of ops.Div = operator.Slash
operator_of ops.Rem = operator.Percent
operator_of ops.Not = operator.Not
operator_of ops.Negate = operator.Minus

-- the level of an operator
abbrev pub level_of : Op → Level
level_of ops.Or = Or
level_of ops.And = And
level_of ops.Equal = Comparison
level_of ops.NotEqual = Comparison
level_of ops.Less = Comparison
level_of ops.LessEqual = Comparison
level_of ops.Greater = Comparison
level_of ops.GreaterEqual = Comparison
level_of ops.ShiftLeft = Shift
level_of ops.ShiftRight = Shift
level_of ops.Add = Sum
level_of ops.Sub = Sum
level_of ops.Mul = Term
level_of ops.Div = Term
level_of ops.Rem = Term
level_of ops.Not = Unary
level_of ops.Negate = Unary

-- The level that reads the left operand of an operator of this level: its own, but for comparisons, which do not group.
abbrev pub left_level : Level → Level
left_level Comparison = Shift
left_level level = level

-- What has an operator of the one level stands in parentheses where the other, which binds more, reads it.
abbrev pub is_enclosed : (own place : Level) → Bool
is_enclosed own place = nat_lt (rank own) (rank place)

abbrev pub enclosed_if : Bool → List Token → List Token
enclosed_if true tokens = token.Sign symbol.OpenParen ∷ (tokens ++ (token.Sign symbol.CloseParen ∷ []))
enclosed_if false tokens = tokens

-- the tokens of a part, where this level reads it
abbrev pub Show : Type 0
Show = Level → List Token

-- a call, a list
abbrev pub call_tokens : List ℕ → List Show → List Token
call_tokens name args = Name name ∷ token.Sign symbol.OpenParen
    ∷ (separated (map (λ arg. arg Or) args) ++ (token.Sign symbol.CloseParen ∷ []))

abbrev pub members_tokens : List Show → List Token
members_tokens items = token.Sign symbol.OpenBracket
    ∷ (separated (map (λ item. item Or) items) ++ (token.Sign symbol.CloseBracket ∷ []))

-- two operands of an operator of this level
abbrev pub binary_tokens : Level → Op → Show → Show → List Token
binary_tokens level op left right =
    left (left_level level) ++ (Operation (operator_of op) ∷ right (below level))

-- The tokens of an expression by those of its parts. An operand before which an operator stands is read by `unary`.
abbrev pub tokens_by : Form-F Show Show → Show
tokens_by (Form-F.Number n) place = Number n ∷ []
tokens_by (Form-F.Truth true) place = token.Word keyword.True ∷ []
tokens_by (Form-F.Truth false) place = token.Word keyword.False ∷ []
tokens_by (Form-F.Hex bytes) place = Hex bytes ∷ []
tokens_by (Form-F.Quoted bytes) place = Quoted bytes ∷ []
tokens_by (Form-F.Name name) place = Name name ∷ []
tokens_by (Form-F.Call name args) place = call_tokens name args
tokens_by (Form-F.Members items) place = members_tokens items
tokens_by (Form-F.Unary op arg) place = Operation (operator_of op) ∷ arg Unary
tokens_by (Form-F.Binary op left right) place =
    enclosed_if (is_enclosed (level_of op) place) (binary_tokens (level_of op) op left right)

-- the tokens of an expression, where this level reads it
abbrev pub tokens_at : Level → Expr → List Token
tokens_at place e = fold-Expr Show Show tokens_by (λ e. e.form) e place

-- ---- parameters

abbrev pub word_tokens : Word → List Token
word_tokens word = Name word.name ∷ []

abbrev pub group_tokens : Group → List Token
group_tokens group =
    separated (map word_tokens group.names) ++ (token.Sign symbol.Colon ∷ Name group.kind.name ∷ [])

abbrev pub params_tokens : List Group → List Token
params_tokens groups = separated (map group_tokens groups)

-- ---- clauses

abbrev pub req_tokens : Req → List Token
req_tokens req = Name req.name.name ∷ token.Sign symbol.Colon
    ∷ (tokens_at Or req.amount ++ (token.Word keyword.Of ∷ tokens_at Or req.asset))

abbrev pub requires_tokens : List Req → List Token
requires_tokens [] = []
requires_tokens (req ∷ reqs) = token.Word keyword.Requires ∷ separated (map req_tokens (req ∷ reqs))

abbrev pub stmt_tokens : Stmt → List Token
stmt_tokens (statements.Verify at e) = token.Word keyword.Verify ∷ tokens_at Or e
stmt_tokens (statements.Lock at value program) =
    token.Word keyword.Lock ∷ Name value.name ∷ token.Word keyword.With ∷ tokens_at Or program
stmt_tokens (statements.Unlock at value) = token.Word keyword.Unlock ∷ Name value.name ∷ []

abbrev pub clause_tokens : ClauseTree → List Token
clause_tokens clause = token.Word keyword.Clause ∷ Name clause.name.name ∷ token.Sign symbol.OpenParen
    ∷ (params_tokens clause.params ++ (token.Sign symbol.CloseParen
    ∷ (requires_tokens clause.reqs ++ (token.Sign symbol.OpenBrace
    ∷ (flat_map stmt_tokens clause.stmts ++ (token.Sign symbol.CloseBrace ∷ []))))))

-- ---- contracts

abbrev pub contract_tokens : Contract → List Token
contract_tokens contract = token.Word keyword.Contract ∷ Name contract.name.name ∷ token.Sign symbol.OpenParen
    ∷ (params_tokens contract.params ++ (token.Sign symbol.CloseParen ∷ token.Word keyword.Locks
    ∷ Name contract.value.name ∷ token.Sign symbol.OpenBrace
    ∷ (flat_map clause_tokens contract.clauses ++ (token.Sign symbol.CloseBrace ∷ []))))

abbrev pub shown : Source → List Token
shown source = flat_map contract_tokens source.contracts
