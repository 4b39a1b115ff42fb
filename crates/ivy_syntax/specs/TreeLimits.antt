-- The counted limits by the tree: what they come to for the tokens of a source. Public statements rest on this file.
use Rattle.std.specs.Prelude.{◌↔◌, ◌≤◌, ◌+◌, ℕ, Bool, true, ◌&&◌, nat_le, IsTrue, List, length, map, sum}
use Rattle.std.specs.List.{AllByRecursion, list_all}
use Rattle.grammars.specs.Places.{kinds}
use Rattle.ivy_syntax.specs.declared.tree.Expr.{Expr, fold-Expr}
use Rattle.ivy_syntax.specs.declared.tree.Form.TheOpen.{Form-F}
use Rattle.ivy_syntax.specs.declared.tree.Group.{Group}
use Rattle.ivy_syntax.specs.declared.tree.Req.{Req}
use Rattle.ivy_syntax.specs.declared.tree.Stmt.{Stmt}
use Rattle.ivy_syntax.specs.declared.tree.Stmt.TheVariants as statements
use Rattle.ivy_syntax.specs.declared.tree.ClauseTree.{ClauseTree}
use Rattle.ivy_syntax.specs.declared.tree.Contract.{Contract}
use Rattle.ivy_syntax.specs.declared.tree.Source.{Source}
use Rattle.ivy_syntax.specs.Tokens.{Placed}
use Rattle.ivy_syntax.specs.Grammar.{File}
use Rattle.ivy_syntax.specs.Texts.{AreFew}

-- ---- expressions

-- how many operators stand in it, those before operands among them
abbrev pub form_operators : Form-F ℕ ℕ → ℕ
form_operators (Form-F.Call name args) = sum args
form_operators (Form-F.Members items) = sum items
form_operators (Form-F.Unary op arg) = 1 + arg
form_operators (Form-F.Binary op left right) = 1 + left + right
form_operators _ = 0

abbrev pub operators : Expr → ℕ
operators = fold-Expr ℕ ℕ form_operators (λ e. e.form)

-- each list and call in it has at most 16 members
abbrev pub form_is_short : Form-F Bool Bool → Bool
form_is_short (Form-F.Call name args) = nat_le (length args) 16 && list_all (λ arg. arg) args
form_is_short (Form-F.Members items) = nat_le (length items) 16 && list_all (λ item. item) items
form_is_short (Form-F.Unary op arg) = arg
form_is_short (Form-F.Binary op left right) = left && right
form_is_short _ = true

abbrev pub is_short : Expr → Bool
is_short = fold-Expr Bool Bool form_is_short (λ e. e.form)

-- an expression of a statement or of one side of a requirement
abbrev pub ExprIsWithin : Expr → Type 0
ExprIsWithin e = (operators e ≤ 256) × IsTrue (is_short e)

-- ---- declarations

abbrev pub params_of : List Group → ℕ
params_of groups = sum (map (λ group. length group.names) groups)

abbrev pub ReqIsWithin : Req → Type 0
ReqIsWithin req = ExprIsWithin req.amount × ExprIsWithin req.asset

abbrev pub StmtIsWithin : Stmt → Type 0
StmtIsWithin (statements.Verify at e) = ExprIsWithin e
StmtIsWithin (statements.Lock at value program) = ExprIsWithin program
StmtIsWithin (statements.Unlock at value) = Unit {0}

pub record ClauseIsWithin (clause : ClauseTree) : Type 0 where
  pub params : params_of clause.params ≤ 32
  pub reqs : length clause.reqs ≤ 8
  pub each_req : AllByRecursion ReqIsWithin clause.reqs
  pub stmts : length clause.stmts ≤ 64
  pub each_stmt : AllByRecursion StmtIsWithin clause.stmts

pub record ContractIsWithin (contract : Contract) : Type 0 where
  pub params : params_of contract.params ≤ 32
  pub clauses : length contract.clauses ≤ 16
  pub each : AllByRecursion ClauseIsWithin contract.clauses

pub record SourceIsWithin (source : Source) : Type 0 where
  pub contracts : length source.contracts ≤ 16
  pub each : AllByRecursion ContractIsWithin source.contracts

-- The tokens of a source pass no counted limit exactly where its tree has no more of anything than the counted limits
-- say.
abbrev pub LimitsByTree : Type 0
LimitsByTree = (depth : ℕ) (tokens : List Placed) (source : Source)
    → File depth tokens source
    → (AreFew (kinds tokens) ↔ SourceIsWithin source)
