-- Sizes of a source: how many nodes its trees have, and how many bytes its literals. Public statements rest on this
-- file.
use Rattle.std.specs.Prelude.{◌≤◌, ◌+◌, ◌-◌, ◌^◌, ℕ, min, List, length, map, sum}
use Rattle.ivy_syntax.specs.declared.tree.Expr.{Expr, fold-Expr}
use Rattle.ivy_syntax.specs.declared.tree.Form.TheOpen.{Form-F}
use Rattle.ivy_syntax.specs.declared.tree.Group.{Group}
use Rattle.ivy_syntax.specs.declared.tree.Req.{Req}
use Rattle.ivy_syntax.specs.declared.tree.Stmt.{Stmt}
use Rattle.ivy_syntax.specs.declared.tree.Stmt.TheVariants as statements
use Rattle.ivy_syntax.specs.declared.tree.ClauseTree.{ClauseTree}
use Rattle.ivy_syntax.specs.declared.tree.Contract.{Contract}
use Rattle.ivy_syntax.specs.declared.tree.Source.{Source}
use Rattle.ivy_syntax.specs.Texts.{ReadsAs}

-- the sum over a list
abbrev pub total : {A : Type 0} → (A → ℕ) → List A → ℕ
total size list = sum (map size list)

-- the number, or 2^64 - 1 where it is larger
abbrev pub within_word : ℕ → ℕ
within_word n = min n (2 ^ 64 - 1)

-- ---- nodes: the contract, each parameter, the value, each clause, requirement, statement and expression

abbrev pub form_nodes : Form-F ℕ ℕ → ℕ
form_nodes (Form-F.Call name args) = sum args
form_nodes (Form-F.Members items) = sum items
form_nodes (Form-F.Unary op arg) = arg
form_nodes (Form-F.Binary op left right) = left + right
form_nodes _ = 0

abbrev pub expr_nodes : Expr → ℕ
expr_nodes = fold-Expr ℕ ℕ form_nodes (λ e. 1 + e.form)

abbrev pub group_nodes : Group → ℕ
group_nodes group = length group.names

abbrev pub req_nodes : Req → ℕ
req_nodes req = 1 + expr_nodes req.amount + expr_nodes req.asset

abbrev pub stmt_nodes : Stmt → ℕ
stmt_nodes (statements.Verify at e) = 1 + expr_nodes e
stmt_nodes (statements.Lock at value program) = 1 + expr_nodes program
stmt_nodes (statements.Unlock at value) = 1

abbrev pub clause_nodes : ClauseTree → ℕ
clause_nodes clause =
    1 + total group_nodes clause.params + total req_nodes clause.reqs + total stmt_nodes clause.stmts

-- the contract and its value are two
abbrev pub contract_nodes : Contract → ℕ
contract_nodes contract = 2 + total group_nodes contract.params + total clause_nodes contract.clauses

abbrev pub nodes : Source → ℕ
nodes source = total contract_nodes source.contracts

-- ---- bytes of hex and text literals

abbrev pub form_literals : Form-F ℕ ℕ → ℕ
form_literals (Form-F.Hex bytes) = length bytes
form_literals (Form-F.Quoted bytes) = length bytes
form_literals (Form-F.Call name args) = sum args
form_literals (Form-F.Members items) = sum items
form_literals (Form-F.Unary op arg) = arg
form_literals (Form-F.Binary op left right) = left + right
form_literals _ = 0

abbrev pub expr_literals : Expr → ℕ
expr_literals = fold-Expr ℕ ℕ form_literals (λ e. e.form)

abbrev pub req_literals : Req → ℕ
req_literals req = expr_literals req.amount + expr_literals req.asset

abbrev pub stmt_literals : Stmt → ℕ
stmt_literals (statements.Verify at e) = expr_literals e
stmt_literals (statements.Lock at value program) = expr_literals program
stmt_literals (statements.Unlock at value) = 0

abbrev pub clause_literals : ClauseTree → ℕ
clause_literals clause = total req_literals clause.reqs + total stmt_literals clause.stmts

abbrev pub contract_literals : Contract → ℕ
contract_literals contract = total clause_literals contract.clauses

abbrev pub literal_bytes : Source → ℕ
literal_bytes source = total contract_literals source.contracts

-- ---- bounds

-- A text has no fewer bytes than the source that it is has nodes, and no fewer than its literals have together.
pub record SizeLaws : Type 0 where
  pub nodes : (text : List ℕ) (source : Source) → ReadsAs text source → nodes source ≤ length text
  pub literals : (text : List ℕ) (source : Source) → ReadsAs text source → literal_bytes source ≤ length text
