-- How often names stand in the expressions of a clause, and how many keys its checks of signatures have. Public
-- statements name it.
use Rattle.std.specs.Prelude.{◌≤◌, ◌↔◌, ◌+◌, ℕ, List, [], ◌∷◌, length, sum, codes, bytes_eq, if◌then◌else◌}
use Rattle.std.specs.List.{AllByRecursion, Any}
use Rattle.ivy_syntax.specs.Sizes.{total, clause_nodes}
use Rattle.ivy_syntax.specs.declared.tree.Expr.{Expr, fold-Expr}
use Rattle.ivy_syntax.specs.declared.tree.Form.TheOpen.{Form-F}
use Rattle.ivy_syntax.specs.declared.tree.Req.{Req}
use Rattle.ivy_syntax.specs.declared.tree.Stmt.{Stmt}
use Rattle.ivy_syntax.specs.declared.tree.Stmt.TheVariants.{Verify, Lock, Unlock}
use Rattle.ivy_syntax.specs.declared.tree.ClauseTree.{ClauseTree}
use Rattle.ivy_syntax.specs.declared.tree.Contract.{Contract}
use Rattle.ivy_check.specs.Typing.{parameter_names}
use Rattle.ivy_check.specs.WellTyped.{StandsIn, ClauseUses, ClauseIsTyped, ContractIsTyped}

-- ---- uses of a name

-- how often the name stands in an expression of this form, from how often it does in its parts
abbrev pub form_uses : List ℕ → Form-F ℕ ℕ → ℕ
form_uses name (Form-F.Name used) = if bytes_eq used name then 1 else 0
form_uses name (Form-F.Call function args) = sum args
form_uses name (Form-F.Members members) = sum members
form_uses name (Form-F.Unary op arg) = arg
form_uses name (Form-F.Binary op left right) = left + right
form_uses name _ = 0

-- how often it stands in the expression; below, in a requirement, in a statement and in a clause
abbrev pub use_count : List ℕ → Expr → ℕ
use_count name = fold-Expr ℕ ℕ (form_uses name) (λ e. e.form)

abbrev pub req_use_count : List ℕ → Req → ℕ
req_use_count name req = use_count name req.amount + use_count name req.asset

abbrev pub stmt_use_count : List ℕ → Stmt → ℕ
stmt_use_count name (Verify at e) = use_count name e
stmt_use_count name (Lock at value program) = use_count name program
stmt_use_count name (Unlock at value) = 0

abbrev pub clause_use_count : List ℕ → ClauseTree → ℕ
clause_use_count name clause = total (req_use_count name) clause.reqs + total (stmt_use_count name) clause.stmts

-- ---- keys

-- what is counted of an expression: its members, if it is a list, and the keys in it
pub record Keys : Type 0 where
  pub members : ℕ
  pub keys : ℕ

-- no list, with so many keys
abbrev pub only_keys : ℕ → Keys
only_keys keys = record { members = 0; keys = keys }

-- the keys of a call itself: one for a check of one signature, and the members of the first list for one of several
abbrev pub call_keys : List ℕ → List Keys → ℕ
call_keys function [] = 0
call_keys function (first ∷ args) =
    if bytes_eq function (codes "checkTxSig") then 1
    else if bytes_eq function (codes "checkTxMultiSig") then first.members
    else 0

abbrev pub form_keys : Form-F Keys Keys → Keys
form_keys (Form-F.Call function args) = only_keys (call_keys function args + total (λ arg. arg.keys) args)
form_keys (Form-F.Members members) =
    record { members = length members; keys = total (λ member. member.keys) members }
form_keys (Form-F.Unary op arg) = only_keys arg.keys
form_keys (Form-F.Binary op left right) = only_keys (left.keys + right.keys)
form_keys _ = only_keys 0

-- of an expression; below, the keys in it, in a requirement, in a statement and in a clause
abbrev pub keys_of : Expr → Keys
keys_of = fold-Expr Keys Keys form_keys (λ e. e.form)

abbrev pub key_count : Expr → ℕ
key_count e = (keys_of e).keys

abbrev pub req_key_count : Req → ℕ
req_key_count req = key_count req.amount + key_count req.asset

abbrev pub stmt_key_count : Stmt → ℕ
stmt_key_count (Verify at e) = key_count e
stmt_key_count (Lock at value program) = key_count program
stmt_key_count (Unlock at value) = 0

abbrev pub clause_key_count : ClauseTree → ℕ
clause_key_count clause = total req_key_count clause.reqs + total stmt_key_count clause.stmts

-- ---- laws

pub record UseCounts : Type 0 where
  -- What is counted is what stands there.
  pub counted : (name : List ℕ) (e : Expr)
      → (1 ≤ use_count name e) ↔ StandsIn name e
  pub in_clause : (name : List ℕ) (clause : ClauseTree)
      → (1 ≤ clause_use_count name clause) ↔ ClauseUses name clause
  -- Each parameter of a well-typed clause is used, and each of a well-typed contract in one of its clauses.
  pub clause_used : (contract : Contract) (clause : ClauseTree)
      → ClauseIsTyped contract clause
      → AllByRecursion (λ name. 1 ≤ clause_use_count name clause) (parameter_names clause.params)
  pub contract_used : (contract : Contract)
      → ContractIsTyped contract
      → AllByRecursion (λ name. Any (λ clause. 1 ≤ clause_use_count name clause) contract.clauses)
      (parameter_names contract.params)
  -- There are no more uses than nodes, and no more keys.
  pub few_uses : (name : List ℕ) (clause : ClauseTree) → clause_use_count name clause ≤ clause_nodes clause
  pub few_keys : (clause : ClauseTree) → clause_key_count clause ≤ clause_nodes clause
