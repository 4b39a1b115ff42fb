-- Uses of parameters. Public statements name it.
use Rattle.std.specs.Prelude.{ℕ, Bool, false, not, ◌||◌, List, bytes_eq}
use Rattle.std.specs.List.{list_any, flat_map}
use Rattle.ivy_syntax.specs.declared.tree.Expr.{Expr, fold-Expr}
use Rattle.ivy_syntax.specs.declared.tree.Form.TheOpen.{Form-F}
use Rattle.ivy_syntax.specs.declared.tree.Word.{Word}
use Rattle.ivy_syntax.specs.declared.tree.Group.{Group}
use Rattle.ivy_syntax.specs.declared.tree.Req.{Req}
use Rattle.ivy_syntax.specs.declared.tree.Stmt.{Stmt}
use Rattle.ivy_syntax.specs.declared.tree.Stmt.TheVariants.{Verify, Lock, Unlock}
use Rattle.ivy_syntax.specs.declared.tree.ClauseTree.{ClauseTree}
use Rattle.ivy_check.specs.Tests.{Test, fault}

-- an expression uses this name, from which of its parts do
abbrev pub uses_at : List ℕ → Form-F Bool Bool → Bool
uses_at name (Form-F.Name used) = bytes_eq used name
uses_at name (Form-F.Call function args) = list_any (λ uses. uses) args
uses_at name (Form-F.Members members) = list_any (λ uses. uses) members
uses_at name (Form-F.Unary op arg) = arg
uses_at name (Form-F.Binary op left right) = left || right
uses_at name _ = false

-- the expression uses this name
unfoldable pub uses : List ℕ → Expr → Bool
uses name = fold-Expr Bool Bool (uses_at name) (λ e. e.form)

abbrev pub statement_uses : List ℕ → Stmt → Bool
statement_uses name (Verify at e) = uses name e
statement_uses name (Lock at value program) = uses name program
statement_uses name (Unlock at value) = false

abbrev pub req_uses : List ℕ → Req → Bool
req_uses name req = uses name req.amount || uses name req.asset

-- an expression of the clause uses this name
abbrev pub clause_uses : List ℕ → ClauseTree → Bool
clause_uses name clause = list_any (req_uses name) clause.reqs || list_any (statement_uses name) clause.stmts

-- none of these clauses uses the name
abbrev pub is_unused : List ClauseTree → List ℕ → Bool
is_unused clauses name = not (list_any (clause_uses name) clauses)

-- a parameter that none of these clauses uses
abbrev pub word_unused : List ClauseTree → Word → List Test
word_unused clauses word = fault 18 word.at (is_unused clauses word.name)

-- the parameters of these groups
abbrev pub unused_tests : List ClauseTree → List Group → List Test
unused_tests clauses = flat_map (λ group. flat_map (word_unused clauses) group.names)
