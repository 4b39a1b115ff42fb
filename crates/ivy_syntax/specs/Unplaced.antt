-- Trees without their places: each place is 0. Public statements rest on this file.
use Rattle.std.specs.Prelude.{map}
use Rattle.ivy_syntax.specs.declared.tree.Expr.{Expr, fold-Expr}
use Rattle.ivy_syntax.specs.declared.tree.Form.{Form}
use Rattle.ivy_syntax.specs.declared.tree.Form.TheVariants as forms
use Rattle.ivy_syntax.specs.declared.tree.Form.TheOpen.{Form-F}
use Rattle.ivy_syntax.specs.declared.tree.Word.{Word}
use Rattle.ivy_syntax.specs.declared.tree.Group.{Group}
use Rattle.ivy_syntax.specs.declared.tree.Req.{Req}
use Rattle.ivy_syntax.specs.declared.tree.Stmt.{Stmt}
use Rattle.ivy_syntax.specs.declared.tree.Stmt.TheVariants as statements
use Rattle.ivy_syntax.specs.declared.tree.ClauseTree.{ClauseTree}
use Rattle.ivy_syntax.specs.declared.tree.Contract.{Contract}
use Rattle.ivy_syntax.specs.declared.tree.Source.{Source}

abbrev pub form_again : Form-F Form Expr → Form
form_again (Form-F.Number n) = forms.Number n
form_again (Form-F.Truth b) = forms.Truth b
form_again (Form-F.Hex bytes) = forms.Hex bytes
form_again (Form-F.Quoted bytes) = forms.Quoted bytes
form_again (Form-F.Name name) = forms.Name name
form_again (Form-F.Call name args) = forms.Call name args
form_again (Form-F.Members items) = forms.Members items
form_again (Form-F.Unary op arg) = forms.Unary op arg
form_again (Form-F.Binary op left right) = forms.Binary op left right

abbrev pub unplaced_expr : Expr → Expr
unplaced_expr = fold-Expr Form Expr form_again (λ e. record { from = 0; at = 0; form = e.form })

abbrev pub unplaced_word : Word → Word
unplaced_word word = record { name = word.name; at = 0 }

abbrev pub unplaced_group : Group → Group
unplaced_group group =
    record { names = map unplaced_word group.names; kind = unplaced_word group.kind }

abbrev pub unplaced_req : Req → Req
unplaced_req req = record {
  name = unplaced_word req.name;
  amount = unplaced_expr req.amount;
  asset = unplaced_expr req.asset;
}

abbrev pub unplaced_stmt : Stmt → Stmt
unplaced_stmt (statements.Verify at e) = statements.Verify 0 (unplaced_expr e)
unplaced_stmt (statements.Lock at value program) =
    statements.Lock 0 (unplaced_word value) (unplaced_expr program)
unplaced_stmt (statements.Unlock at value) = statements.Unlock 0 (unplaced_word value)

abbrev pub unplaced_clause : ClauseTree → ClauseTree
unplaced_clause clause = record {
  name = unplaced_word clause.name;
  params = map unplaced_group clause.params;
  reqs = map unplaced_req clause.reqs;
  stmts = map unplaced_stmt clause.stmts;
}

abbrev pub unplaced_contract : Contract → Contract
unplaced_contract contract = record {
  name = unplaced_word contract.name;
  params = map unplaced_group contract.params;
  value = unplaced_word contract.value;
  clauses = map unplaced_clause contract.clauses;
}

abbrev pub unplaced : Source → Source
unplaced source = record { contracts = map unplaced_contract source.contracts }
