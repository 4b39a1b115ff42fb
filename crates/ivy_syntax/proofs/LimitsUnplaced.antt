-- Whether a source is within the counted limits does not depend on its places.
use Rattle.std.specs.Prelude.{◌≡◌, ◌≤◌, ℕ, Bool, List, [], ◌∷◌, length, map, sum, IsTrue, refl}
use Rattle.std.specs.List.{AllByRecursion}
use Rattle.std.proofs.Common.{sym, ap, subst}
use Rattle.std.proofs.lemmas.List.{length-map}
use Rattle.ivy_syntax.specs.declared.tree.Expr.{Expr}
use Rattle.ivy_syntax.specs.declared.tree.Group.{Group}
use Rattle.ivy_syntax.specs.declared.tree.Req.{Req}
use Rattle.ivy_syntax.specs.declared.tree.Stmt.{Stmt}
use Rattle.ivy_syntax.specs.declared.tree.Stmt.TheVariants as statements
use Rattle.ivy_syntax.specs.declared.tree.ClauseTree.{ClauseTree}
use Rattle.ivy_syntax.specs.declared.tree.Contract.{Contract}
use Rattle.ivy_syntax.specs.declared.tree.Source.{Source}
use Rattle.ivy_syntax.specs.TreeLimits.{form_operators, operators, form_is_short, is_short, ExprIsWithin, params_of}
use Rattle.ivy_syntax.specs.TreeLimits.{ReqIsWithin, StmtIsWithin, ClauseIsWithin, ContractIsWithin, SourceIsWithin}
use Rattle.ivy_syntax.specs.Unplaced.{unplaced_expr, unplaced_word, unplaced_group, unplaced_req, unplaced_stmt}
use Rattle.ivy_syntax.specs.Unplaced.{unplaced_clause, unplaced_contract, unplaced}
use Rattle.ivy_syntax.proofs.ExprFolds.{fold_unplaced}
use Rattle.ivy_syntax.proofs.ShownUnplaced.{mapped_same}

-- ---- each of a list

long_as : {A : Type 0} (bare : A → A) (xs : List A) → length (map bare xs) ≡ length xs
long_as bare xs = length-map xs bare

all_mapped : {A : Type 0} (F : A → Type 0) (bare : A → A) → ((x : A) → F x → F (bare x)) → (xs : List A)
    → AllByRecursion F xs → AllByRecursion F (map bare xs)
all_mapped F bare one [] all = tt
all_mapped F bare one (x ∷ xs) all = (one x all.0, all_mapped F bare one xs all.1)

all_before : {A : Type 0} (F : A → Type 0) (bare : A → A) → ((x : A) → F (bare x) → F x) → (xs : List A)
    → AllByRecursion F (map bare xs) → AllByRecursion F xs
all_before F bare one [] all = tt
all_before F bare one (x ∷ xs) all = (one x all.0, all_before F bare one xs all.1)

-- at most so many of a list
few_mapped : {A : Type 0} (bare : A → A) (xs : List A) (n : ℕ) → length xs ≤ n → length (map bare xs) ≤ n
few_mapped bare xs n few = subst (λ (l : ℕ). l ≤ n) (sym (long_as bare xs)) few

few_before : {A : Type 0} (bare : A → A) (xs : List A) (n : ℕ) → length (map bare xs) ≤ n → length xs ≤ n
few_before bare xs n few = subst (λ (l : ℕ). l ≤ n) (long_as bare xs) few

-- ---- expressions

operators_same : (e : Expr) → operators (unplaced_expr e) ≡ operators e
operators_same e = fold_unplaced ℕ ℕ form_operators (λ e. e.form) (λ from at f. refl) e

short_same : (e : Expr) → is_short (unplaced_expr e) ≡ is_short e
short_same e = fold_unplaced Bool Bool form_is_short (λ e. e.form) (λ from at f. refl) e

expr_mapped : (e : Expr) → ExprIsWithin e → ExprIsWithin (unplaced_expr e)
expr_mapped e h = (
  subst (λ (n : ℕ). n ≤ 256) (sym (operators_same e)) h.0,
  subst (λ (b : Bool). IsTrue b) (sym (short_same e)) h.1,
)

expr_before : (e : Expr) → ExprIsWithin (unplaced_expr e) → ExprIsWithin e
expr_before e h = (
  subst (λ (n : ℕ). n ≤ 256) (operators_same e) h.0,
  subst (λ (b : Bool). IsTrue b) (short_same e) h.1,
)

-- ---- declarations

params_same : (groups : List Group) → params_of (map unplaced_group groups) ≡ params_of groups
params_same groups =
    ap sum (mapped_same (λ group. length group.names) unplaced_group (λ g. long_as unplaced_word g.names) groups)

stmt_mapped : (s : Stmt) → StmtIsWithin s → StmtIsWithin (unplaced_stmt s)
stmt_mapped (statements.Verify at e) h = expr_mapped e h
stmt_mapped (statements.Lock at value program) h = expr_mapped program h
stmt_mapped (statements.Unlock at value) h = tt

stmt_before : (s : Stmt) → StmtIsWithin (unplaced_stmt s) → StmtIsWithin s
stmt_before (statements.Verify at e) h = expr_before e h
stmt_before (statements.Lock at value program) h = expr_before program h
stmt_before (statements.Unlock at value) h = tt

req_mapped : (r : Req) → ReqIsWithin r → ReqIsWithin (unplaced_req r)
req_mapped r h = (expr_mapped r.amount h.0, expr_mapped r.asset h.1)

req_before : (r : Req) → ReqIsWithin (unplaced_req r) → ReqIsWithin r
req_before r h = (expr_before r.amount h.0, expr_before r.asset h.1)

clause_mapped : (c : ClauseTree) → ClauseIsWithin c → ClauseIsWithin (unplaced_clause c)
clause_mapped c h = record {
  params = subst (λ (n : ℕ). n ≤ 32) (sym (params_same c.params)) h.params;
  reqs = few_mapped unplaced_req c.reqs 8 h.reqs;
  each_req = all_mapped ReqIsWithin unplaced_req req_mapped c.reqs h.each_req;
  stmts = few_mapped unplaced_stmt c.stmts 64 h.stmts;
  each_stmt = all_mapped StmtIsWithin unplaced_stmt stmt_mapped c.stmts h.each_stmt;
}

clause_before : (c : ClauseTree) → ClauseIsWithin (unplaced_clause c) → ClauseIsWithin c
clause_before c h = record {
  params = subst (λ (n : ℕ). n ≤ 32) (params_same c.params) h.params;
  reqs = few_before unplaced_req c.reqs 8 h.reqs;
  each_req = all_before ReqIsWithin unplaced_req req_before c.reqs h.each_req;
  stmts = few_before unplaced_stmt c.stmts 64 h.stmts;
  each_stmt = all_before StmtIsWithin unplaced_stmt stmt_before c.stmts h.each_stmt;
}

contract_mapped : (c : Contract) → ContractIsWithin c → ContractIsWithin (unplaced_contract c)
contract_mapped c h = record {
  params = subst (λ (n : ℕ). n ≤ 32) (sym (params_same c.params)) h.params;
  clauses = few_mapped unplaced_clause c.clauses 16 h.clauses;
  each = all_mapped ClauseIsWithin unplaced_clause clause_mapped c.clauses h.each;
}

contract_before : (c : Contract) → ContractIsWithin (unplaced_contract c) → ContractIsWithin c
contract_before c h = record {
  params = subst (λ (n : ℕ). n ≤ 32) (params_same c.params) h.params;
  clauses = few_before unplaced_clause c.clauses 16 h.clauses;
  each = all_before ClauseIsWithin unplaced_clause clause_before c.clauses h.each;
}

source_mapped : (s : Source) → SourceIsWithin s → SourceIsWithin (unplaced s)
source_mapped s h = record {
  contracts = few_mapped unplaced_contract s.contracts 16 h.contracts;
  each = all_mapped ContractIsWithin unplaced_contract contract_mapped s.contracts h.each;
}

source_before : (s : Source) → SourceIsWithin (unplaced s) → SourceIsWithin s
source_before s h = record {
  contracts = few_before unplaced_contract s.contracts 16 h.contracts;
  each = all_before ContractIsWithin unplaced_contract contract_before s.contracts h.each;
}

-- Of sources that are the same apart from their places one is within the limits where the other is.
pub within_alike : (a b : Source) → unplaced a ≡ unplaced b → SourceIsWithin a → SourceIsWithin b
within_alike a b same h = source_before b (subst SourceIsWithin same (source_mapped a h))
