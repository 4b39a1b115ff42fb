-- Each rule of the grammar comes out as the parser goes.
use Rattle.std.specs.Prelude.{◌≡◌, ℕ, Bool, true, List, [], ◌∷◌}
use Rattle.std.proofs.Common.{sym, ap, subst}
use Rattle.std.proofs.lemmas.Option.{same_Some}
use Rattle.grammars.specs.Text.{next}
use Rattle.grammars.specs.Part.{Part, NoMore, Decides}
use Rattle.grammars.specs.Sequence.{Within}
use Rattle.grammars.specs.Depth.{Any, within_any, decides_same}
use Rattle.grammars.specs.Gathered.{Led}
use Rattle.grammars.specs.Rules.{Rule}
use Rattle.ivy_syntax.specs.declared.tree.Expr.{Expr}
use Rattle.ivy_syntax.specs.declared.lexeme.Keyword.TheVariants as keyword
use Rattle.ivy_syntax.specs.Tokens.{Placed}
use Rattle.ivy_syntax.specs.declared.level.Level.{Level}
use Rattle.ivy_syntax.specs.declared.level.Level.TheVariants.{Or}
use Rattle.ivy_syntax.specs.Grammar.{Reads, IsGroup, IsReq}
use Rattle.ivy_syntax.specs.Grammar.{IsStmt}
use Rattle.ivy_syntax.specs.Grammar.{IsClause, IsContract}
use Rattle.ivy_syntax.specs.Descent.{Reader, named, is_word, listed, level_by, unary_at, expr_at, req_by, requires_by}
use Rattle.ivy_syntax.specs.Descent.{stmt_by}
use Rattle.ivy_syntax.specs.Descent.{stmts_by, clause_by, clauses_by, contract_by, contracts_by}
use Rattle.ivy_syntax.specs.Descent as descent
use Rattle.ivy_syntax.proofs.Pieces.{Fine}
use Rattle.ivy_syntax.proofs.Levels.{Goes_on, Comes, decides_level}
use Rattle.ivy_syntax.proofs.Expressions.{decides_unary, decides_expr_at}
use Rattle.ivy_syntax.proofs.Parts.{Group_part, Req_part, Stmt_part, stmt_begins}
use Rattle.ivy_syntax.proofs.Parts.{Clause_part, Contract_part}
use Rattle.ivy_syntax.proofs.Parts.{group_rule, req_rule}
use Rattle.ivy_syntax.proofs.Parts.{stmt_rule, clause_rule, contract_rule}
use Rattle.ivy_syntax.proofs.Declared.{to_group, of_group, to_req, of_req}
use Rattle.ivy_syntax.proofs.Declared.{any_req}
use Rattle.ivy_syntax.proofs.Declared.{to_stmt}
use Rattle.ivy_syntax.proofs.Declared.{of_stmt}
use Rattle.ivy_syntax.proofs.Declared.{any_stmt}
use Rattle.ivy_syntax.proofs.Files.{to_clause, of_clause, any_clause, to_contract}
use Rattle.ivy_syntax.proofs.Files.{of_contract, any_contract}

-- an expression within some bound
abbrev O : Part Placed Expr
O = Any (Reads Or)

-- what is decided of a part that is put together of others is decided of what the grammar says
decides_rule : {V : Type 0} (R : ℕ → Part Placed V) (P : Part Placed Expr → Part Placed V) (C : Placed → Type 0)
    (read : Reader V) (depth : ℕ) → Within (P (Reads Or depth)) (R depth) → Within (P O) (Any R)
    → ((d : ℕ) (Z : Part Placed Expr) → Within (Reads Or d) Z → Within (R d) (P Z))
    → Rule Fine (P (Reads Or depth)) (P O) C read → (ts : List Placed)
    → Decides Fine (R depth) (Any R) C ts (read ts)
decides_rule R P C read depth of any to rule ts = decides_same Fine (R depth) (Any R) (P (Reads Or depth)) (P O) C C ts
    (λ t c. c) of any (to depth (Reads Or depth) (λ u v h. h))
    (λ u v h. to h.0 O (within_any (Reads Or) h.0) u v h.1) (read ts) (rule.comes ts)

-- ---- parameters

pub decides_group : (ts : List Placed) → Decides Fine IsGroup IsGroup NoMore ts (descent.group ts)
decides_group ts = decides_same Fine IsGroup IsGroup Group_part Group_part NoMore NoMore ts (λ t c. c) of_group of_group
    to_group to_group (descent.group ts) (group_rule.comes ts)

-- ---- the part after a keyword

-- the first token of two equal lists
first_is : (t s : Placed) (u w : List Placed) → t ∷ u ≡ s ∷ w → s ≡ t
first_is t s u w same = same_Some s t (sym (ap next same))

abbrev behind : List Placed → List Placed
behind [] = []
behind (t ∷ u) = u

-- a part that begins so is the keyword, and what stands after it
led_behind : {V : Type 0} (on : Placed → Bool) (X : Placed → Part Placed V) (t : Placed) (u : List Placed) (v : V)
    → Led on X (t ∷ u) v → X t u v
led_behind on X t u v h =
    subst (λ t. X t u v) (first_is t h.token u h.behind h.all)
    (subst (λ u. X h.token u v) (sym (ap behind h.all)) h.reads)

module _ (depth : ℕ) where
  abbrev expr : Reader Expr
  expr = expr_at depth

  comes : Comes Or depth expr
  comes = decides_expr_at depth

  -- ---- expressions

  pub decides_each_level : (level : Level) → Comes level depth (level_by level (unary_at depth))
  decides_each_level = decides_level depth (unary_at depth) (decides_unary depth)

  -- ---- requirements and statements

  pub decides_req : (ts : List Placed) → Decides Fine (IsReq depth) (Any IsReq) (Goes_on Or) ts (req_by expr ts)
  decides_req = decides_rule IsReq Req_part (Goes_on Or) (req_by expr) depth (of_req depth) any_req to_req
      (req_rule depth expr comes)

  -- after its keyword
  pub decides_stmt : (t : Placed) → stmt_begins t ≡ true → (ts : List Placed)
      → Decides Fine (λ u s. IsStmt depth (t ∷ u) s) (λ u s. Any IsStmt (t ∷ u) s) (Goes_on Or) ts
      (stmt_by expr t.0 t.1 ts)
  decides_stmt t is = decides_rule (λ d u s. IsStmt d (t ∷ u) s) (λ Z. Stmt_part Z t.0 t.1) (Goes_on Or)
      (stmt_by expr t.0 t.1) depth (λ u s h. of_stmt depth t.0 t.1 u s is h) (λ u s h. any_stmt t.0 t.1 u s is h)
      (λ d Z inside u s h. led_behind stmt_begins (λ t. Stmt_part Z t.0 t.1) t u s (to_stmt d Z inside (t ∷ u) s h))
      (stmt_rule depth expr comes t.0 t.1)

  -- ---- clauses and contracts

  pub decides_clause : (t : Placed) → is_word keyword.Clause t ≡ true → (ts : List Placed)
      → Decides Fine (λ u c. IsClause depth (t ∷ u) c) (λ u c. Any IsClause (t ∷ u) c) NoMore ts (clause_by expr ts)
  decides_clause t is = decides_rule (λ d u c. IsClause d (t ∷ u) c) Clause_part NoMore (clause_by expr) depth
      (λ u c h. of_clause depth t u c is h) (λ u c h. any_clause t u c is h)
      (λ d Z inside u c h. led_behind (is_word keyword.Clause) (λ t. Clause_part Z) t u c
      (to_clause d Z inside (t ∷ u) c h)) (clause_rule depth expr comes)

  pub decides_contract : (t : Placed) → is_word keyword.Contract t ≡ true → (ts : List Placed)
      → Decides Fine (λ u c. IsContract depth (t ∷ u) c) (λ u c. Any IsContract (t ∷ u) c) NoMore ts
      (contract_by expr ts)
  decides_contract t is = decides_rule (λ d u c. IsContract d (t ∷ u) c) Contract_part NoMore (contract_by expr) depth
      (λ u c h. of_contract depth t u c is h) (λ u c h. any_contract t u c is h)
      (λ d Z inside u c h. led_behind (is_word keyword.Contract) (λ t. Contract_part Z) t u c
      (to_contract d Z inside (t ∷ u) c h)) (contract_rule depth expr comes)
