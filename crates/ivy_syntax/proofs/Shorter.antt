-- What is read by a rule leaves no more tokens than there were.
use Rattle.std.specs.Prelude.{◌≡◌, ℕ, ◌≤◌, true, List, ◌∷◌, length, refl, Result, Ok, Err, IfOk}
use Rattle.grammars.specs.Heads.{Is, expect, decides_expect}
use Rattle.grammars.specs.Part.{Part, NoMore, Decides}
use Rattle.grammars.specs.Chain.{got_shorter}
use Rattle.grammars.specs.Depth.{Any}
use Rattle.ivy_syntax.specs.declared.lexeme.Keyword.TheVariants as keyword
use Rattle.ivy_syntax.specs.Token as token
use Rattle.ivy_syntax.specs.Tokens.{Placed}
use Rattle.ivy_syntax.specs.declared.level.Level.{Level}
use Rattle.ivy_syntax.specs.declared.level.Level.TheVariants.{Or}
use Rattle.ivy_syntax.specs.Grammar.{Reads, IsGroup, IsReq, IsStmt, IsClause, IsContract}
use Rattle.ivy_syntax.specs.Descent.{Reader, named, level_by, unary_at, expr_at, req_by, stmt_by, begins_stmt}
use Rattle.ivy_syntax.specs.Descent.{clause_by, contract_by}
use Rattle.std.proofs.Common.{arith}
use Rattle.std.proofs.lemmas.List.{length-map}
use Rattle.ivy_syntax.specs.declared.lexeme.Lexeme.{Lexeme}
use Rattle.ivy_syntax.specs.Lexeme.{placed, tokens}
use Rattle.std.specs.Borrow.{Bor}
use Rattle.ivy_syntax.specs.declared.reading.Stop.{Stop}
use Rattle.ivy_syntax.specs.Agreement.{Agrees, Shortens}
use Rattle.ivy_syntax.specs.Descent as descent
use Rattle.ivy_syntax.proofs.Pieces.{Fine, a_name}
use Rattle.ivy_syntax.proofs.Levels.{Goes_on}
use Rattle.ivy_syntax.proofs.EachRule.{decides_group, decides_each_level, decides_req, decides_stmt, decides_clause}
use Rattle.ivy_syntax.proofs.EachRule.{decides_contract}

shortens : {V : Type 0} (X Y : Part Placed V) (C : Placed → Type 0) (read : Reader V)
    → ((ts : List Placed) → Decides Fine X Y C ts (read ts)) → Shortens read
shortens X Y C read decides ts rest v got = got_shorter Fine X Y C ts (read ts) v rest (decides ts) got

pub name_shortens : Shortens (expect named)
name_shortens = shortens (Is named) (Is named) NoMore (expect named) (decides_expect Fine named a_name NoMore)

pub group_shortens : Shortens descent.group
group_shortens = shortens IsGroup IsGroup NoMore descent.group decides_group

module _ (depth : ℕ) where
  pub level_shortens : (level : Level) → Shortens (level_by level (unary_at depth))
  level_shortens level = shortens (Reads level depth) (Any (Reads level)) (Goes_on level)
      (level_by level (unary_at depth)) (decides_each_level depth level)

  pub req_shortens : Shortens (req_by (expr_at depth))
  req_shortens = shortens (IsReq depth) (Any IsReq) (Goes_on Or) (req_by (expr_at depth)) (decides_req depth)

  pub stmt_shortens : (t : Placed) → begins_stmt t.0 ≡ true → Shortens (stmt_by (expr_at depth) t.0 t.1)
  stmt_shortens t is = shortens (λ u s. IsStmt depth (t ∷ u) s) (λ u s. Any IsStmt (t ∷ u) s) (Goes_on Or)
      (stmt_by (expr_at depth) t.0 t.1) (decides_stmt depth t is)

  pub clause_shortens : Shortens (clause_by (expr_at depth))
  clause_shortens = let t : Placed = (token.Word keyword.Clause, 0) in
      shortens (λ u c. IsClause depth (t ∷ u) c) (λ u c. Any IsClause (t ∷ u) c) NoMore
      (clause_by (expr_at depth)) (decides_clause depth t refl)

  pub contract_shortens : Shortens (contract_by (expr_at depth))
  contract_shortens = let t : Placed = (token.Word keyword.Contract, 0) in
      shortens (λ u c. IsContract depth (t ∷ u) c) (λ u c. Any IsContract (t ∷ u) c) NoMore
      (contract_by (expr_at depth)) (decides_contract depth t refl)

-- ---- what the code reads

-- What was read left no more lexemes than there were.
pub left_no_more : {V : Type 0} {read : Reader V} (ts : List Lexeme) (result : Result (V × Bor (List Lexeme)) Stop)
    → Shortens read → Agrees result (read (tokens ts)) → IfOk result (λ found. length found.1.now ≤ length ts)
left_no_more ts (Ok found) shortens got = omega (
  arith,
  shortens (tokens ts) (tokens found.1.now) found.0 got,
  length-map ts placed,
  length-map found.1.now placed,
)
left_no_more ts (Err stop) shortens got = tt
