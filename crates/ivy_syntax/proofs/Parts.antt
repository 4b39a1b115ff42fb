-- The declarations of the grammar as parts that are put together, and how they come out.
use Rattle.std.specs.Prelude.{◌≡◌, ◌⊎◌, ℕ, Bool, true, false, List, [], ◌∷◌, ◌++◌, Some, None, refl}
use Rattle.std.proofs.Common.{sym, ap, ◌∙◌, inl, inr, true≢false, subst}
use Rattle.std.proofs.lemmas.Option.{none-some, same_Some}
use mathlib.Core.List.{append_assoc}
use Rattle.grammars.specs.Text.{next}
use Rattle.grammars.specs.Outcome.{Got, ◌>>=◌}
use Rattle.grammars.specs.Part.{Part, NoMore}
use Rattle.grammars.specs.Heads.{Is, Example, expect}
use Rattle.grammars.specs.Sequence.{Then}
use Rattle.grammars.specs.Bits.{Made, Closed, Opened}
use Rattle.grammars.specs.Once.{Once}
use Rattle.grammars.specs.Depth.{Any, within_any}
use Rattle.grammars.specs.Examples.{chosen, one_chosen, opened_hands, none_hands}
use Rattle.grammars.specs.Gathered.{Repeated}
use Rattle.grammars.specs.Perhaps.{Perhaps, closed}
use Rattle.grammars.specs.Rules.{Rule, rule_token, rule_made, rule_closed, rule_opened, rule_then, rule_once}
use Rattle.grammars.specs.Rules.{rule_perhaps}
use Rattle.grammars.specs.Rules.{rule_separated, rule_repeated}
use Rattle.ivy_syntax.specs.declared.tree.Expr.{Expr}
use Rattle.ivy_syntax.specs.declared.tree.Word.{Word}
use Rattle.ivy_syntax.specs.declared.tree.Group.{Group}
use Rattle.ivy_syntax.specs.declared.tree.Req.{Req}
use Rattle.ivy_syntax.specs.declared.tree.Stmt.{Stmt}
use Rattle.ivy_syntax.specs.declared.tree.Stmt.TheVariants as statements
use Rattle.ivy_syntax.specs.declared.tree.ClauseTree.{ClauseTree}
use Rattle.ivy_syntax.specs.declared.tree.Contract.{Contract}
use Rattle.ivy_syntax.specs.declared.tree.Source.{Source}
use Rattle.ivy_syntax.specs.declared.lexeme.Keyword.{Keyword}
use Rattle.ivy_syntax.specs.declared.lexeme.Keyword.TheVariants as keyword
use Rattle.ivy_syntax.specs.declared.lexeme.Symbol.{Symbol}
use Rattle.ivy_syntax.specs.declared.lexeme.Symbol.TheVariants as symbol
use Rattle.ivy_syntax.specs.Token.{Token, letters}
use Rattle.ivy_syntax.specs.Token as token
use Rattle.ivy_syntax.specs.Tokens.{Placed}
use Rattle.ivy_syntax.specs.declared.level.Level.TheVariants.{Or}
use Rattle.ivy_syntax.specs.Grammar.{Reads}
use Rattle.ivy_syntax.specs.Descent.{Reader, is_sign, is_word, the_sign, the_word, named, listed}
use Rattle.ivy_syntax.specs.Descent.{group_of}
use Rattle.ivy_syntax.specs.Descent.{group, params, req_of, amount_by, req_by, requires_by, begins_stmt, verify_by}
use Rattle.ivy_syntax.specs.Descent.{lock_by}
use Rattle.ivy_syntax.specs.Descent.{stmt_by, stmts_by, open_paren, open_brace, close_brace, close_paren, clause_of}
use Rattle.ivy_syntax.specs.Descent.{clause_body_by, clause_by, clauses_by, contract_of, contract_body_by, contract_by}
use Rattle.ivy_syntax.specs.Descent.{contracts_by, source_of, file_by}
use Rattle.ivy_syntax.specs.Descent as descent
use Rattle.ivy_syntax.proofs.Pieces.{Fine, goes_at, word_is, the_sign_is, the_word_is, a_sign, a_word, a_name}
use Rattle.ivy_syntax.proofs.Levels.{Goes_on, IsAtLeast, Comes, some_expr}
use Rattle.ivy_syntax.proofs.Operands.{is_comma, Listed, OrComma, weak, comma_apart}

-- ---- the parts

abbrev pub Name_part : Part Placed Word
Name_part = Is named

abbrev pub Group_part : Part Placed Group
Group_part = Then (Listed Name_part) (λ words. Opened (the_sign symbol.Colon) (λ c. Made (group_of words) Name_part))

abbrev pub Params_part : Part Placed (List Group)
Params_part = Perhaps close_paren [] (Listed Group_part)

-- by what an expression is
abbrev pub Amount_part : Part Placed Expr → Word → Part Placed Req
Amount_part O name = Then O (λ a. Opened (the_word keyword.Of) (λ o. Made (req_of name a) O))

abbrev pub Req_part : Part Placed Expr → Part Placed Req
Req_part O = Opened named (λ n. Opened (the_sign symbol.Colon) (λ c. Amount_part O n))

abbrev pub Requires_part : Part Placed Expr → Part Placed (List Req)
Requires_part O = Once (is_word keyword.Requires) (λ t. Listed (Req_part O)) (λ t none reqs. reqs) []

abbrev pub Verify_part : Part Placed Expr → ℕ → Part Placed Stmt
Verify_part O at = Made (statements.Verify at) O

abbrev pub Lock_part : Part Placed Expr → ℕ → Part Placed Stmt
Lock_part O at = Opened named (λ n. Opened (the_word keyword.With) (λ w. Made (statements.Lock at n) O))

abbrev pub Unlock_part : ℕ → Part Placed Stmt
Unlock_part at = Made (statements.Unlock at) Name_part

abbrev pub Stmt_part : Part Placed Expr → Token → ℕ → Part Placed Stmt
Stmt_part O (token.Word keyword.Verify) at = Verify_part O at
Stmt_part O (token.Word keyword.Lock) at = Lock_part O at
Stmt_part O _ at = Unlock_part at

abbrev pub stmt_begins : Placed → Bool
stmt_begins t = begins_stmt t.0

abbrev pub Stmts_part : Part Placed Expr → Part Placed (List Stmt)
Stmts_part O = Repeated stmt_begins (λ t. Stmt_part O t.0 t.1)

abbrev pub Clause_body : Part Placed Expr → Word → List Group → Part Placed ClauseTree
Clause_body O name groups = Then (Requires_part O) (λ reqs. Opened open_brace (λ b.
    Made (clause_of name groups reqs) (Closed close_brace (Stmts_part O))))

abbrev pub Clause_part : Part Placed Expr → Part Placed ClauseTree
Clause_part O = Opened named (λ n. Opened open_paren (λ o. Then Params_part (Clause_body O n)))

abbrev pub Clauses_part : Part Placed Expr → Part Placed (List ClauseTree)
Clauses_part O = Repeated (is_word keyword.Clause) (λ t. Clause_part O)

abbrev pub Contract_body : Part Placed Expr → Word → List Group → Part Placed Contract
Contract_body O name groups = Opened (the_word keyword.Locks) (λ l. Opened named (λ v. Opened open_brace (λ b.
    Made (contract_of name groups v) (Closed close_brace (Clauses_part O)))))

abbrev pub Contract_part : Part Placed Expr → Part Placed Contract
Contract_part O = Opened named (λ n. Opened open_paren (λ o. Then Params_part (Contract_body O n)))

abbrev pub Contracts_part : Part Placed Expr → Part Placed (List Contract)
Contracts_part O = Repeated (is_word keyword.Contract) (λ t. Contract_part O)

abbrev pub File_part : Part Placed Expr → Part Placed Source
File_part O = Made source_of (Contracts_part O)

-- ---- which tokens go on what

abbrev pub Comma : Placed → Type 0
Comma t = is_comma t ≡ true

-- a sign is no other one
sign_apart : (s other : Symbol) → is_sign other (token.Sign s, 0) ≡ false → (t e : Placed) → the_sign s t ≡ Some e
    → is_sign other t ≡ true → ⊥
sign_apart s other not t e is same =
    true≢false (sym same ∙ ap (λ t. is_sign other t) (the_sign_is s t e is) ∙ not)

word_no_comma : (k : Keyword) (t : Placed) → is_word k t ≡ true → is_comma t ≡ true → ⊥
word_no_comma k t is same = true≢false (sym same ∙ ap (λ t. is_comma t) (word_is k t is))

weak_word : (k : Keyword) (t : Placed) → t ≡ (token.Word k, t.1) → Goes_on Or t → ⊥
weak_word k t is more = subst (IsAtLeast Or) (ap (λ t. goes_at t.0) is) more

-- ---- parameters

name_rule : (C : Placed → Type 0) → Rule Fine Name_part Name_part C (expect named)
name_rule C = rule_token Fine named a_name C

pub names_rule : Rule Fine (Listed Name_part) (Listed Name_part) Comma (listed (expect named))
names_rule = rule_separated Fine is_comma Name_part Name_part NoMore Comma (expect named) (name_rule NoMore)
    (λ t is more. more) (λ t more. absurd more) (λ t is. is)

pub group_rule : Rule Fine Group_part Group_part NoMore group
group_rule = rule_then Fine (Listed Name_part) (Listed Name_part)
    (λ words. Opened (the_sign symbol.Colon) (λ c. Made (group_of words) Name_part))
    (λ words. Opened (the_sign symbol.Colon) (λ c. Made (group_of words) Name_part)) Comma NoMore
    (listed (expect named)) (λ words ts. expect (the_sign symbol.Colon) ts >>= λ c. expect named c.1 >>= λ k.
    Got (group_of words k.0) k.1) names_rule
    (λ words. opened_hands (the_sign symbol.Colon) (λ c. Made (group_of words) Name_part) Comma NoMore
    (sign_apart symbol.Colon symbol.Comma refl))
    (λ words. rule_opened Fine (the_sign symbol.Colon) (a_sign symbol.Colon) (λ c. Made (group_of words) Name_part)
    (λ c. Made (group_of words) Name_part) NoMore
    (λ c ts. expect named ts >>= λ k. Got (group_of words k.0) k.1)
    (λ c. rule_made Fine (group_of words) Name_part Name_part NoMore (expect named) (name_rule NoMore)))

pub groups_rule : Rule Fine (Listed Group_part) (Listed Group_part) Comma (listed group)
groups_rule = rule_separated Fine is_comma Group_part Group_part NoMore Comma group group_rule
    (λ t is more. more) (λ t more. absurd more) (λ t is. is)

-- groups begin with a name
groups_begin : (u r : List Placed) (groups : List Group) (t e : Placed) → Listed Group_part u groups
    → next (u ++ r) ≡ Some t → close_paren t ≡ Some e → ⊥
groups_begin u r groups t e h same is =
    let g = h.reads_first in
    let n = g.reads_first in
    let w = n.reads_first in
    let all : u ≡ w.token ∷ (n.second ++ (g.second ++ h.second)) =
    h.joined ∙ ap (λ f. f ++ h.second) (g.joined ∙ ap (λ f. f ++ g.second)
    (n.joined ∙ ap (λ f. f ++ n.second) w.one))
    ∙ ap (λ x. w.token ∷ x) (append_assoc n.second g.second h.second) in
    let first : w.token ≡ t = same_Some w.token t (sym (ap (λ u. next (u ++ r)) all) ∙ same) in
    none-some n.value (ap named (sym (first ∙ the_sign_is symbol.CloseParen t e is)) ∙ w.means)

pub params_rule : Rule Fine Params_part Params_part NoMore params
params_rule = rule_perhaps Fine close_paren (a_sign symbol.CloseParen) [] (Listed Group_part) (Listed Group_part) Comma
    NoMore (listed group) groups_rule (sign_apart symbol.CloseParen symbol.Comma refl) groups_begin

-- ---- what a clause has

-- requirements go on so, and statements, clauses and contracts
abbrev pub OrRequires : Placed → Type 0
OrRequires t = OrComma (Goes_on Or) t ⊎ (is_word keyword.Requires t ≡ true)

abbrev pub OrStmt : Placed → Type 0
OrStmt t = Goes_on Or t ⊎ (stmt_begins t ≡ true)

abbrev pub OrClause : Placed → Type 0
OrClause t = is_word keyword.Clause t ≡ true

abbrev pub OrContract : Placed → Type 0
OrContract t = is_word keyword.Contract t ≡ true

of_apart : (k : Keyword) (t e : Placed) → the_word k t ≡ Some e → Goes_on Or t → ⊥
of_apart k t e is more = weak_word k t (the_word_is k t e is) more

requires_apart : (t : Placed) → is_word keyword.Requires t ≡ true → OrComma (Goes_on Or) t → ⊥
requires_apart t is (inl more) = weak_word keyword.Requires t (word_is keyword.Requires t is) more
requires_apart t is (inr more) = word_no_comma keyword.Requires t is more

-- a sign that is neither a comma nor an opening parenthesis ends requirements
brace_apart : (t e : Placed) → open_brace t ≡ Some e → OrRequires t → ⊥
brace_apart t e is (inl (inl more)) = weak t symbol.OpenBrace (the_sign_is symbol.OpenBrace t e is) refl more
brace_apart t e is (inl (inr more)) = sign_apart symbol.OpenBrace symbol.Comma refl t e is more
brace_apart t e is (inr more) =
    true≢false (sym more ∙ ap (λ t. is_word keyword.Requires t) (the_sign_is symbol.OpenBrace t e is))

weak_stmt : (t : Token) → begins_stmt t ≡ true → goes_at t ≡ None
weak_stmt (token.Word k) is = refl
weak_stmt _ is = absurd (true≢false (sym is))

stmt_apart : (t : Placed) → stmt_begins t ≡ true → Goes_on Or t → ⊥
stmt_apart t is more = subst (IsAtLeast Or) (weak_stmt t.0 is) more

end_apart : (t e : Placed) → close_brace t ≡ Some e → OrStmt t → ⊥
end_apart t e is (inl more) = weak t symbol.CloseBrace (the_sign_is symbol.CloseBrace t e is) refl more
end_apart t e is (inr more) =
    true≢false (sym more ∙ ap (λ t. stmt_begins t) (the_sign_is symbol.CloseBrace t e is))

last_apart : (t e : Placed) → close_brace t ≡ Some e → OrClause t → ⊥
last_apart t e is more =
    true≢false (sym more ∙ ap (λ t. is_word keyword.Clause t) (the_sign_is symbol.CloseBrace t e is))

a_beginning : Example Fine (chosen stmt_begins)
a_beginning = one_chosen Fine stmt_begins (token.Word keyword.Verify, 0) (letters keyword.Verify, refl) refl

abbrev O : Part Placed Expr
O = Any (Reads Or)

module _ (depth : ℕ) (expr : Reader Expr) (comes : Comes Or depth expr) where
  abbrev X : Part Placed Expr
  X = Reads Or depth

  pub expr_rule : Rule Fine X O (Goes_on Or) expr
  expr_rule = record { within = within_any (Reads Or) depth; some = some_expr Or depth; comes = comes }

  amount_rule : (name : Word) → Rule Fine (Amount_part X name) (Amount_part O name) (Goes_on Or) (amount_by expr name)
  amount_rule name = rule_then Fine X O (λ a. Opened (the_word keyword.Of) (λ o. Made (req_of name a) X))
      (λ a. Opened (the_word keyword.Of) (λ o. Made (req_of name a) O)) (Goes_on Or) (Goes_on Or) expr
      (λ a ts. expect (the_word keyword.Of) ts >>= λ o. expr o.1 >>= λ b. Got (req_of name a b.0) b.1) expr_rule
      (λ a. opened_hands (the_word keyword.Of) (λ o. Made (req_of name a) O) (Goes_on Or) (Goes_on Or)
      (of_apart keyword.Of))
      (λ a. rule_opened Fine (the_word keyword.Of) (a_word keyword.Of) (λ o. Made (req_of name a) X)
      (λ o. Made (req_of name a) O) (Goes_on Or) (λ o ts. expr ts >>= λ b. Got (req_of name a b.0) b.1)
      (λ o. rule_made Fine (req_of name a) X O (Goes_on Or) expr expr_rule))

  pub req_rule : Rule Fine (Req_part X) (Req_part O) (Goes_on Or) (req_by expr)
  req_rule = rule_opened Fine named a_name (λ n. Opened (the_sign symbol.Colon) (λ c. Amount_part X n))
      (λ n. Opened (the_sign symbol.Colon) (λ c. Amount_part O n)) (Goes_on Or)
      (λ n ts. expect (the_sign symbol.Colon) ts >>= λ c. amount_by expr n c.1)
      (λ n. rule_opened Fine (the_sign symbol.Colon) (a_sign symbol.Colon) (λ c. Amount_part X n) (λ c. Amount_part O n)
      (Goes_on Or) (λ c. amount_by expr n) (λ c. amount_rule n))

  pub reqs_rule : Rule Fine (Listed (Req_part X)) (Listed (Req_part O)) (OrComma (Goes_on Or)) (listed (req_by expr))
  reqs_rule = rule_separated Fine is_comma (Req_part X) (Req_part O) (Goes_on Or) (OrComma (Goes_on Or)) (req_by expr)
      req_rule comma_apart (λ t more. inl more) (λ t is. inr is)

  pub requires_rule : Rule Fine (Requires_part X) (Requires_part O) OrRequires (requires_by expr)
  requires_rule = rule_once Fine (is_word keyword.Requires) (Listed (Req_part X)) (Listed (Req_part O))
      (OrComma (Goes_on Or)) OrRequires (listed (req_by expr)) (λ t none reqs. reqs) [] reqs_rule
      requires_apart (λ t more. inl more) (λ t is. inr is)

  verify_rule : (at : ℕ) → Rule Fine (Verify_part X at) (Verify_part O at) (Goes_on Or) (verify_by expr at)
  verify_rule at = rule_made Fine (statements.Verify at) X O (Goes_on Or) expr expr_rule

  lock_rule : (at : ℕ) → Rule Fine (Lock_part X at) (Lock_part O at) (Goes_on Or) (lock_by expr at)
  lock_rule at = rule_opened Fine named a_name
      (λ n. Opened (the_word keyword.With) (λ w. Made (statements.Lock at n) X))
      (λ n. Opened (the_word keyword.With) (λ w. Made (statements.Lock at n) O)) (Goes_on Or)
      (λ n ts. expect (the_word keyword.With) ts >>= λ w. expr w.1 >>= λ e. Got (statements.Lock at n e.0) e.1)
      (λ n. rule_opened Fine (the_word keyword.With) (a_word keyword.With) (λ w. Made (statements.Lock at n) X)
      (λ w. Made (statements.Lock at n) O) (Goes_on Or) (λ w ts. expr ts >>= λ e. Got (statements.Lock at n e.0) e.1)
      (λ w. rule_made Fine (statements.Lock at n) X O (Goes_on Or) expr expr_rule))

  unlock_rule : (at : ℕ) → Rule Fine (Unlock_part at) (Unlock_part at) (Goes_on Or) (descent.unlock at)
  unlock_rule at = rule_made Fine (statements.Unlock at) Name_part Name_part (Goes_on Or) (expect named)
      (name_rule (Goes_on Or))

  pub stmt_rule : (t : Token) (at : ℕ)
      → Rule Fine (Stmt_part X t at) (Stmt_part O t at) (Goes_on Or) (stmt_by expr t at)
  stmt_rule (token.Word keyword.Verify) at = verify_rule at
  stmt_rule (token.Word keyword.Lock) at = lock_rule at
  stmt_rule _ at = unlock_rule at

  pub stmts_rule : Rule Fine (Stmts_part X) (Stmts_part O) OrStmt (stmts_by expr)
  stmts_rule = rule_repeated Fine stmt_begins (λ t. Stmt_part X t.0 t.1) (λ t. Stmt_part O t.0 t.1) (Goes_on Or) OrStmt
      (λ t. stmt_by expr t.0 t.1) a_beginning (λ t. stmt_rule t.0 t.1) stmt_apart (λ t more. inl more) (λ t is. inr is)

  -- ---- clauses and contracts

  clause_body_rule : (name : Word) (groups : List Group)
      → Rule Fine (Clause_body X name groups) (Clause_body O name groups) NoMore (clause_body_by expr name groups)
  clause_body_rule name groups = rule_then Fine (Requires_part X) (Requires_part O)
      (λ reqs. Opened open_brace (λ b. Made (clause_of name groups reqs) (Closed close_brace (Stmts_part X))))
      (λ reqs. Opened open_brace (λ b. Made (clause_of name groups reqs) (Closed close_brace (Stmts_part O))))
      OrRequires NoMore (requires_by expr)
      (λ reqs ts. expect open_brace ts >>= λ b. closed close_brace (stmts_by expr) b.1 >>= λ s.
      Got (clause_of name groups reqs s.0) s.1) requires_rule
      (λ reqs. opened_hands open_brace
      (λ b. Made (clause_of name groups reqs) (Closed close_brace (Stmts_part O))) OrRequires NoMore brace_apart)
      (λ reqs. rule_opened Fine open_brace (a_sign symbol.OpenBrace)
      (λ b. Made (clause_of name groups reqs) (Closed close_brace (Stmts_part X)))
      (λ b. Made (clause_of name groups reqs) (Closed close_brace (Stmts_part O))) NoMore
      (λ b ts. closed close_brace (stmts_by expr) ts >>= λ s. Got (clause_of name groups reqs s.0) s.1)
      (λ b. rule_made Fine (clause_of name groups reqs) (Closed close_brace (Stmts_part X))
      (Closed close_brace (Stmts_part O)) NoMore (closed close_brace (stmts_by expr))
      (rule_closed Fine close_brace (a_sign symbol.CloseBrace) (Stmts_part X) (Stmts_part O) OrStmt NoMore
      (stmts_by expr) end_apart stmts_rule)))

  pub clause_rule : Rule Fine (Clause_part X) (Clause_part O) NoMore (clause_by expr)
  clause_rule = rule_opened Fine named a_name
      (λ n. Opened open_paren (λ o. Then Params_part (Clause_body X n)))
      (λ n. Opened open_paren (λ o. Then Params_part (Clause_body O n))) NoMore
      (λ n ts. expect open_paren ts >>= λ o. params o.1 >>= λ p. clause_body_by expr n p.0 p.1)
      (λ n. rule_opened Fine open_paren (a_sign symbol.OpenParen) (λ o. Then Params_part (Clause_body X n))
      (λ o. Then Params_part (Clause_body O n)) NoMore
      (λ o ts. params ts >>= λ p. clause_body_by expr n p.0 p.1)
      (λ o. rule_then Fine Params_part Params_part (Clause_body X n) (Clause_body O n) NoMore NoMore params
      (clause_body_by expr n) params_rule (λ p. none_hands NoMore (Clause_body O n p)) (clause_body_rule n)))

  pub clauses_rule : Rule Fine (Clauses_part X) (Clauses_part O) OrClause (clauses_by expr)
  clauses_rule = rule_repeated Fine (is_word keyword.Clause) (λ t. Clause_part X) (λ t. Clause_part O) NoMore OrClause
      (λ t. clause_by expr) (a_word keyword.Clause) (λ t. clause_rule) (λ t is more. more) (λ t more. absurd more)
      (λ t is. is)

  contract_body_rule : (name : Word) (groups : List Group)
      → Rule Fine (Contract_body X name groups) (Contract_body O name groups) NoMore (contract_body_by expr name groups)
  contract_body_rule name groups = rule_opened Fine (the_word keyword.Locks) (a_word keyword.Locks)
      (λ l. Opened named (λ v. Opened open_brace (λ b. ends X v)))
      (λ l. Opened named (λ v. Opened open_brace (λ b. ends O v))) NoMore
      (λ l ts. expect named ts >>= λ v. expect open_brace v.1 >>= λ b. read_end v.0 b.1)
      (λ l. rule_opened Fine named a_name (λ v. Opened open_brace (λ b. ends X v))
      (λ v. Opened open_brace (λ b. ends O v)) NoMore (λ v ts. expect open_brace ts >>= λ b. read_end v b.1)
      (λ v. rule_opened Fine open_brace (a_sign symbol.OpenBrace) (λ b. ends X v) (λ b. ends O v) NoMore
      (λ b. read_end v)
      (λ b. rule_made Fine (contract_of name groups v) (Closed close_brace (Clauses_part X))
      (Closed close_brace (Clauses_part O)) NoMore (closed close_brace (clauses_by expr))
      (rule_closed Fine close_brace (a_sign symbol.CloseBrace) (Clauses_part X) (Clauses_part O) OrClause NoMore
      (clauses_by expr) last_apart clauses_rule))))
    where
      ends : Part Placed Expr → Word → Part Placed Contract
      ends Z v = Made (contract_of name groups v) (Closed close_brace (Clauses_part Z))

      read_end : Word → Reader Contract
      read_end v ts = closed close_brace (clauses_by expr) ts >>= λ c. Got (contract_of name groups v c.0) c.1

  pub contract_rule : Rule Fine (Contract_part X) (Contract_part O) NoMore (contract_by expr)
  contract_rule = rule_opened Fine named a_name
      (λ n. Opened open_paren (λ o. Then Params_part (Contract_body X n)))
      (λ n. Opened open_paren (λ o. Then Params_part (Contract_body O n))) NoMore
      (λ n ts. expect open_paren ts >>= λ o. params o.1 >>= λ p. contract_body_by expr n p.0 p.1)
      (λ n. rule_opened Fine open_paren (a_sign symbol.OpenParen) (λ o. Then Params_part (Contract_body X n))
      (λ o. Then Params_part (Contract_body O n)) NoMore
      (λ o ts. params ts >>= λ p. contract_body_by expr n p.0 p.1)
      (λ o. rule_then Fine Params_part Params_part (Contract_body X n) (Contract_body O n) NoMore NoMore params
      (contract_body_by expr n) params_rule (λ p. none_hands NoMore (Contract_body O n p)) (contract_body_rule n)))

  pub contracts_rule : Rule Fine (Contracts_part X) (Contracts_part O) OrContract (contracts_by expr)
  contracts_rule = rule_repeated Fine (is_word keyword.Contract) (λ t. Contract_part X) (λ t. Contract_part O) NoMore
      OrContract (λ t. contract_by expr) (a_word keyword.Contract) (λ t. contract_rule) (λ t is more. more)
      (λ t more. absurd more) (λ t is. is)

  -- A whole text comes out as it is put together of parts.
  pub file_rule : Rule Fine (File_part X) (File_part O) OrContract (file_by expr)
  file_rule = rule_made Fine source_of (Contracts_part X) (Contracts_part O) OrContract (contracts_by expr)
      contracts_rule
