-- How the parser goes over the tokens, rule by rule. Only contracts of private functions name it.
use Rattle.std.specs.Prelude.{ℕ, zero, suc, Bool, true, false, List, [], ◌∷◌, Option, Some, None}
use Rattle.grammars.specs.Outcome.{Outcome, Got, Wrong, Deep, ◌>>=◌}
use Rattle.grammars.specs.Heads.{expect}
use Rattle.grammars.specs.Chain.{chained}
use Rattle.grammars.specs.Once.{once}
use Rattle.grammars.specs.Paired.{paired}
use Rattle.grammars.specs.Examples.{chosen}
use Rattle.grammars.specs.Gathered.{separated, repeated}
use Rattle.grammars.specs.Perhaps.{closed, perhaps, too_deep}
use Rattle.ivy_syntax.specs.declared.tree.Expr.{Expr}
use Rattle.ivy_syntax.specs.declared.tree.Form.{Form}
use Rattle.ivy_syntax.specs.declared.tree.Form.TheVariants as forms
use Rattle.ivy_syntax.specs.declared.tree.Op.{Op}
use Rattle.ivy_syntax.specs.declared.tree.Op.TheVariants as ops
use Rattle.ivy_syntax.specs.declared.tree.Word.{Word}
use Rattle.ivy_syntax.specs.declared.tree.Group.{Group}
use Rattle.ivy_syntax.specs.declared.tree.Req.{Req}
use Rattle.ivy_syntax.specs.declared.tree.Stmt.{Stmt}
use Rattle.ivy_syntax.specs.declared.tree.Stmt.TheVariants as statements
use Rattle.ivy_syntax.specs.declared.tree.ClauseTree.{ClauseTree}
use Rattle.ivy_syntax.specs.declared.tree.Contract.{Contract}
use Rattle.ivy_syntax.specs.declared.tree.Source.{Source}
use Rattle.ivy_syntax.specs.declared.lexeme.Keyword.{Keyword}
use Rattle.ivy_syntax.specs.declared.lexeme.Keyword.TheVariants as keyword
use Rattle.ivy_syntax.specs.declared.lexeme.Symbol.{Symbol}
use Rattle.ivy_syntax.specs.declared.lexeme.Symbol.TheVariants as symbol
use Rattle.ivy_syntax.specs.declared.level.Level.{Level}
use Rattle.ivy_syntax.specs.declared.level.Level.TheVariants.{Or, And, Comparison, Shift, Sum, Term, Unary}
use Rattle.ivy_syntax.specs.Token.{Token, Operation, Name, Number, Hex, Quoted}
use Rattle.ivy_syntax.specs.Token as token
use Rattle.ivy_syntax.specs.Tokens.{Placed}
use Rattle.ivy_syntax.specs.Grammar.{between, before, single, enclosed, word, unary, binary}

-- what reads a part with which the tokens begin
abbrev pub Reader : Type 0 → Type 0
Reader V = List Placed → Outcome Placed V

-- ---- tokens that stand for themselves

abbrev pub is_symbol : Symbol → Symbol → Bool
is_symbol symbol.OpenParen symbol.OpenParen = true
is_symbol symbol.CloseParen symbol.CloseParen = true
is_symbol symbol.OpenBrace symbol.OpenBrace = true
is_symbol symbol.CloseBrace symbol.CloseBrace = true
is_symbol symbol.OpenBracket symbol.OpenBracket = true
is_symbol symbol.CloseBracket symbol.CloseBracket = true
is_symbol symbol.Comma symbol.Comma = true
is_symbol symbol.Colon symbol.Colon = true
is_symbol _ _ = false

abbrev pub is_keyword : Keyword → Keyword → Bool
is_keyword keyword.Contract keyword.Contract = true
is_keyword keyword.Clause keyword.Clause = true
is_keyword keyword.Locks keyword.Locks = true
is_keyword keyword.Requires keyword.Requires = true
is_keyword keyword.Of keyword.Of = true
is_keyword keyword.Verify keyword.Verify = true
is_keyword keyword.Lock keyword.Lock = true
is_keyword keyword.Unlock keyword.Unlock = true
is_keyword keyword.With keyword.With = true
is_keyword keyword.True keyword.True = true
is_keyword keyword.False keyword.False = true
is_keyword _ _ = false

abbrev pub sign_in : Symbol → Token → Bool
sign_in s (token.Sign found) = is_symbol s found
sign_in s _ = false

abbrev pub word_in : Keyword → Token → Bool
word_in k (token.Word found) = is_keyword k found
word_in k _ = false

abbrev pub is_sign : Symbol → Placed → Bool
is_sign s t = sign_in s t.0

abbrev pub is_word : Keyword → Placed → Bool
is_word k t = word_in k t.0

abbrev pub the_sign : Symbol → Placed → Option Placed
the_sign s = chosen (is_sign s)

abbrev pub the_word : Keyword → Placed → Option Placed
the_word k = chosen (is_word k)

abbrev pub name_in : Token → ℕ → Option Word
name_in (Name name) at = Some (word name at)
name_in _ at = None

-- a name, with its place
abbrev pub named : Placed → Option Word
named t = name_in t.0 t.1

-- one part and more of it, with commas between them
abbrev pub listed : {V : Type 0} → Reader V → Reader (List V)
listed read = separated (is_sign symbol.Comma) read

-- ---- operators between operands

abbrev pub is_level : Level → Level → Bool
is_level Or Or = true
is_level And And = true
is_level Comparison Comparison = true
is_level Shift Shift = true
is_level Sum Sum = true
is_level Term Term = true
is_level Unary Unary = true
is_level _ _ = false

-- what a token is between operands: the level that it joins, and the operator of the tree
abbrev pub joining : Token → Option (Level × Op)
joining (Operation o) = binary o
joining _ = None

abbrev pub is_of_level : Level → Option (Level × Op) → Bool
is_of_level level None = false
is_of_level level (Some found) = is_level level found.0

-- a token is an operator of this level
abbrev pub joins : Level → Placed → Bool
joins level t = is_of_level level (joining t.0)

-- the operator of the tree; any, where there is none
abbrev pub op_of : Option (Level × Op) → Op
op_of None = ops.Not
op_of (Some found) = found.1

abbrev pub join : Placed → Expr → Expr → Expr
join t a b = between t.1 (op_of (joining t.0)) a b

-- operands of a level, by the reader of the next one
abbrev pub chain_by : Level → Reader Expr → Reader Expr
chain_by level operand = chained (joins level) join operand

abbrev pub compare_by : Reader Expr → Reader Expr
compare_by operand = paired (joins Comparison) join operand

-- each level, by the reader of what is unary
abbrev pub term_by : Reader Expr → Reader Expr
term_by operand = chain_by Term operand

abbrev pub sum_by : Reader Expr → Reader Expr
sum_by operand = chain_by Sum (term_by operand)

abbrev pub shift_by : Reader Expr → Reader Expr
shift_by operand = chain_by Shift (sum_by operand)

abbrev pub comparison_by : Reader Expr → Reader Expr
comparison_by operand = compare_by (shift_by operand)

abbrev pub and_by : Reader Expr → Reader Expr
and_by operand = chain_by And (comparison_by operand)

-- an expression
abbrev pub expr_by : Reader Expr → Reader Expr
expr_by operand = chain_by Or (and_by operand)

abbrev pub level_by : Level → Reader Expr → Reader Expr
level_by Or operand = expr_by operand
level_by And operand = and_by operand
level_by Comparison operand = comparison_by operand
level_by Shift operand = shift_by operand
level_by Sum operand = sum_by operand
level_by Term operand = term_by operand
level_by Unary operand = operand

-- ---- operands

-- What an operand begins with: a literal, a name, an opening parenthesis or bracket, or an operator before it.
pub data Start : Type 0 where
  Literal : Form → Start
  Named : List ℕ → Start
  Paren : Start
  Bracket : Start
  Prefix : Op → Start
  NoStart : Start

abbrev pub prefix : Option Op → Start
prefix (Some op) = Prefix op
prefix None = NoStart

abbrev pub start : Token → Start
start (Number n) = Literal (forms.Number n)
start (token.Word keyword.True) = Literal (forms.Truth true)
start (token.Word keyword.False) = Literal (forms.Truth false)
start (Hex bytes) = Literal (forms.Hex bytes)
start (Quoted bytes) = Literal (forms.Quoted bytes)
start (Name name) = Named name
start (token.Sign symbol.OpenParen) = Paren
start (token.Sign symbol.OpenBracket) = Bracket
start (Operation o) = prefix (unary o)
start _ = NoStart

abbrev pub close_paren : Placed → Option Placed
close_paren = the_sign symbol.CloseParen

abbrev pub close_bracket : Placed → Option Placed
close_bracket = the_sign symbol.CloseBracket

-- the arguments of a call, after its parenthesis
abbrev pub args_by : Reader Expr → Reader (List Expr)
args_by expr = perhaps close_paren [] (listed expr)

-- a name at this place, or a call of it
abbrev pub name_by : Reader Expr → ℕ → List ℕ → Reader Expr
name_by expr at name = once (is_sign symbol.OpenParen) (λ t. args_by expr)
    (λ t e args. single at (forms.Call name args)) (single at (forms.Name name))

abbrev pub bracket_by : Reader Expr → ℕ → Reader Expr
bracket_by expr at ts = closed close_bracket (listed expr) ts >>= λ v. Got (single at (forms.Members v.0)) v.1

abbrev pub paren_by : Reader Expr → ℕ → Reader Expr
paren_by expr at ts = closed close_paren expr ts >>= λ v. Got (enclosed at v.0) v.1

abbrev pub prefix_by : Reader Expr → ℕ → Op → Reader Expr
prefix_by operand at op ts = operand ts >>= λ v. Got (before at op v.0) v.1

-- a name at this place, where no call of it may stand
abbrev pub too_deep_name : ℕ → List ℕ → Reader Expr
too_deep_name at name = too_deep (is_sign symbol.OpenParen) (single at (forms.Name name))

-- an operand of which the first token is this, where one more nesting may stand
abbrev pub nested_by : Reader Expr → Start → Placed → Reader Expr
nested_by operand (Literal form) t ts = Got (single t.1 form) ts
nested_by operand (Named name) t ts = name_by (expr_by operand) t.1 name ts
nested_by operand Paren t ts = paren_by (expr_by operand) t.1 ts
nested_by operand Bracket t ts = bracket_by (expr_by operand) t.1 ts
nested_by operand (Prefix op) t ts = prefix_by operand t.1 op ts
nested_by operand NoStart t ts = Wrong (t ∷ ts)

-- and where none may
abbrev pub flat : Start → Placed → Reader Expr
flat (Literal form) t ts = Got (single t.1 form) ts
flat (Named name) t ts = too_deep_name t.1 name ts
flat NoStart t ts = Wrong (t ∷ ts)
flat _ t ts = Deep (t ∷ ts)

abbrev pub unary_at : ℕ → Reader Expr
unary_at depth [] = Wrong []
unary_at zero (t ∷ ts) = flat (start t.0) t ts
unary_at (suc depth) (t ∷ ts) = nested_by (unary_at depth) (start t.0) t ts

abbrev pub expr_at : ℕ → Reader Expr
expr_at depth = expr_by (unary_at depth)

-- ---- parameters

abbrev pub group_of : List Word → Word → Group
group_of words kind = record { names = words; kind = kind }

abbrev pub group : Reader Group
group ts = listed (expect named) ts >>= λ n. expect (the_sign symbol.Colon) n.1 >>= λ c. expect named c.1 >>= λ k.
    Got (group_of n.0 k.0) k.1

-- the parameters, after their parenthesis
abbrev pub params : Reader (List Group)
params = perhaps close_paren [] (listed group)

-- ---- requirements and statements

abbrev pub req_of : Word → Expr → Expr → Req
req_of name amount asset = record { name = name; amount = amount; asset = asset }

-- an amount, and of what
abbrev pub amount_by : Reader Expr → Word → Reader Req
amount_by expr name ts = expr ts >>= λ a. expect (the_word keyword.Of) a.1 >>= λ o. expr o.1 >>= λ b.
    Got (req_of name a.0 b.0) b.1

abbrev pub req_by : Reader Expr → Reader Req
req_by expr ts = expect named ts >>= λ n. expect (the_sign symbol.Colon) n.1 >>= λ c. amount_by expr n.0 c.1

abbrev pub requires_by : Reader Expr → Reader (List Req)
requires_by expr = once (is_word keyword.Requires) (λ t. listed (req_by expr)) (λ t none reqs. reqs) []

-- a keyword that a statement begins with
abbrev pub begins_stmt : Token → Bool
begins_stmt (token.Word keyword.Verify) = true
begins_stmt (token.Word keyword.Lock) = true
begins_stmt (token.Word keyword.Unlock) = true
begins_stmt _ = false

abbrev pub verify_by : Reader Expr → ℕ → Reader Stmt
verify_by expr at ts = expr ts >>= λ e. Got (statements.Verify at e.0) e.1

abbrev pub lock_by : Reader Expr → ℕ → Reader Stmt
lock_by expr at ts = expect named ts >>= λ n. expect (the_word keyword.With) n.1 >>= λ w. expr w.1 >>= λ e.
    Got (statements.Lock at n.0 e.0) e.1

abbrev pub unlock : ℕ → Reader Stmt
unlock at ts = expect named ts >>= λ n. Got (statements.Unlock at n.0) n.1

-- a statement, after its keyword
abbrev pub stmt_by : Reader Expr → Token → ℕ → Reader Stmt
stmt_by expr (token.Word keyword.Verify) at ts = verify_by expr at ts
stmt_by expr (token.Word keyword.Lock) at ts = lock_by expr at ts
stmt_by expr _ at ts = unlock at ts

abbrev pub stmts_by : Reader Expr → Reader (List Stmt)
stmts_by expr = repeated (λ t. begins_stmt t.0) (λ t. stmt_by expr t.0 t.1)

-- ---- clauses and contracts

abbrev pub open_paren : Placed → Option Placed
open_paren = the_sign symbol.OpenParen

abbrev pub open_brace : Placed → Option Placed
open_brace = the_sign symbol.OpenBrace

abbrev pub close_brace : Placed → Option Placed
close_brace = the_sign symbol.CloseBrace

abbrev pub clause_of : Word → List Group → List Req → List Stmt → ClauseTree
clause_of name groups reqs stmts = record { name = name; params = groups; reqs = reqs; stmts = stmts }

-- the requirements of a clause, and its statements in braces
abbrev pub clause_body_by : Reader Expr → Word → List Group → Reader ClauseTree
clause_body_by expr name groups ts = requires_by expr ts >>= λ r. expect open_brace r.1 >>= λ b.
    closed close_brace (stmts_by expr) b.1 >>= λ s. Got (clause_of name groups r.0 s.0) s.1

-- a clause, after its keyword
abbrev pub clause_by : Reader Expr → Reader ClauseTree
clause_by expr ts = expect named ts >>= λ n. expect open_paren n.1 >>= λ o. params o.1 >>= λ p.
    clause_body_by expr n.0 p.0 p.1

abbrev pub clauses_by : Reader Expr → Reader (List ClauseTree)
clauses_by expr = repeated (is_word keyword.Clause) (λ t. clause_by expr)

abbrev pub contract_of : Word → List Group → Word → List ClauseTree → Contract
contract_of name groups value clauses = record { name = name; params = groups; value = value; clauses = clauses }

-- what a contract locks, and its clauses in braces
abbrev pub contract_body_by : Reader Expr → Word → List Group → Reader Contract
contract_body_by expr name groups ts = expect (the_word keyword.Locks) ts >>= λ l. expect named l.1 >>= λ v.
    expect open_brace v.1 >>= λ b. closed close_brace (clauses_by expr) b.1 >>= λ c.
    Got (contract_of name groups v.0 c.0) c.1

-- a contract, after its keyword
abbrev pub contract_by : Reader Expr → Reader Contract
contract_by expr ts = expect named ts >>= λ n. expect open_paren n.1 >>= λ o. params o.1 >>= λ p.
    contract_body_by expr n.0 p.0 p.1

abbrev pub contracts_by : Reader Expr → Reader (List Contract)
contracts_by expr = repeated (is_word keyword.Contract) (λ t. contract_by expr)

abbrev pub source_of : List Contract → Source
source_of contracts = record { contracts = contracts }

-- the whole text
abbrev pub file_by : Reader Expr → Reader Source
file_by expr ts = contracts_by expr ts >>= λ c. Got (source_of c.0) c.1

abbrev pub file_at : ℕ → Reader Source
file_at depth = file_by (expr_at depth)
