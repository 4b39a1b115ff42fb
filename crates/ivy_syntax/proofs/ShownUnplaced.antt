-- The tokens that are printed of a source do not depend on its places.
use Rattle.std.specs.Prelude.{◌≡◌, List, [], ◌∷◌, ◌++◌, map, refl}
use Rattle.std.specs.List.{flat_map}
use Rattle.std.proofs.Common.{ap}
use Rattle.ivy_syntax.specs.declared.tree.Expr.{Expr}
use Rattle.ivy_syntax.specs.declared.tree.Word.{Word}
use Rattle.ivy_syntax.specs.declared.tree.Group.{Group}
use Rattle.ivy_syntax.specs.declared.tree.Req.{Req}
use Rattle.ivy_syntax.specs.declared.tree.Stmt.{Stmt}
use Rattle.ivy_syntax.specs.declared.tree.Stmt.TheVariants as statements
use Rattle.ivy_syntax.specs.declared.tree.ClauseTree.{ClauseTree}
use Rattle.ivy_syntax.specs.declared.tree.Contract.{Contract}
use Rattle.ivy_syntax.specs.declared.tree.Source.{Source}
use Rattle.ivy_syntax.specs.declared.lexeme.Keyword.TheVariants as keyword
use Rattle.ivy_syntax.specs.declared.lexeme.Symbol.TheVariants as symbol
use Rattle.ivy_syntax.specs.Token.{Token, Name}
use Rattle.ivy_syntax.specs.Token as token
use Rattle.ivy_syntax.specs.declared.level.Level.{Level}
use Rattle.ivy_syntax.specs.declared.level.Level.TheVariants.{Or}
use Rattle.ivy_syntax.specs.Shown.{separated, Show, tokens_by, tokens_at, word_tokens, group_tokens, params_tokens}
use Rattle.ivy_syntax.specs.Shown.{req_tokens, requires_tokens, stmt_tokens, clause_tokens, contract_tokens, shown}
use Rattle.ivy_syntax.specs.Unplaced.{unplaced_expr, unplaced_word, unplaced_group, unplaced_req, unplaced_stmt}
use Rattle.ivy_syntax.specs.Unplaced.{unplaced_clause, unplaced_contract, unplaced}
use Rattle.ivy_syntax.proofs.ExprFolds.{fold_unplaced}

-- ---- each of a list

pub mapped_same : {A B : Type 0} (f : A → B) (bare : A → A) → ((x : A) → f (bare x) ≡ f x) → (xs : List A)
    → map f (map bare xs) ≡ map f xs
mapped_same f bare same [] = refl
mapped_same f bare same (x ∷ xs) = λ i. same x i ∷ mapped_same f bare same xs i

flat_same : {A B : Type 0} (f : A → List B) (bare : A → A) → ((x : A) → f (bare x) ≡ f x) → (xs : List A)
    → flat_map f (map bare xs) ≡ flat_map f xs
flat_same f bare same [] = refl
flat_same f bare same (x ∷ xs) = λ i. same x i ++ flat_same f bare same xs i

-- ---- each part

tokens_same : (place : Level) (e : Expr) → tokens_at place (unplaced_expr e) ≡ tokens_at place e
tokens_same place e =
    ap (λ (f : Show). f place) (fold_unplaced Show Show tokens_by (λ e. e.form) (λ from at f. refl) e)

words_same : (words : List Word)
    → separated (map word_tokens (map unplaced_word words)) ≡ separated (map word_tokens words)
words_same words = ap separated (mapped_same word_tokens unplaced_word (λ w. refl) words)

group_same : (g : Group) → group_tokens (unplaced_group g) ≡ group_tokens g
group_same g =
    ap (λ (l : List Token). l ++ (token.Sign symbol.Colon ∷ Name g.kind.name ∷ [])) (words_same g.names)

params_same : (groups : List Group) → params_tokens (map unplaced_group groups) ≡ params_tokens groups
params_same groups = ap separated (mapped_same group_tokens unplaced_group group_same groups)

req_same : (r : Req) → req_tokens (unplaced_req r) ≡ req_tokens r
req_same r = λ i. Name r.name.name ∷ token.Sign symbol.Colon
    ∷ (tokens_same Or r.amount i ++ (token.Word keyword.Of ∷ tokens_same Or r.asset i))

requires_same : (reqs : List Req) → requires_tokens (map unplaced_req reqs) ≡ requires_tokens reqs
requires_same [] = refl
requires_same (r ∷ reqs) =
    ap (λ (l : List (List Token)). token.Word keyword.Requires ∷ separated l)
    (mapped_same req_tokens unplaced_req req_same (r ∷ reqs))

stmt_same : (s : Stmt) → stmt_tokens (unplaced_stmt s) ≡ stmt_tokens s
stmt_same (statements.Verify at e) = ap (λ (l : List Token). token.Word keyword.Verify ∷ l) (tokens_same Or e)
stmt_same (statements.Lock at value program) =
    ap (λ (l : List Token). token.Word keyword.Lock ∷ Name value.name ∷ token.Word keyword.With ∷ l)
    (tokens_same Or program)
stmt_same (statements.Unlock at value) = refl

clause_same : (c : ClauseTree) → clause_tokens (unplaced_clause c) ≡ clause_tokens c
clause_same c = λ i. token.Word keyword.Clause ∷ Name c.name.name ∷ token.Sign symbol.OpenParen
    ∷ (params_same c.params i ++ (token.Sign symbol.CloseParen
    ∷ (requires_same c.reqs i ++ (token.Sign symbol.OpenBrace
    ∷ (flat_same stmt_tokens unplaced_stmt stmt_same c.stmts i ++ (token.Sign symbol.CloseBrace ∷ []))))))

contract_same : (c : Contract) → contract_tokens (unplaced_contract c) ≡ contract_tokens c
contract_same c = λ i. token.Word keyword.Contract ∷ Name c.name.name ∷ token.Sign symbol.OpenParen
    ∷ (params_same c.params i ++ (token.Sign symbol.CloseParen ∷ token.Word keyword.Locks
    ∷ Name c.value.name ∷ token.Sign symbol.OpenBrace
    ∷ (flat_same clause_tokens unplaced_clause clause_same c.clauses i ++ (token.Sign symbol.CloseBrace ∷ []))))

-- What is printed of a source without its places is what is printed of it.
pub shown_unplaced : (source : Source) → shown (unplaced source) ≡ shown source
shown_unplaced source = flat_same contract_tokens unplaced_contract contract_same source.contracts
