-- What tokens read as, the tokens that are printed of it do.
use Rattle.std.specs.Prelude.{◌≡◌, ℕ, List, [], ◌∷◌, ◌++◌, map, refl}
use Rattle.std.specs.List.{flat_map}
use mathlib.Core.List.{append-nil}
use Rattle.std.proofs.Common.{sym, ap, ◌∙◌, subst}
use Rattle.std.proofs.lemmas.List.{map-append}
use Rattle.grammars.specs.Places.{kinds, single_of, none_of}
use Rattle.ivy_syntax.specs.declared.tree.Expr.{Expr}
use Rattle.ivy_syntax.specs.declared.tree.Word.{Word}
use Rattle.ivy_syntax.specs.declared.tree.Group.{Group}
use Rattle.ivy_syntax.specs.declared.tree.Req.{Req}
use Rattle.ivy_syntax.specs.declared.tree.Stmt.{Stmt}
use Rattle.ivy_syntax.specs.declared.tree.Stmt.TheVariants as statements
use Rattle.ivy_syntax.specs.declared.tree.ClauseTree.{ClauseTree}
use Rattle.ivy_syntax.specs.declared.tree.Contract.{Contract}
use Rattle.ivy_syntax.specs.declared.tree.Source.{Source}
use Rattle.ivy_syntax.specs.declared.lexeme.Keyword.TheVariants as keyword
use Rattle.ivy_syntax.specs.declared.lexeme.Symbol.TheVariants as symbol
use Rattle.ivy_syntax.specs.Token.{Token, Name}
use Rattle.ivy_syntax.specs.Token as token
use Rattle.ivy_syntax.specs.Tokens.{Placed}
use Rattle.ivy_syntax.specs.declared.level.Level.TheVariants.{Or}
use Rattle.ivy_syntax.specs.Grammar.{word, Names, a_name_alone, more_names, IsGroup, group, Groups, a_group}
use Rattle.ivy_syntax.specs.Grammar.{more_groups, Params, no_params, params, IsReq, req, ReqList, a_req, more_reqs}
use Rattle.ivy_syntax.specs.Grammar.{Requires, no_requires, requires, IsStmt, verify, lock, unlock, Stmts, a_stmt}
use Rattle.ivy_syntax.specs.Grammar.{more_stmts, IsClause, clause, Clauses, a_clause, more_clauses, IsContract}
use Rattle.ivy_syntax.specs.Grammar.{contract, Contracts, a_contract, more_contracts, File, file}
use Rattle.ivy_syntax.specs.Shown.{separated, tokens_at, word_tokens, group_tokens, params_tokens, req_tokens}
use Rattle.ivy_syntax.specs.Shown.{requires_tokens, stmt_tokens, clause_tokens, contract_tokens, shown}
use Rattle.ivy_syntax.specs.Unplaced.{unplaced_word, unplaced_group, unplaced_req, unplaced_stmt, unplaced_clause}
use Rattle.ivy_syntax.specs.Unplaced.{unplaced_contract, unplaced}
use Rattle.ivy_syntax.proofs.ShownParts.{IsSome, some_more, separated_more, flat_more}
use Rattle.ivy_syntax.proofs.Splits.{headed, parted, halved, closed}
use Rattle.ivy_syntax.proofs.ReprintedExprs.{expr_reprinted}

-- What reads so does, with the tokens that are printed of it at any places, as the same apart from the places.
abbrev Reprints : {V : Type 0} → (List Placed → V → Type 0) → (V → List Token) → (V → V) → Type 0
Reprints X tokens bare =
    (u : List Placed) (v : _) → X u v → (w : List Placed) → kinds w ≡ tokens v
    → (x : _) × X w x × (bare x ≡ bare v)

bare_more : {A : Type 0} (bare : A → A) (xs ys : List A) (x y : A) → map bare xs ≡ map bare ys → bare x ≡ bare y
    → map bare (xs ++ (x ∷ [])) ≡ map bare (ys ++ (y ∷ []))
bare_more bare xs ys x y same one =
    map-append bare xs (x ∷ []) ∙ (λ i. same i ++ (one i ∷ [])) ∙ sym (map-append bare ys (y ∷ []))

-- ---- parameters

pub some_names : (u : List Placed) (words : List Word) → Names u words → IsSome words
some_names _ _ (a_name_alone name at) = tt
some_names _ _ (more_names {words = words} comma name at h) = some_more words (word name at)

names_reprinted : Reprints Names (λ words. separated (map word_tokens words)) (map unplaced_word)
names_reprinted _ _ (a_name_alone name at) w same =
    let f = single_of (Name name) w same in
    (word name f.0 ∷ [], subst (λ w. Names w (word name f.0 ∷ [])) (sym f.1) (a_name_alone name f.0), refl)
names_reprinted _ _ (more_names {u = a} {words = words} comma name at h) w same =
    let m = halved (separated (map word_tokens words)) (token.Sign symbol.Comma) (Name name ∷ []) w
    (same ∙ separated_more word_tokens words (word name at) (some_names a words h)) in
    let f = single_of (Name name) m.second m.same_second in
    let r = names_reprinted a words h m.first m.same_first in (
      r.0 ++ (word name f.0 ∷ []),
      subst (λ w. Names w (r.0 ++ (word name f.0 ∷ []))) (cc (m.all, f.1)) (more_names m.place name f.0 r.1),
      bare_more unplaced_word r.0 words (word name f.0) (word name at) r.2 refl,
    )

group_reprinted : Reprints IsGroup group_tokens unplaced_group
group_reprinted _ _ (group {u = a} {words = words} colon kind at h) w same =
    let m = halved (separated (map word_tokens words)) (token.Sign symbol.Colon) (Name kind ∷ []) w same in
    let f = single_of (Name kind) m.second m.same_second in
    let r = names_reprinted a words h m.first m.same_first in
    let g : Group = record { names = r.0; kind = word kind f.0 } in (
      g,
      subst (λ w. IsGroup w g) (cc (m.all, f.1)) (group m.place kind f.0 r.1),
      ap (λ (l : List Word). record { names = l; kind = word kind 0 }) r.2,
    )

pub some_groups : (u : List Placed) (groups : List Group) → Groups u groups → IsSome groups
some_groups u _ (a_group h) = tt
some_groups _ _ (more_groups {groups = groups} {g = g} comma h k) = some_more groups g

groups_reprinted : Reprints Groups params_tokens (map unplaced_group)
groups_reprinted u _ (a_group {g = g} h) w same =
    let r = group_reprinted u g h w same in (r.0 ∷ [], a_group r.1, ap (λ (g : Group). g ∷ []) r.2)
groups_reprinted _ _ (more_groups {u = a} {w = b} {groups = groups} {g = g} comma h k) w same =
    let m = halved (params_tokens groups) (token.Sign symbol.Comma) (group_tokens g) w
    (same ∙ separated_more group_tokens groups g (some_groups a groups h)) in
    let l = groups_reprinted a groups h m.first m.same_first in
    let r = group_reprinted b g k m.second m.same_second in (
      l.0 ++ (r.0 ∷ []),
      subst (λ w. Groups w (l.0 ++ (r.0 ∷ []))) (sym m.all) (more_groups m.place l.1 r.1),
      bare_more unplaced_group l.0 groups r.0 g l.2 r.2,
    )

params_reprinted : Reprints Params params_tokens (map unplaced_group)
params_reprinted _ _ no_params w same = ([], subst (λ w. Params w []) (sym (none_of w same)) no_params, refl)
params_reprinted u groups (params h) w same =
    let r = groups_reprinted u groups h w same in (r.0, params r.1, r.2)

-- ---- requirements

req_reprinted : (depth : ℕ) → Reprints (IsReq depth) req_tokens unplaced_req
req_reprinted depth _ _ (req {u = a} {w = b} {amount = amount} {asset = asset} name at colon of h k) w same =
    let f = headed (Name name) (token.Sign symbol.Colon
    ∷ (tokens_at Or amount ++ (token.Word keyword.Of ∷ tokens_at Or asset))) w same in
    let c = headed (token.Sign symbol.Colon) (tokens_at Or amount ++ (token.Word keyword.Of ∷ tokens_at Or asset))
    f.behind f.same in
    let m = halved (tokens_at Or amount) (token.Word keyword.Of) (tokens_at Or asset) c.behind c.same in
    let l = expr_reprinted Or depth a amount h m.first m.same_first in
    let r = expr_reprinted Or depth b asset k m.second m.same_second in
    let v : Req = record { name = word name f.place; amount = l.0; asset = r.0 } in (
      v,
      subst (λ w. IsReq depth w v) (cc (f.all, c.all, m.all)) (req name f.place c.place m.place l.1 r.1),
      λ i. record { name = word name 0; amount = l.2 i; asset = r.2 i },
    )

pub some_reqs : (depth : ℕ) (u : List Placed) (reqs : List Req) → ReqList depth u reqs → IsSome reqs
some_reqs depth u _ (a_req h) = tt
some_reqs depth _ _ (more_reqs {reqs = reqs} {r = r} comma h k) = some_more reqs r

reqs_reprinted : (depth : ℕ)
    → Reprints (ReqList depth) (λ reqs. separated (map req_tokens reqs)) (map unplaced_req)
reqs_reprinted depth u _ (a_req {r = v} h) w same =
    let r = req_reprinted depth u v h w same in (r.0 ∷ [], a_req r.1, ap (λ (r : Req). r ∷ []) r.2)
reqs_reprinted depth _ _ (more_reqs {u = a} {w = b} {reqs = reqs} {r = v} comma h k) w same =
    let m = halved (separated (map req_tokens reqs)) (token.Sign symbol.Comma) (req_tokens v) w
    (same ∙ separated_more req_tokens reqs v (some_reqs depth a reqs h)) in
    let l = reqs_reprinted depth a reqs h m.first m.same_first in
    let r = req_reprinted depth b v k m.second m.same_second in (
      l.0 ++ (r.0 ∷ []),
      subst (λ w. ReqList depth w (l.0 ++ (r.0 ∷ []))) (sym m.all) (more_reqs m.place l.1 r.1),
      bare_more unplaced_req l.0 reqs r.0 v l.2 r.2,
    )

pub requires_some : (reqs : List Req) → IsSome reqs
    → requires_tokens reqs ≡ token.Word keyword.Requires ∷ separated (map req_tokens reqs)
requires_some [] some = absurd some
requires_some (r ∷ reqs) some = refl

requires_reprinted : (depth : ℕ) → Reprints (Requires depth) requires_tokens (map unplaced_req)
requires_reprinted depth _ _ no_requires w same =
    ([], subst (λ w. Requires depth w []) (sym (none_of w same)) no_requires, refl)
requires_reprinted depth _ _ (requires {u = a} {reqs = reqs} at h) w same =
    let f = headed (token.Word keyword.Requires) (separated (map req_tokens reqs)) w
    (same ∙ requires_some reqs (some_reqs depth a reqs h)) in
    let r = reqs_reprinted depth a reqs h f.behind f.same in
    (r.0, subst (λ w. Requires depth w r.0) (sym f.all) (requires f.place r.1), r.2)

-- ---- statements

stmt_reprinted : (depth : ℕ) → Reprints (IsStmt depth) stmt_tokens unplaced_stmt
stmt_reprinted depth _ _ (verify {u = a} {e = e} at h) w same =
    let f = headed (token.Word keyword.Verify) (tokens_at Or e) w same in
    let r = expr_reprinted Or depth a e h f.behind f.same in (
      statements.Verify f.place r.0,
      subst (λ w. IsStmt depth w (statements.Verify f.place r.0)) (sym f.all) (verify f.place r.1),
      ap (λ (e : Expr). statements.Verify 0 e) r.2,
    )
stmt_reprinted depth _ _ (lock {u = a} {e = e} at name place with h) w same =
    let f = headed (token.Word keyword.Lock) (Name name ∷ token.Word keyword.With ∷ tokens_at Or e) w same in
    let n = headed (Name name) (token.Word keyword.With ∷ tokens_at Or e) f.behind f.same in
    let t = headed (token.Word keyword.With) (tokens_at Or e) n.behind n.same in
    let r = expr_reprinted Or depth a e h t.behind t.same in
    let v : Stmt = statements.Lock f.place (word name n.place) r.0 in (
      v,
      subst (λ w. IsStmt depth w v) (cc (f.all, n.all, t.all)) (lock f.place name n.place t.place r.1),
      ap (λ (e : Expr). statements.Lock 0 (word name 0) e) r.2,
    )
stmt_reprinted depth _ _ (unlock at name place) w same =
    let f = headed (token.Word keyword.Unlock) (Name name ∷ []) w same in
    let n = single_of (Name name) f.behind f.same in
    let v : Stmt = statements.Unlock f.place (word name n.0) in
    (v, subst (λ w. IsStmt depth w v) (cc (f.all, n.1)) (unlock f.place name n.0), refl)

stmts_reprinted : (depth : ℕ) → Reprints (Stmts depth) (flat_map stmt_tokens) (map unplaced_stmt)
stmts_reprinted depth u _ (a_stmt {s = v} h) w same =
    let r = stmt_reprinted depth u v h w (same ∙ append-nil (stmt_tokens v)) in
    (r.0 ∷ [], a_stmt r.1, ap (λ (s : Stmt). s ∷ []) r.2)
stmts_reprinted depth _ _ (more_stmts {u = a} {w = b} {stmts = stmts} {s = v} h k) w same =
    let m = parted (flat_map stmt_tokens stmts) (stmt_tokens v) w (same ∙ flat_more stmt_tokens stmts v) in
    let l = stmts_reprinted depth a stmts h m.first m.same_first in
    let r = stmt_reprinted depth b v k m.second m.same_second in (
      l.0 ++ (r.0 ∷ []),
      subst (λ w. Stmts depth w (l.0 ++ (r.0 ∷ []))) (sym m.all) (more_stmts l.1 r.1),
      bare_more unplaced_stmt l.0 stmts r.0 v l.2 r.2,
    )

-- ---- clauses

clause_reprinted : (depth : ℕ) → Reprints (IsClause depth) clause_tokens unplaced_clause
clause_reprinted depth _ _ (clause {u = a} {v = b} {w = c} {groups = groups} {reqs = reqs} {stmts = stmts} at name
    place first last begin end h k l) w same =
    let f1 = headed (token.Word keyword.Clause) (Name name ∷ token.Sign symbol.OpenParen ∷ inner) w same in
    let f2 = headed (Name name) (token.Sign symbol.OpenParen ∷ inner) f1.behind f1.same in
    let f3 = headed (token.Sign symbol.OpenParen) inner f2.behind f2.same in
    let m1 = halved (params_tokens groups) (token.Sign symbol.CloseParen) body f3.behind f3.same in
    let m2 = halved (requires_tokens reqs) (token.Sign symbol.OpenBrace)
    (flat_map stmt_tokens stmts ++ (token.Sign symbol.CloseBrace ∷ [])) m1.second m1.same_second in
    let e = closed (flat_map stmt_tokens stmts) (token.Sign symbol.CloseBrace) m2.second m2.same_second in
    let p = params_reprinted a groups h m1.first m1.same_first in
    let q = requires_reprinted depth b reqs k m2.first m2.same_first in
    let s = stmts_reprinted depth c stmts l e.first e.same in
    let v : ClauseTree = record { name = word name f2.place; params = p.0; reqs = q.0; stmts = s.0 } in (
      v,
      subst (λ w. IsClause depth w v) (cc (f1.all, f2.all, f3.all, m1.all, m2.all, e.all))
          (clause f1.place name f2.place f3.place m1.place m2.place e.place p.1 q.1 s.1),
      λ i. record { name = word name 0; params = p.2 i; reqs = q.2 i; stmts = s.2 i },
    )
  where
    body : List Token
    body = requires_tokens reqs ++ (token.Sign symbol.OpenBrace
        ∷ (flat_map stmt_tokens stmts ++ (token.Sign symbol.CloseBrace ∷ [])))

    inner : List Token
    inner = params_tokens groups ++ (token.Sign symbol.CloseParen ∷ body)

clauses_reprinted : (depth : ℕ) → Reprints (Clauses depth) (flat_map clause_tokens) (map unplaced_clause)
clauses_reprinted depth u _ (a_clause {c = v} h) w same =
    let r = clause_reprinted depth u v h w (same ∙ append-nil (clause_tokens v)) in
    (r.0 ∷ [], a_clause r.1, ap (λ (c : ClauseTree). c ∷ []) r.2)
clauses_reprinted depth _ _ (more_clauses {u = a} {w = b} {clauses = clauses} {c = v} h k) w same =
    let m = parted (flat_map clause_tokens clauses) (clause_tokens v) w (same ∙ flat_more clause_tokens clauses v) in
    let l = clauses_reprinted depth a clauses h m.first m.same_first in
    let r = clause_reprinted depth b v k m.second m.same_second in (
      l.0 ++ (r.0 ∷ []),
      subst (λ w. Clauses depth w (l.0 ++ (r.0 ∷ []))) (sym m.all) (more_clauses l.1 r.1),
      bare_more unplaced_clause l.0 clauses r.0 v l.2 r.2,
    )

-- ---- contracts

contract_reprinted : (depth : ℕ) → Reprints (IsContract depth) contract_tokens unplaced_contract
contract_reprinted depth _ _ (contract {u = a} {w = c} {groups = groups} {clauses = clauses} at name place first last
    locks value held begin end h k) w same =
    let f1 = headed (token.Word keyword.Contract) (Name name ∷ token.Sign symbol.OpenParen ∷ inner) w same in
    let f2 = headed (Name name) (token.Sign symbol.OpenParen ∷ inner) f1.behind f1.same in
    let f3 = headed (token.Sign symbol.OpenParen) inner f2.behind f2.same in
    let m = halved (params_tokens groups) (token.Sign symbol.CloseParen)
    (token.Word keyword.Locks ∷ Name value ∷ token.Sign symbol.OpenBrace ∷ body) f3.behind f3.same in
    let f4 = headed (token.Word keyword.Locks) (Name value ∷ token.Sign symbol.OpenBrace ∷ body) m.second
    m.same_second in
    let f5 = headed (Name value) (token.Sign symbol.OpenBrace ∷ body) f4.behind f4.same in
    let f6 = headed (token.Sign symbol.OpenBrace) body f5.behind f5.same in
    let e = closed (flat_map clause_tokens clauses) (token.Sign symbol.CloseBrace) f6.behind f6.same in
    let p = params_reprinted a groups h m.first m.same_first in
    let q = clauses_reprinted depth c clauses k e.first e.same in
    let v : Contract =
    record { name = word name f2.place; params = p.0; value = word value f5.place; clauses = q.0 } in (
      v,
      subst (λ w. IsContract depth w v) (cc (f1.all, f2.all, f3.all, m.all, f4.all, f5.all, f6.all, e.all))
          (contract f1.place name f2.place f3.place m.place f4.place value f5.place f6.place e.place p.1 q.1),
      λ i. record { name = word name 0; params = p.2 i; value = word value 0; clauses = q.2 i },
    )
  where
    body : List Token
    body = flat_map clause_tokens clauses ++ (token.Sign symbol.CloseBrace ∷ [])

    inner : List Token
    inner = params_tokens groups ++ (token.Sign symbol.CloseParen ∷ token.Word keyword.Locks ∷ Name value
        ∷ token.Sign symbol.OpenBrace ∷ body)

contracts_reprinted : (depth : ℕ) → Reprints (Contracts depth) (flat_map contract_tokens) (map unplaced_contract)
contracts_reprinted depth u _ (a_contract {c = v} h) w same =
    let r = contract_reprinted depth u v h w (same ∙ append-nil (contract_tokens v)) in
    (r.0 ∷ [], a_contract r.1, ap (λ (c : Contract). c ∷ []) r.2)
contracts_reprinted depth _ _ (more_contracts {u = a} {w = b} {contracts = contracts} {c = v} h k) w same =
    let m = parted (flat_map contract_tokens contracts) (contract_tokens v) w
    (same ∙ flat_more contract_tokens contracts v) in
    let l = contracts_reprinted depth a contracts h m.first m.same_first in
    let r = contract_reprinted depth b v k m.second m.same_second in (
      l.0 ++ (r.0 ∷ []),
      subst (λ w. Contracts depth w (l.0 ++ (r.0 ∷ []))) (sym m.all) (more_contracts l.1 r.1),
      bare_more unplaced_contract l.0 contracts r.0 v l.2 r.2,
    )

-- ---- the whole text

-- What a text reads as, the tokens that are printed of it do, within the same depth.
pub file_reprinted : (depth : ℕ) (u w : List Placed) (source : Source) → File depth u source
    → kinds w ≡ shown source → (tree : Source) × File depth w tree × (unplaced tree ≡ unplaced source)
file_reprinted depth u w _ (file {contracts = contracts} h) same =
    let r = contracts_reprinted depth u contracts h w same in
    let v : Source = record { contracts = r.0 } in
    (v, file r.1, ap (λ (l : List Contract). record { contracts = l }) r.2)
