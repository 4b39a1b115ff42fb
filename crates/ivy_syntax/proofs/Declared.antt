-- What the grammar says of parameters, requirements and statements is what their parts read.
use Rattle.std.specs.Prelude.{◌≡◌, ℕ, true, List, [], ◌∷◌, ◌++◌, refl}
use Rattle.std.proofs.Common.{sym, ap, ◌∙◌, subst, true≢false}
use Rattle.grammars.specs.Part.{Part}
use Rattle.grammars.specs.Sequence.{Within}
use Rattle.grammars.specs.Bits.{Made, Opened}
use Rattle.grammars.specs.Once.{Not, One}
use Rattle.grammars.specs.Depth.{Any, together}
use Rattle.grammars.specs.Gathered.{one_item, and_item, gathered_reads, gathered_one, gathered_more}
use Rattle.grammars.specs.Gathered.{repeated_reads, Led, led_one, led_more}
use Rattle.grammars.specs.Perhaps.{Missing, Stands}
use Rattle.grammars.specs.Taken.{made_of, made_is, closed_of, closed_is, opened_of, opened_is, same_part}
use Rattle.ivy_syntax.specs.declared.tree.Expr.{Expr}
use Rattle.ivy_syntax.specs.declared.tree.Word.{Word}
use Rattle.ivy_syntax.specs.declared.tree.Group.{Group}
use Rattle.ivy_syntax.specs.declared.tree.Req.{Req}
use Rattle.ivy_syntax.specs.declared.tree.Stmt.{Stmt}
use Rattle.ivy_syntax.specs.declared.tree.Stmt.TheVariants as statements
use Rattle.ivy_syntax.specs.declared.lexeme.Keyword.TheVariants as keyword
use Rattle.ivy_syntax.specs.declared.lexeme.Symbol.TheVariants as symbol
use Rattle.ivy_syntax.specs.Token.{Token, Name}
use Rattle.ivy_syntax.specs.Token as token
use Rattle.ivy_syntax.specs.Tokens.{Placed}
use Rattle.ivy_syntax.specs.declared.level.Level.TheVariants.{Or}
use Rattle.ivy_syntax.specs.Grammar.{Reads, word, Names, a_name_alone, more_names, IsGroup, group, Groups}
use Rattle.ivy_syntax.specs.Grammar.{a_group, more_groups, Params, no_params, params, IsReq, req, ReqList, a_req}
use Rattle.ivy_syntax.specs.Grammar.{more_reqs}
use Rattle.ivy_syntax.specs.Grammar.{Requires, no_requires, requires, IsStmt, verify, lock, unlock, Stmts, a_stmt}
use Rattle.ivy_syntax.specs.Grammar.{more_stmts}
use Rattle.ivy_syntax.specs.Descent.{the_sign, the_word, named, group_of, req_of, begins_stmt, close_paren}
use Rattle.ivy_syntax.proofs.Pieces.{sign_is, word_is, the_sign_is, the_word_is, named_is}
use Rattle.ivy_syntax.proofs.Growth.{reads_grow, req_grows, reqs_grow, stmt_grows, stmts_grow}
use Rattle.ivy_syntax.proofs.Operands.{is_comma, Listed}
use Rattle.ivy_syntax.proofs.Parts.{Name_part, Group_part, Params_part, Amount_part, Req_part, Requires_part}
use Rattle.ivy_syntax.proofs.Parts.{Verify_part}
use Rattle.ivy_syntax.proofs.Parts.{Lock_part, Unlock_part, Stmt_part, Stmts_part, stmt_begins}

-- an expression within some bound
abbrev O : Part Placed Expr
O = Any (Reads Or)

-- ---- parameters

a_name_part : (name : List ℕ) (at : ℕ) → Name_part ((Name name, at) ∷ []) (word name at)
a_name_part name at = record { token = (Name name, at); one = refl; means = refl }

pub to_names : Within Names (Listed Name_part)
to_names _ _ (a_name_alone name at) = gathered_one is_comma one_item and_item Name_part (λ t. Name_part)
    ((Name name, at) ∷ []) (word name at) (a_name_part name at)
to_names _ _ (more_names {u = u} {words = words} comma name at h) =
    gathered_more is_comma one_item and_item Name_part (λ t. Name_part) u ((Name name, at) ∷ [])
    (token.Sign symbol.Comma, comma) words (word name at) (to_names u words h) refl (a_name_part name at)

pub of_names : Within (Listed Name_part) Names
of_names = gathered_reads is_comma one_item and_item Name_part (λ t. Name_part) Names one more
  where
    one : (u : List Placed) (w : Word) → Name_part u w → Names u (w ∷ [])
    one u w h =
        let f = named_is h.token w h.means in
        same_part Names u ((Name f.0, h.token.1) ∷ []) (w ∷ []) (word f.0 h.token.1 ∷ [])
        (h.one ∙ ap (λ t. t ∷ []) f.1) (ap (λ w. w ∷ []) f.2) (a_name_alone f.0 h.token.1)

    more : (u v : List Placed) (t : Placed) (words : List Word) (w : Word) → Names u words → is_comma t ≡ true
        → Name_part v w → Names (u ++ (t ∷ v)) (words ++ (w ∷ []))
    more u v t words w h is k =
        let f = named_is k.token w k.means in
        same_part Names (u ++ (t ∷ v)) (u ++ ((token.Sign symbol.Comma, t.1) ∷ (Name f.0, k.token.1) ∷ []))
        (words ++ (w ∷ [])) (words ++ (word f.0 k.token.1 ∷ []))
        (ap (λ t. u ++ (t ∷ v)) (sign_is symbol.Comma t is)
        ∙ ap (λ v. u ++ ((token.Sign symbol.Comma, t.1) ∷ v)) (k.one ∙ ap (λ t. t ∷ []) f.1))
        (ap (λ w. words ++ (w ∷ [])) f.2) (more_names t.1 f.0 k.token.1 h)

pub to_group : Within IsGroup Group_part
to_group _ _ (group {u = u} {words = words} colon kind at h) = record {
  first = u;
  second = (token.Sign symbol.Colon, colon) ∷ (Name kind, at) ∷ [];
  value = words;
  joined = refl;
  reads_first = to_names u words h;
  reads_second = opened_of (the_sign symbol.Colon) (λ c. Made (group_of words) Name_part)
      (token.Sign symbol.Colon, colon) (token.Sign symbol.Colon, colon) ((Name kind, at) ∷ [])
      (group_of words (word kind at)) refl
      (made_of (group_of words) Name_part ((Name kind, at) ∷ []) (word kind at) (a_name_part kind at));
}

pub of_group : Within Group_part IsGroup
of_group u g h =
    let o = opened_is (the_sign symbol.Colon) (λ c. Made (group_of h.value) Name_part) h.second g h.reads_second in
    let m = made_is (group_of h.value) Name_part o.behind g o.reads in
    let f = named_is m.1.token m.0 m.1.means in
    let colon = the_sign_is symbol.Colon o.token o.means_as o.means in
    same_part IsGroup u
    (h.first ++ ((token.Sign symbol.Colon, o.token.1) ∷ (Name f.0, m.1.token.1) ∷ [])) g
    (group_of h.value (word f.0 m.1.token.1)) (cc (h.joined, o.all, colon, m.1.one, f.1))
    (m.2 ∙ ap (group_of h.value) f.2)
    (group o.token.1 f.0 m.1.token.1 (of_names h.first h.value h.reads_first))

pub to_groups : Within Groups (Listed Group_part)
to_groups u _ (a_group {g = g} h) = gathered_one is_comma one_item and_item Group_part (λ t. Group_part) u g
    (to_group u g h)
to_groups _ _ (more_groups {u = u} {w = w} {groups = groups} {g = g} comma h k) =
    gathered_more is_comma one_item and_item Group_part (λ t. Group_part) u w (token.Sign symbol.Comma, comma) groups g
    (to_groups u groups h) refl (to_group w g k)

pub of_groups : Within (Listed Group_part) Groups
of_groups = gathered_reads is_comma one_item and_item Group_part (λ t. Group_part) Groups
    (λ u g h. a_group (of_group u g h))
    (λ u w t groups g h is k. subst (λ t. Groups (u ++ (t ∷ w)) (groups ++ (g ∷ []))) (sym (sign_is symbol.Comma t is))
    (more_groups t.1 h (of_group w g k)))

-- parameters, with the parenthesis after them
pub to_params : (u : List Placed) (groups : List Group) (last : ℕ) → Params u groups
    → Params_part (u ++ ((token.Sign symbol.CloseParen, last) ∷ [])) groups
to_params _ _ last no_params =
    Missing (token.Sign symbol.CloseParen, last) (token.Sign symbol.CloseParen, last) refl
to_params u groups last (params h) = Stands (u ++ ((token.Sign symbol.CloseParen, last) ∷ [])) groups
    (closed_of close_paren (Listed Group_part) u groups (token.Sign symbol.CloseParen, last)
    (token.Sign symbol.CloseParen, last) refl (to_groups u groups h))

pub record Params_parts (u : List Placed) (groups : List Group) : Type 0 where
  pub inner : List Placed
  pub last : ℕ
  pub all : u ≡ inner ++ ((token.Sign symbol.CloseParen, last) ∷ [])
  pub reads : Params inner groups

pub params_parts : (u : List Placed) (groups : List Group) → Params_part u groups → Params_parts u groups
params_parts _ _ (Missing t e is) = record {
  inner = [];
  last = t.1;
  all = ap (λ t. t ∷ []) (the_sign_is symbol.CloseParen t e is);
  reads = no_params;
}
params_parts u groups (Stands _ _ h) =
    let c = closed_is close_paren (Listed Group_part) u groups h in
    record {
      inner = c.inner;
      last = c.token.1;
      all = c.all ∙ ap (λ t. c.inner ++ (t ∷ [])) (the_sign_is symbol.CloseParen c.token c.meaning c.means);
      reads = params (of_groups c.inner groups c.reads);
    }

-- ---- requirements

pub to_req : (depth : ℕ) (Z : Part Placed Expr) → Within (Reads Or depth) Z → Within (IsReq depth) (Req_part Z)
to_req depth Z inside _ _ (req {u = u} {w = w} {amount = amount} {asset = asset} name at colon of h k) =
    opened_of named (λ n. Opened (the_sign symbol.Colon) (λ c. Amount_part Z n)) (Name name, at) (word name at) _ _ refl
    (opened_of (the_sign symbol.Colon) (λ c. Amount_part Z (word name at)) (token.Sign symbol.Colon, colon)
    (token.Sign symbol.Colon, colon) _ _ refl amount_part)
  where
    amount_part : Amount_part Z (word name at) (u ++ ((token.Word keyword.Of, of) ∷ w))
        (req_of (word name at) amount asset)
    amount_part = record {
      first = u;
      second = (token.Word keyword.Of, of) ∷ w;
      value = amount;
      joined = refl;
      reads_first = inside u amount h;
      reads_second = opened_of (the_word keyword.Of) (λ o. Made (req_of (word name at) amount) Z)
          (token.Word keyword.Of, of) (token.Word keyword.Of, of) w (req_of (word name at) amount asset) refl
          (made_of (req_of (word name at) amount) Z w asset (inside w asset k));
    }

record Req_parts (Z : Part Placed Expr) (u : List Placed) (r : Req) : Type 0 where
  name : List ℕ
  at : ℕ
  colon : ℕ
  of : ℕ
  first : List Placed
  second : List Placed
  amount : Expr
  asset : Expr
  all : u ≡ (Name name, at) ∷ (token.Sign symbol.Colon, colon) ∷ (first ++ ((token.Word keyword.Of, of) ∷ second))
  value : r ≡ req_of (word name at) amount asset
  reads_amount : Z first amount
  reads_asset : Z second asset

req_parts : (Z : Part Placed Expr) (u : List Placed) (r : Req) → Req_part Z u r → Req_parts Z u r
req_parts Z u r h =
    let n = opened_is named (λ n. Opened (the_sign symbol.Colon) (λ c. Amount_part Z n)) u r h in
    let f = named_is n.token n.means_as n.means in
    let c = opened_is (the_sign symbol.Colon) (λ c. Amount_part Z n.means_as) n.behind r n.reads in
    let a = c.reads in
    let o = opened_is (the_word keyword.Of) (λ o. Made (req_of n.means_as a.value) Z) a.second r a.reads_second in
    let m = made_is (req_of n.means_as a.value) Z o.behind r o.reads in
    let colon_is = the_sign_is symbol.Colon c.token c.means_as c.means in
    let of_is = the_word_is keyword.Of o.token o.means_as o.means in
    record {
      name = f.0;
      at = n.token.1;
      colon = c.token.1;
      of = o.token.1;
      first = a.first;
      second = o.behind;
      amount = a.value;
      asset = m.0;
      all = cc (n.all, f.1, c.all, colon_is, a.joined, o.all, of_is);
      value = m.2 ∙ ap (λ w. req_of w a.value m.0) f.2;
      reads_amount = a.reads_first;
      reads_asset = m.1;
    }

req_from : (depth : ℕ) (Z : Part Placed Expr) (u : List Placed) (r : Req) (p : Req_parts Z u r)
    → Reads Or depth p.first p.amount → Reads Or depth p.second p.asset → IsReq depth u r
req_from depth Z u r p h k = same_part (IsReq depth) u
    ((Name p.name, p.at) ∷ (token.Sign symbol.Colon, p.colon) ∷ (p.first ++ ((token.Word keyword.Of, p.of) ∷ p.second)))
    r (req_of (word p.name p.at) p.amount p.asset) p.all p.value (req p.name p.at p.colon p.of h k)

pub of_req : (depth : ℕ) → Within (Req_part (Reads Or depth)) (IsReq depth)
of_req depth u r h =
    let p = req_parts (Reads Or depth) u r h in req_from depth (Reads Or depth) u r p p.reads_amount p.reads_asset

pub any_req : Within (Req_part O) (Any IsReq)
any_req u r h =
    let p = req_parts O u r h in
    let both = together (Reads Or) (Reads Or) (reads_grow Or) (reads_grow Or) p.first p.second p.amount p.asset
    p.reads_amount p.reads_asset in
    (both.0, req_from both.0 O u r p both.1 both.2)

pub to_reqs : (depth : ℕ) (Z : Part Placed Expr) → Within (Reads Or depth) Z
    → Within (ReqList depth) (Listed (Req_part Z))
to_reqs depth Z inside u _ (a_req {r = r} h) =
    gathered_one is_comma one_item and_item (Req_part Z) (λ t. Req_part Z) u r (to_req depth Z inside u r h)
to_reqs depth Z inside _ _ (more_reqs {u = u} {w = w} {reqs = reqs} {r = r} comma h k) =
    gathered_more is_comma one_item and_item (Req_part Z) (λ t. Req_part Z) u w (token.Sign symbol.Comma, comma) reqs r
    (to_reqs depth Z inside u reqs h) refl (to_req depth Z inside w r k)

add_req : (depth : ℕ) (u w : List Placed) (t : Placed) (reqs : List Req) (r : Req) → ReqList depth u reqs
    → is_comma t ≡ true → IsReq depth w r → ReqList depth (u ++ (t ∷ w)) (reqs ++ (r ∷ []))
add_req depth u w t reqs r h is k =
    subst (λ t. ReqList depth (u ++ (t ∷ w)) (reqs ++ (r ∷ []))) (sym (sign_is symbol.Comma t is)) (more_reqs t.1 h k)

pub of_reqs : (depth : ℕ) → Within (Listed (Req_part (Reads Or depth))) (ReqList depth)
of_reqs depth = gathered_reads is_comma one_item and_item (Req_part (Reads Or depth)) (λ t. Req_part (Reads Or depth))
    (ReqList depth) (λ u r h. a_req (of_req depth u r h))
    (λ u w t reqs r h is k. add_req depth u w t reqs r h is (of_req depth w r k))

pub any_reqs : Within (Listed (Req_part O)) (Any ReqList)
any_reqs = gathered_reads is_comma one_item and_item (Req_part O) (λ t. Req_part O) (Any ReqList)
    (λ u r h. let a = any_req u r h in (a.0, a_req a.1))
    (λ u w t reqs r h is k.
    let both = together ReqList IsReq reqs_grow req_grows u w reqs r h (any_req w r k) in
    (both.0, add_req both.0 u w t reqs r both.1 is both.2))

pub to_requires : (depth : ℕ) (Z : Part Placed Expr) → Within (Reads Or depth) Z
    → Within (Requires depth) (Requires_part Z)
to_requires depth Z inside _ _ no_requires = Not []
to_requires depth Z inside _ reqs (requires {u = u} at h) =
    One (token.Word keyword.Requires, at) [] reqs u refl (to_reqs depth Z inside u reqs h)

pub of_requires : (depth : ℕ) → Within (Requires_part (Reads Or depth)) (Requires depth)
of_requires depth _ _ (Not _) = no_requires
of_requires depth _ _ (One t _ reqs w is h) =
    subst (λ t. Requires depth (t ∷ w) reqs) (sym (word_is keyword.Requires t is))
    (requires t.1 (of_reqs depth w reqs h))

pub any_requires : Within (Requires_part O) (Any Requires)
any_requires _ _ (Not _) = (0, no_requires)
any_requires _ _ (One t _ reqs w is h) =
    let a = any_reqs w reqs h in
    (a.0, subst (λ t. Requires a.0 (t ∷ w) reqs) (sym (word_is keyword.Requires t is)) (requires t.1 a.1))

-- ---- statements

abbrev Led_stmt : Part Placed Expr → Part Placed Stmt
Led_stmt Z = Led stmt_begins (λ t. Stmt_part Z t.0 t.1)

pub to_stmt : (depth : ℕ) (Z : Part Placed Expr) → Within (Reads Or depth) Z → Within (IsStmt depth) (Led_stmt Z)
to_stmt depth Z inside _ _ (verify {u = u} {e = e} at h) = record {
  token = (token.Word keyword.Verify, at);
  behind = u;
  all = refl;
  begins = refl;
  reads = made_of (statements.Verify at) Z u e (inside u e h);
}
to_stmt depth Z inside _ _ (lock {u = u} {e = e} at name place with h) = record {
  token = (token.Word keyword.Lock, at);
  behind = (Name name, place) ∷ (token.Word keyword.With, with) ∷ u;
  all = refl;
  begins = refl;
  reads = opened_of named (λ n. Opened (the_word keyword.With) (λ w. Made (statements.Lock at n) Z))
      (Name name, place)
      (word name place) _ _ refl
      (opened_of (the_word keyword.With) (λ w. Made (statements.Lock at (word name place)) Z)
      (token.Word keyword.With, with) (token.Word keyword.With, with) u _ refl
      (made_of (statements.Lock at (word name place)) Z u e (inside u e h)));
}
to_stmt depth Z inside _ _ (unlock at name place) = record {
  token = (token.Word keyword.Unlock, at);
  behind = (Name name, place) ∷ [];
  all = refl;
  begins = refl;
  reads = made_of (statements.Unlock at) Name_part ((Name name, place) ∷ []) (word name place)
      (a_name_part name place);
}

record Lock_parts (Z : Part Placed Expr) (at : ℕ) (u : List Placed) (s : Stmt) : Type 0 where
  name : List ℕ
  place : ℕ
  with : ℕ
  behind : List Placed
  expr : Expr
  all : u ≡ (Name name, place) ∷ (token.Word keyword.With, with) ∷ behind
  value : s ≡ statements.Lock at (word name place) expr
  reads : Z behind expr

lock_parts : (Z : Part Placed Expr) (at : ℕ) (u : List Placed) (s : Stmt) → Lock_part Z at u s → Lock_parts Z at u s
lock_parts Z at u s h =
    let n = opened_is named (λ n. Opened (the_word keyword.With) (λ w. Made (statements.Lock at n) Z)) u s h in
    let f = named_is n.token n.means_as n.means in
    let w = opened_is (the_word keyword.With) (λ w. Made (statements.Lock at n.means_as) Z) n.behind s n.reads in
    let m = made_is (statements.Lock at n.means_as) Z w.behind s w.reads in
    let with_is = the_word_is keyword.With w.token w.means_as w.means in
    record {
      name = f.0;
      place = n.token.1;
      with = w.token.1;
      behind = w.behind;
      expr = m.0;
      all = cc (n.all, f.1, w.all, with_is);
      value = m.2 ∙ ap (λ v. statements.Lock at v m.0) f.2;
      reads = m.1;
    }

of_verify : (depth : ℕ) (Z : Part Placed Expr) (at : ℕ) (w : List Placed) (s : Stmt) (h : Verify_part Z at w s)
    → Reads Or depth w (made_is (statements.Verify at) Z w s h).0 → IsStmt depth ((token.Word keyword.Verify, at) ∷ w) s
of_verify depth Z at w s h k = subst (λ s. IsStmt depth ((token.Word keyword.Verify, at) ∷ w) s)
    (sym (made_is (statements.Verify at) Z w s h).2) (verify at k)

of_lock : (depth : ℕ) (Z : Part Placed Expr) (at : ℕ) (w : List Placed) (s : Stmt) (p : Lock_parts Z at w s)
    → Reads Or depth p.behind p.expr → IsStmt depth ((token.Word keyword.Lock, at) ∷ w) s
of_lock depth Z at w s p k = same_part (IsStmt depth) ((token.Word keyword.Lock, at) ∷ w)
    ((token.Word keyword.Lock, at) ∷ (Name p.name, p.place) ∷ (token.Word keyword.With, p.with) ∷ p.behind) s
    (statements.Lock at (word p.name p.place) p.expr) (ap (λ w. (token.Word keyword.Lock, at) ∷ w) p.all) p.value
    (lock at p.name p.place p.with k)

of_unlock : (depth : ℕ) (at : ℕ) (w : List Placed) (s : Stmt) → Unlock_part at w s
    → IsStmt depth ((token.Word keyword.Unlock, at) ∷ w) s
of_unlock depth at w s h =
    let m = made_is (statements.Unlock at) Name_part w s h in
    let f = named_is m.1.token m.0 m.1.means in
    same_part (IsStmt depth) ((token.Word keyword.Unlock, at) ∷ w)
    ((token.Word keyword.Unlock, at) ∷ (Name f.0, m.1.token.1) ∷ []) s (statements.Unlock at (word f.0 m.1.token.1))
    (ap (λ w. (token.Word keyword.Unlock, at) ∷ w) (m.1.one ∙ ap (λ t. t ∷ []) f.1))
    (m.2 ∙ ap (statements.Unlock at) f.2) (unlock at f.0 m.1.token.1)

pub of_stmt : (depth : ℕ) (t : Token) (at : ℕ) (w : List Placed) (s : Stmt) → begins_stmt t ≡ true
    → Stmt_part (Reads Or depth) t at w s → IsStmt depth ((t, at) ∷ w) s
of_stmt depth (token.Word keyword.Verify) at w s is h =
    of_verify depth (Reads Or depth) at w s h (made_is (statements.Verify at) (Reads Or depth) w s h).1
of_stmt depth (token.Word keyword.Lock) at w s is h =
    let p = lock_parts (Reads Or depth) at w s h in of_lock depth (Reads Or depth) at w s p p.reads
of_stmt depth (token.Word keyword.Unlock) at w s is h = of_unlock depth at w s h
of_stmt depth _ at w s is h = absurd (true≢false (sym is))

pub any_stmt : (t : Token) (at : ℕ) (w : List Placed) (s : Stmt) → begins_stmt t ≡ true
    → Stmt_part O t at w s → Any IsStmt ((t, at) ∷ w) s
any_stmt (token.Word keyword.Verify) at w s is h =
    let m = made_is (statements.Verify at) O w s h in (m.1.0, of_verify m.1.0 O at w s h m.1.1)
any_stmt (token.Word keyword.Lock) at w s is h =
    let p = lock_parts O at w s h in (p.reads.0, of_lock p.reads.0 O at w s p p.reads.1)
any_stmt (token.Word keyword.Unlock) at w s is h = (0, of_unlock 0 at w s h)
any_stmt _ at w s is h = absurd (true≢false (sym is))

pub to_stmts : (depth : ℕ) (Z : Part Placed Expr) → Within (Reads Or depth) Z → Within (Stmts depth) (Stmts_part Z)
to_stmts depth Z inside u _ (a_stmt {s = s} h) =
    led_one stmt_begins (λ t. Stmt_part Z t.0 t.1) u s (to_stmt depth Z inside u s h)
to_stmts depth Z inside _ _ (more_stmts {u = u} {w = w} {stmts = stmts} {s = s} h k) =
    led_more stmt_begins (λ t. Stmt_part Z t.0 t.1) u w stmts s (to_stmts depth Z inside u stmts h)
    (to_stmt depth Z inside w s k)

pub of_stmts : (depth : ℕ) → Within (Stmts_part (Reads Or depth)) (Stmts depth)
of_stmts depth = repeated_reads stmt_begins (λ t. Stmt_part (Reads Or depth) t.0 t.1) (Stmts depth)
    (λ t w s is h. a_stmt (of_stmt depth t.0 t.1 w s is h))
    (λ u w t stmts s h is k. more_stmts h (of_stmt depth t.0 t.1 w s is k))

pub any_stmts : Within (Stmts_part O) (Any Stmts)
any_stmts = repeated_reads stmt_begins (λ t. Stmt_part O t.0 t.1) (Any Stmts)
    (λ t w s is h. let a = any_stmt t.0 t.1 w s is h in (a.0, a_stmt a.1))
    (λ u w t stmts s h is k.
    let both = together Stmts IsStmt stmts_grow stmt_grows u (t ∷ w) stmts s h (any_stmt t.0 t.1 w s is k) in
    (both.0, more_stmts both.1 both.2))
