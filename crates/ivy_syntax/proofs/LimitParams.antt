-- The counted limits in parameters, by the tree.
use Rattle.std.proofs.Common.{◌≡◌, ◌≤◌, ◌+◌, ◌-◌, ◌&&◌, ◌||◌, ℕ, suc, Bool, true, false, List, [], ◌∷◌, ◌++◌}
use Rattle.std.proofs.Common.{length, map, refl, ap, sym, ◌∙◌, subst, arith, None}
use Rattle.std.specs.Prelude.{nat_le, sum}
use Rattle.std.proofs.lemmas.List.{length-append, map-append}
use Rattle.std.proofs.lemmas.List.Sums.{sum_by-append}
use Rattle.ivy_syntax.specs.declared.tree.Word.{Word}
use Rattle.ivy_syntax.specs.declared.tree.Group.{Group}
use Rattle.ivy_syntax.specs.declared.lexeme.Symbol.TheVariants as symbol
use Rattle.ivy_syntax.specs.declared.lexeme.Kind.{Kind}
use Rattle.ivy_syntax.specs.declared.lexeme.Kind.TheVariants as kind
use Rattle.ivy_syntax.specs.Token as token
use Rattle.ivy_syntax.specs.Tokens.{Placed}
use Rattle.ivy_syntax.specs.Grammar.{word, Names, a_name_alone, more_names, IsGroup, group, Groups, a_group}
use Rattle.ivy_syntax.specs.Grammar.{more_groups, Params, no_params, params}
use Rattle.ivy_syntax.specs.Limits.{is_contract, is_clause, is_requires, is_comma, leads_param, takes_expressions}
use Rattle.ivy_syntax.specs.Limits.{holds}
use Rattle.ivy_syntax.specs.TreeLimits.{params_of}
use Rattle.ivy_syntax.proofs.LimitStates.{State, next, counted}
use Rattle.ivy_syntax.proofs.LimitExpressions.{listed, within, behind, told_by, less, test_less}
use Rattle.ivy_syntax.proofs.LimitReadings.{Reading, nothing_read, and_then, passing, ended, fits_as, ends_as}

-- between the parentheses of a contract or of a clause
pub record TakesParams (s : State) : Type 0 where
  pub owned : (holds is_contract s.section || holds is_clause s.section) ≡ true
  pub requires : holds is_requires s.part ≡ false
  pub takes : holds takes_expressions s.section ≡ false

-- names of parameters, with o operators before them, k last, p parameters and c commas
pub record ParamsRead (s : State) (o : ℕ) (k : Kind) (p c : ℕ) (u : List Placed) (count : ℕ) : Type 0 where
  pub operators : ℕ
  pub commas : ℕ
  pub reads : Reading (listed s o k p c) u (listed s operators kind.Name (p + count) commas) (count ≤ 32 - p)

recount : (s : State) (o : ℕ) (k : Kind) (p c : ℕ) (u : List Placed) (m n : ℕ) → m ≡ n → ParamsRead s o k p c u m
    → ParamsRead s o k p c u n
recount s o k p c u m n same r = subst (ParamsRead s o k p c u) same r

-- ---- a name

name_few : (leads first second comma req most few takes top : Bool) → leads ≡ true → (first || second) ≡ true
    → told_by (leads && first && most) 2 (told_by (leads && second && most) 4
    (told_by (comma && req && false && few) 5 (told_by (comma && takes && top) 8 None))) ≡ None
    → most ≡ false
name_few leads first second comma req false few takes top h k none = refl
name_few false first second comma req true few takes top h k none = absurd (cc)
name_few true true second comma req true few takes top h k none = absurd (cc)
name_few true false true comma req true few takes top h k none = absurd (cc)
name_few true false false comma req true few takes top h k none = absurd (cc)

few_names : (leads first second comma req most few takes top : Bool) → req ≡ false → takes ≡ false → most ≡ false
    → told_by (leads && first && most) 2 (told_by (leads && second && most) 4
    (told_by (comma && req && false && few) 5 (told_by (comma && takes && top) 8 None))) ≡ None
few_names leads first second comma true most few takes top h k l = absurd (cc)
few_names leads first second comma false most few true top h k l = absurd (cc)
few_names leads first second comma false true few false top h k l = absurd (cc)
few_names true true true true false false few false top h k l = refl
few_names true true true false false false few false top h k l = refl
few_names true true false true false false few false top h k l = refl
few_names true true false false false false few false top h k l = refl
few_names true false true true false false few false top h k l = refl
few_names true false true false false false few false top h k l = refl
few_names true false false true false false few false top h k l = refl
few_names true false false false false false few false top h k l = refl
few_names false first second true false false few false top h k l = refl
few_names false first second false false false few false top h k l = refl

one_name : (s : State) (o : ℕ) (k : Kind) (p c : ℕ) (name : List ℕ) (at : ℕ) → TakesParams s → leads_param k ≡ true
    → ParamsRead s o k p c ((token.Name name, at) ∷ []) 1
one_name s o k p c name at in_params leads =
    let here : State = listed s o k p c in
    let behind_it : State = listed s o kind.Name (p + 1) c in
    let next_is : next here kind.Name ≡ behind_it
    = ap (λ b. listed s o kind.Name (counted p false b) c) leads
    ∙ ap (λ n. listed s o kind.Name n c) (omega arith) in
    record {
      operators = o;
      commas = c;
      reads = record {
        runs = next_is;
        to = λ h. (let most = name_few (leads_param k) (holds is_contract s.section) (holds is_clause s.section)
            (is_comma k) (holds is_requires s.part) (nat_le 32 p) (nat_le 8 s.assets)
            (holds takes_expressions s.section) (nat_le 16 c) leads in_params.owned h.0 in
            omega (arith, less 32 p most));
        from = λ f. (
          few_names (leads_param k) (holds is_contract s.section) (holds is_clause s.section) (is_comma k)
              (holds is_requires s.part) (nat_le 32 p) (nat_le 8 s.assets)
              (holds takes_expressions s.section) (nat_le 16 c) in_params.requires in_params.takes
              (test_less 32 p (omega arith)),
          tt,
        );
      };
    }

-- ---- lists of them

behind_comma : (s : State) (o : ℕ) (k : Kind) (p c : ℕ) (u w : List Placed) (m n place : ℕ) → ParamsRead s o k p c u m
    → ((o p c : ℕ) → ParamsRead s o (kind.Sign symbol.Comma) p c w n)
    → ParamsRead s o k p c (u ++ ((token.Sign symbol.Comma, place) ∷ w)) (m + n)
behind_comma s o k p c u w m n place a right =
    let b = right a.operators (p + m) (suc a.commas) in
    let t : Placed = (token.Sign symbol.Comma, place) in
    let end : State = listed s b.operators kind.Name (p + m + n) b.commas in
    let middle : State = listed s a.operators kind.Name (p + m) a.commas in
    let second : Reading middle (t ∷ w) end (n ≤ 32 - (p + m))
    = passing middle t end w (n ≤ 32 - (p + m)) refl b.reads in
    let both : Reading (listed s o k p c) (u ++ (t ∷ w)) end ((m ≤ 32 - p) × (n ≤ 32 - (p + m)))
    = and_then (listed s o k p c) middle end u (t ∷ w) (m ≤ 32 - p) (n ≤ 32 - (p + m)) a.reads second in
    record {
      operators = b.operators;
      commas = b.commas;
      reads = ends_as (listed s o k p c) end (listed s b.operators kind.Name (p + (m + n)) b.commas) (u ++ (t ∷ w))
          (m + n ≤ 32 - p) (ap (λ q. listed s b.operators kind.Name q b.commas) (omega arith))
          (fits_as (listed s o k p c) end (u ++ (t ∷ w)) ((m ≤ 32 - p) × (n ≤ 32 - (p + m))) (m + n ≤ 32 - p)
          (λ f. omega (arith, f.0, f.1)) (λ f. (omega arith, omega arith)) both);
    }

names_read : (s : State) (o : ℕ) (k : Kind) (p c : ℕ) (u : List Placed) (words : List Word) → TakesParams s
    → leads_param k ≡ true → Names u words → ParamsRead s o k p c u (length words)
names_read s o k p c _ _ at leads (a_name_alone name place) = one_name s o k p c name place at leads
names_read s o k p c _ _ at leads (more_names {u = u} {words = words} comma name place h) =
    recount s o k p c (u ++ ((token.Sign symbol.Comma, comma) ∷ (token.Name name, place) ∷ [])) (length words + 1)
    (length (words ++ (word name place ∷ []))) (sym (length-append words (word name place ∷ [])))
    (behind_comma s o k p c u ((token.Name name, place) ∷ []) (length words) 1 comma
    (names_read s o k p c u words at leads h)
    (λ o p c. one_name s o (kind.Sign symbol.Comma) p c name place at refl))

group_read : (s : State) (o : ℕ) (k : Kind) (p c : ℕ) (u : List Placed) (g : Group) → TakesParams s
    → leads_param k ≡ true → IsGroup u g → ParamsRead s o k p c u (length g.names)
group_read s o k p c _ _ at leads (group {u = u} {words = words} colon name place h) =
    let r = names_read s o k p c u words at leads h in
    let first : Placed = (token.Sign symbol.Colon, colon) in
    let second : Placed = (token.Name name, place) in
    let middle : State = listed s r.operators kind.Name (p + length words) r.commas in
    let end : State = listed s 0 kind.Name (p + length words) r.commas in
    let tail : Reading middle (first ∷ second ∷ []) end (Unit {0})
    = passing middle first end (second ∷ []) (Unit {0}) refl
    (passing (listed s 0 (kind.Sign symbol.Colon) (p + length words) r.commas) second end [] (Unit {0}) refl
    (nothing_read end)) in
    record {
      operators = 0;
      commas = r.commas;
      reads = fits_as (listed s o k p c) end (u ++ (first ∷ second ∷ [])) ((length words ≤ 32 - p) × Unit {0})
          (length words ≤ 32 - p) (λ f. f.0) (λ f. (f, tt))
          (and_then (listed s o k p c) middle end u (first ∷ second ∷ []) (length words ≤ 32 - p) (Unit {0}) r.reads
          tail);
    }

abbrev names_of : Group → ℕ
names_of g = length g.names

params_one : (g : Group) → length g.names ≡ params_of (g ∷ [])
params_one g = omega arith

params_more : (groups : List Group) (g : Group)
    → params_of groups + length g.names ≡ params_of (groups ++ (g ∷ []))
params_more groups g =
    sym (ap sum (map-append names_of groups (g ∷ []))
    ∙ sum_by-append (λ n. n) (map names_of groups) (length g.names ∷ []) ∙ omega arith)

groups_read : (s : State) (o : ℕ) (k : Kind) (p c : ℕ) (u : List Placed) (groups : List Group) → TakesParams s
    → leads_param k ≡ true → Groups u groups → ParamsRead s o k p c u (params_of groups)
groups_read s o k p c u _ at leads (a_group {g = g} h) =
    recount s o k p c u (length g.names) (params_of (g ∷ [])) (params_one g) (group_read s o k p c u g at leads h)
groups_read s o k p c _ _ at leads (more_groups {u = u} {w = w} {groups = groups} {g = g} comma h j) =
    recount s o k p c (u ++ ((token.Sign symbol.Comma, comma) ∷ w)) (params_of groups + length g.names)
    (params_of (groups ++ (g ∷ []))) (params_more groups g)
    (behind_comma s o k p c u w (params_of groups) (length g.names) comma (groups_read s o k p c u groups at leads h)
    (λ o p c. group_read s o (kind.Sign symbol.Comma) p c w g at refl j))

-- ---- all parameters, up to the parenthesis after them

pub record AllParams (s : State) (u : List Placed) (groups : List Group) : Type 0 where
  pub operators : ℕ
  pub params : ℕ
  pub reads : Reading (within s (kind.Sign symbol.OpenParen)) u
      (behind s operators (kind.Sign symbol.CloseParen) params) (params_of groups ≤ 32)

pub read_params : (s : State) (u : List Placed) (groups : List Group) (close : ℕ) → TakesParams s → s.params ≡ 0
    → Params u groups → AllParams s (u ++ ((token.Sign symbol.CloseParen, close) ∷ [])) groups
read_params s _ _ close at none no_params = record {
  operators = s.operators;
  params = s.params;
  reads = record { runs = refl; to = λ h. omega arith; from = λ f. (refl, tt) };
}
read_params s u groups close at none (params h) =
    let r = groups_read s s.operators (kind.Sign symbol.OpenParen) s.params 0 u groups at refl h in
    let end : State = listed s r.operators kind.Name (s.params + params_of groups) r.commas in
    let t : Placed = (token.Sign symbol.CloseParen, close) in
    record {
      operators = r.operators;
      params = s.params + params_of groups;
      reads = fits_as (within s (kind.Sign symbol.OpenParen))
          (behind s r.operators (kind.Sign symbol.CloseParen) (s.params + params_of groups)) (u ++ (t ∷ []))
          (params_of groups ≤ 32 - s.params) (params_of groups ≤ 32) (λ f. omega arith) (λ f. omega arith)
          (ended (within s (kind.Sign symbol.OpenParen)) end u t (params_of groups ≤ 32 - s.params) refl r.reads);
    }
