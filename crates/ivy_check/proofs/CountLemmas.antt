-- What is counted of an expression, by its form.
use Rattle.std.proofs.Common.{◌≡◌, ◌↔◌, ◌⊎◌, inl, inr, ◌||◌, ◌≤◌, ◌+◌, ◌-◌, ◌^◌, ℕ, zero, suc, min, Bool, true, false}
use Rattle.std.proofs.Common.{List, [], ◌∷◌, refl, ap, sym, ◌∙◌, map, length, sum, arith, codes, if◌then◌else◌}
use Rattle.std.proofs.Common.{◌<◌, subst}
use Rattle.std.specs.Prelude.{bytes_eq, slice_index_or}
use Rattle.std.specs.List.{list_any, AllByRecursion, Any}
use Rattle.std.proofs.lemmas.List.{length-map}
use Rattle.std.proofs.lemmas.List.Sums.{sum_by-cons}
use Rattle.ivy_syntax.specs.Sizes.{within_word, total, expr_nodes, form_nodes, req_nodes, stmt_nodes, clause_nodes}
use Rattle.ivy_syntax.specs.Sizes.{group_nodes}
use Rattle.ivy_syntax.specs.declared.tree.Expr.{Expr}
use Rattle.ivy_syntax.specs.declared.tree.Form.{Form, map-Form}
use Rattle.ivy_syntax.specs.declared.tree.Req.{Req}
use Rattle.ivy_syntax.specs.declared.tree.Stmt.{Stmt}
use Rattle.ivy_syntax.specs.declared.tree.Stmt.TheVariants.{Verify, Lock, Unlock}
use Rattle.ivy_syntax.specs.declared.tree.ClauseTree.{ClauseTree}
use Rattle.ivy_syntax.specs.declared.tree.Contract.{Contract}
use Rattle.ivy_syntax.specs.declared.tree.Form.TheOpen.{Form-F}
use Rattle.ivy_syntax.specs.declared.tree.Form.TheVariants as forms
use Rattle.ivy_check.specs.Typing.{parameter_names}
use Rattle.ivy_check.specs.WellTyped.{StandsIn, ClauseUses, ClauseIsTyped, ContractIsTyped}
use Rattle.ivy_check.specs.Uses.{uses, req_uses, statement_uses}
use Rattle.ivy_check.specs.Counts.{form_uses, use_count, req_use_count, stmt_use_count, clause_use_count}
use Rattle.ivy_check.specs.Counts.{Keys, form_keys, keys_of, key_count, call_keys}
use Rattle.ivy_check.specs.Counts.{req_key_count, stmt_key_count, clause_key_count}
use Rattle.ivy_check.proofs.Folds.{by_form, form_fold}
use Rattle.ivy_check.proofs.FormTypings.{by_forms, expr_of, form_again, rolled, AllWithin}
use Rattle.ivy_check.proofs.UseLemmas as use_of
use Rattle.ivy_check.proofs.UseLemmas.{either, on_left, on_right, uses_is, clause_uses_is, one_uses_is}

total_cons : {A : Type 0} (size : A → ℕ) (x : A) (xs : List A) → total size (x ∷ xs) ≡ size x + total size xs
total_cons size x xs = sum_by-cons (λ (n : ℕ). n) (size x) (map size xs)

-- the total over what is made of each
total_map : {A B : Type 0} (size : B → ℕ) (make : A → B) (xs : List A)
    → total size (map make xs) ≡ total (λ x. size (make x)) xs
total_map size make [] = refl
total_map size make (x ∷ xs) =
    total_cons size (make x) (map make xs)
    ∙ ap (λ (n : ℕ). size (make x) + n) (total_map size make xs)
    ∙ sym (total_cons (λ x. size (make x)) x xs)

-- ---- keys

key_call : (e : Expr) (name : List ℕ) (args : List Expr) → e.form ≡ forms.Call name args
    → key_count e ≡ call_keys name (map keys_of args) + total key_count args
key_call e name args is =
    ap (λ (k : Keys). k.keys)
    (by_form Keys Keys form_keys (λ e. e.form) e (forms.Call name args) (Form-F.Call name args) _ is
    (forms.rolls-Call name args) refl)
    ∙ ap (λ (n : ℕ). call_keys name (map keys_of args) + n) (total_map (λ (k : Keys). k.keys) keys_of args)

key_members : (e : Expr) (members : List Expr) → e.form ≡ forms.Members members
    → key_count e ≡ total key_count members
key_members e members is =
    ap (λ (k : Keys). k.keys)
    (by_form Keys Keys form_keys (λ e. e.form) e (forms.Members members) (Form-F.Members members) _ is
    (forms.rolls-Members members) refl)
    ∙ total_map (λ (k : Keys). k.keys) keys_of members

word_sum : (a b : ℕ) → min (within_word a + within_word b) (2 ^ 64 - 1) ≡ within_word (a + b)
word_sum a b = omega arith

pub in_call : (e : Expr) (name got : List ℕ) (args own parts : List Expr) (a b r : ℕ) → e.form ≡ forms.Call name args
    → got ≡ name → own ≡ args → parts ≡ args
    → a ≡ within_word (call_keys got (map keys_of own)) → b ≡ within_word (total key_count parts)
    → r ≡ min (a + b) (2 ^ 64 - 1)
    → r ≡ within_word (key_count e)
in_call e name got args own parts a b r is got_is own_is parts_are a_is b_is r_is =
    r_is
    ∙ (λ i. min (a_is i + b_is i) (2 ^ 64 - 1))
    ∙ word_sum (call_keys got (map keys_of own)) (total key_count parts)
    ∙ (λ i. within_word (call_keys (got_is i) (map keys_of (own_is i)) + total key_count (parts_are i)))
    ∙ sym (ap within_word (key_call e name args is))

pub in_members : (e : Expr) (members got : List Expr) (r : ℕ) → e.form ≡ forms.Members members → got ≡ members
    → r ≡ within_word (total key_count got)
    → r ≡ within_word (key_count e)
in_members e members got r is got_is r_is =
    r_is
    ∙ ap (λ (es : List Expr). within_word (total key_count es)) got_is
    ∙ sym (ap within_word (key_members e members is))

-- ---- what is counted is at most the nodes

nodes_of : (from at : ℕ) (x : Form-F Form Expr)
    → expr_nodes (expr_of from at x)
    ≡ 1 + form_nodes (map-Form Form Expr ℕ ℕ (form_fold ℕ ℕ form_nodes (λ e. 1 + e.form)) expr_nodes x)
nodes_of from at x =
    by_form ℕ ℕ form_nodes (λ e. 1 + e.form) (expr_of from at x) (form_again x) x _ refl (rolled x) refl

uses_of : (name : List ℕ) (from at : ℕ) (x : Form-F Form Expr)
    → use_count name (expr_of from at x)
    ≡ form_uses name (map-Form Form Expr ℕ ℕ (form_fold ℕ ℕ (form_uses name) (λ e. e.form)) (use_count name) x)
uses_of name from at x =
    by_form ℕ ℕ (form_uses name) (λ e. e.form) (expr_of from at x) (form_again x) x _ refl (rolled x) refl

keys_are : (from at : ℕ) (x : Form-F Form Expr)
    → keys_of (expr_of from at x)
    ≡ form_keys (map-Form Form Expr Keys Keys (form_fold Keys Keys form_keys (λ e. e.form)) keys_of x)
keys_are from at x =
    by_form Keys Keys form_keys (λ e. e.form) (expr_of from at x) (form_again x) x _ refl (rolled x) refl

total_le : {A : Type 0} (f g : A → ℕ) (xs : List A) → AllByRecursion (λ x. f x ≤ g x) xs → total f xs ≤ total g xs
total_le f g [] h = omega arith
total_le f g (x ∷ xs) h =
    let here : f x ≤ g x = h.0 in
    let more : total f xs ≤ total g xs = total_le f g xs h.1 in
    let a : total f (x ∷ xs) ≡ f x + total f xs = total_cons f x xs in
    let b : total g (x ∷ xs) ≡ g x + total g xs = total_cons g x xs in
    omega arith

all_of : {A : Type 0} (P : A → Type 0) → ((x : A) → P x) → (xs : List A) → AllByRecursion P xs
all_of P each [] = tt
all_of P each (x ∷ xs) = (each x, all_of P each xs)

le_by : (a b n m : ℕ) → a ≡ n → b ≡ m → n ≤ m → a ≤ b
le_by a b n m h k l = omega arith

one_or_none : (b : Bool) → (if b then 1 else 0) ≤ 1
one_or_none true = omega arith
one_or_none false = omega arith

module _ (name : List ℕ) where
  abbrev FewUses : Expr → Type 0
  FewUses e = use_count name e ≤ expr_nodes e

  uses_step : (from at : ℕ) (x : Form-F Form Expr) → AllWithin FewUses x → FewUses (expr_of from at x)
  uses_step from at (Form-F.Number n) each =
      le_by _ _ _ _ (uses_of name from at (Form-F.Number n)) (nodes_of from at (Form-F.Number n)) (omega arith)
  uses_step from at (Form-F.Truth b) each =
      le_by _ _ _ _ (uses_of name from at (Form-F.Truth b)) (nodes_of from at (Form-F.Truth b)) (omega arith)
  uses_step from at (Form-F.Hex bytes) each =
      le_by _ _ _ _ (uses_of name from at (Form-F.Hex bytes)) (nodes_of from at (Form-F.Hex bytes)) (omega arith)
  uses_step from at (Form-F.Quoted bytes) each =
      le_by _ _ _ _ (uses_of name from at (Form-F.Quoted bytes)) (nodes_of from at (Form-F.Quoted bytes)) (omega arith)
  uses_step from at (Form-F.Name used) each =
      le_by _ _ _ _ (uses_of name from at (Form-F.Name used)) (nodes_of from at (Form-F.Name used))
      (one_or_none (bytes_eq used name))
  uses_step from at (Form-F.Call function args) each =
      let parts : total (use_count name) args ≤ total expr_nodes args =
      total_le (use_count name) expr_nodes args each in
      le_by _ _ (total (use_count name) args) (1 + total expr_nodes args)
      (uses_of name from at (Form-F.Call function args)) (nodes_of from at (Form-F.Call function args)) (omega arith)
  uses_step from at (Form-F.Members members) each =
      let parts : total (use_count name) members ≤ total expr_nodes members =
      total_le (use_count name) expr_nodes members each in
      le_by _ _ (total (use_count name) members) (1 + total expr_nodes members)
      (uses_of name from at (Form-F.Members members)) (nodes_of from at (Form-F.Members members)) (omega arith)
  uses_step from at (Form-F.Unary o arg) each =
      le_by _ _ (use_count name arg) (1 + expr_nodes arg) (uses_of name from at (Form-F.Unary o arg))
      (nodes_of from at (Form-F.Unary o arg)) (omega (arith, each))
  uses_step from at (Form-F.Binary o left right) each =
      let h : use_count name left ≤ expr_nodes left = each.0 in
      let k : use_count name right ≤ expr_nodes right = each.1 in
      le_by _ _ (use_count name left + use_count name right) (1 + (expr_nodes left + expr_nodes right))
      (uses_of name from at (Form-F.Binary o left right)) (nodes_of from at (Form-F.Binary o left right)) (omega arith)

  expr_uses_few : (e : Expr) → FewUses e
  expr_uses_few = by_forms FewUses uses_step

  req_uses_few : (req : Req) → req_use_count name req ≤ req_nodes req
  req_uses_few req =
      let h : use_count name req.amount ≤ expr_nodes req.amount = expr_uses_few req.amount in
      let k : use_count name req.asset ≤ expr_nodes req.asset = expr_uses_few req.asset in
      omega arith

  stmt_uses_few : (stmt : Stmt) → stmt_use_count name stmt ≤ stmt_nodes stmt
  stmt_uses_few (Verify at e) = let h : use_count name e ≤ expr_nodes e = expr_uses_few e in omega arith
  stmt_uses_few (Lock at value program) =
      let h : use_count name program ≤ expr_nodes program = expr_uses_few program in omega arith
  stmt_uses_few (Unlock at value) = omega arith

-- sums over a clause
clause_few : (of_req : Req → ℕ) (of_stmt : Stmt → ℕ) → ((req : Req) → of_req req ≤ req_nodes req)
    → ((stmt : Stmt) → of_stmt stmt ≤ stmt_nodes stmt) → (clause : ClauseTree)
    → total of_req clause.reqs + total of_stmt clause.stmts ≤ clause_nodes clause
clause_few of_req of_stmt each_req each_stmt clause =
    let reqs : total of_req clause.reqs ≤ total req_nodes clause.reqs =
    total_le of_req req_nodes clause.reqs (all_of (λ req. of_req req ≤ req_nodes req) each_req clause.reqs) in
    let stmts : total of_stmt clause.stmts ≤ total stmt_nodes clause.stmts =
    total_le of_stmt stmt_nodes clause.stmts (all_of (λ stmt. of_stmt stmt ≤ stmt_nodes stmt) each_stmt clause.stmts) in
    sums_le (total of_req clause.reqs) (total req_nodes clause.reqs) (total of_stmt clause.stmts)
    (total stmt_nodes clause.stmts) (total group_nodes clause.params) reqs stmts
  where
    sums_le : (a b c d e : ℕ) → a ≤ b → c ≤ d → a + c ≤ 1 + e + b + d
    sums_le a b c d e h k = omega arith

pub uses_few : (name : List ℕ) (clause : ClauseTree) → clause_use_count name clause ≤ clause_nodes clause
uses_few name = clause_few (req_use_count name) (stmt_use_count name) (req_uses_few name) (stmt_uses_few name)

-- ---- keys: with the members of a list fewer than the nodes

FewKeys : Expr → Type 0
FewKeys e = (keys_of e).members + (keys_of e).keys + 1 ≤ expr_nodes e

module _ (e : Expr) (k : Keys) (m : ℕ) (is : keys_of e ≡ k) (has : expr_nodes e ≡ m) where
  keys_by : k.members + k.keys + 1 ≤ m → FewKeys e
  unfolding FewKeys
  keys_by h =
      let members : (keys_of e).members ≡ k.members = ap (λ (k : Keys). k.members) is in
      let keys : (keys_of e).keys ≡ k.keys = ap (λ (k : Keys). k.keys) is in
      omega arith

few_in : (e : Expr) → FewKeys e → (keys_of e).members + key_count e + 1 ≤ expr_nodes e
unfolding FewKeys
few_in e h = h

-- each with one more
total_more : (xs : List Expr) → AllByRecursion FewKeys xs → total key_count xs + length xs ≤ total expr_nodes xs
unfolding FewKeys
total_more [] h = omega arith
total_more (x ∷ xs) h =
    let here : (keys_of x).members + key_count x + 1 ≤ expr_nodes x = h.0 in
    let more : total key_count xs + length xs ≤ total expr_nodes xs = total_more xs h.1 in
    let a : total key_count (x ∷ xs) ≡ key_count x + total key_count xs = total_cons key_count x xs in
    let b : total expr_nodes (x ∷ xs) ≡ expr_nodes x + total expr_nodes xs = total_cons expr_nodes x xs in
    let len : length (x ∷ xs) ≡ suc (length xs) = refl in
    omega arith

call_few : (function : List ℕ) (args : List Expr) → AllByRecursion FewKeys args
    → call_keys function (map keys_of args) + total key_count args ≤ total expr_nodes args
unfolding FewKeys
call_few function [] h = omega arith
call_few function (first ∷ args) h =
    let here : (keys_of first).members + key_count first + 1 ≤ expr_nodes first = h.0 in
    let more : total key_count args + length args ≤ total expr_nodes args = total_more args h.1 in
    let a : total key_count (first ∷ args) ≡ key_count first + total key_count args = total_cons key_count first args in
    let b : total expr_nodes (first ∷ args) ≡ expr_nodes first + total expr_nodes args =
    total_cons expr_nodes first args in
    let own = own_few (bytes_eq function (codes "checkTxSig")) (bytes_eq function (codes "checkTxMultiSig"))
    (keys_of first).members in
    sums (call_keys function (map keys_of (first ∷ args))) (keys_of first).members (key_count first)
    (expr_nodes first) (total key_count args) (length args) (total expr_nodes args) _ _ own here more a b
  where
    own_few : (b c : Bool) (members : ℕ) → (if b then 1 else if c then members else 0) ≤ members + 1
    own_few true c members = omega arith
    own_few false true members = omega arith
    own_few false false members = omega arith

    sums : (own members keys nodes rest len more all every : ℕ) → own ≤ members + 1 → members + keys + 1 ≤ nodes
        → rest + len ≤ more → all ≡ keys + rest → every ≡ nodes + more → own + all ≤ every
    sums own members keys nodes rest len more all every h k l a b = omega arith

keys_step : (from at : ℕ) (x : Form-F Form Expr) → AllWithin FewKeys x → FewKeys (expr_of from at x)
keys_step from at (Form-F.Number n) each =
    keys_by _ _ _ (keys_are from at (Form-F.Number n)) (nodes_of from at (Form-F.Number n)) (omega arith)
keys_step from at (Form-F.Truth b) each =
    keys_by _ _ _ (keys_are from at (Form-F.Truth b)) (nodes_of from at (Form-F.Truth b)) (omega arith)
keys_step from at (Form-F.Hex bytes) each =
    keys_by _ _ _ (keys_are from at (Form-F.Hex bytes)) (nodes_of from at (Form-F.Hex bytes)) (omega arith)
keys_step from at (Form-F.Quoted bytes) each =
    keys_by _ _ _ (keys_are from at (Form-F.Quoted bytes)) (nodes_of from at (Form-F.Quoted bytes)) (omega arith)
keys_step from at (Form-F.Name used) each =
    keys_by _ _ _ (keys_are from at (Form-F.Name used)) (nodes_of from at (Form-F.Name used)) (omega arith)
keys_step from at (Form-F.Call function args) each =
    let parts = call_few function args each in
    let same = total_map (λ (k : Keys). k.keys) keys_of args in
    keys_by _ _ _ (keys_are from at (Form-F.Call function args)) (nodes_of from at (Form-F.Call function args))
    (with_own (call_keys function (map keys_of args)) _ (total key_count args) (total expr_nodes args) parts same)
  where
    with_own : (own sum same nodes : ℕ) → own + same ≤ nodes → sum ≡ same → 0 + (own + sum) + 1 ≤ 1 + nodes
    with_own own sum same nodes h is = omega arith
keys_step from at (Form-F.Members members) each =
    let parts = total_more members each in
    let same = total_map (λ (k : Keys). k.keys) keys_of members in
    keys_by _ _ _ (keys_are from at (Form-F.Members members)) (nodes_of from at (Form-F.Members members))
    (with_len (length (map keys_of members)) (length members) _ (total key_count members) (total expr_nodes members)
    (length-map members keys_of) parts same)
  where
    with_len : (mapped len sum same nodes : ℕ) → mapped ≡ len → same + len ≤ nodes → sum ≡ same
        → mapped + sum + 1 ≤ 1 + nodes
    with_len mapped len sum same nodes l h is = omega arith
keys_step from at (Form-F.Unary o arg) each =
    keys_by _ _ _ (keys_are from at (Form-F.Unary o arg)) (nodes_of from at (Form-F.Unary o arg))
    (of_one (keys_of arg).members (key_count arg) (expr_nodes arg) (few_in arg each))
  where
    of_one : (members keys nodes : ℕ) → members + keys + 1 ≤ nodes → 0 + keys + 1 ≤ 1 + nodes
    of_one members keys nodes h = omega arith
keys_step from at (Form-F.Binary o left right) each =
    keys_by _ _ _ (keys_are from at (Form-F.Binary o left right)) (nodes_of from at (Form-F.Binary o left right))
    (of_two (keys_of left).members (key_count left) (expr_nodes left) (keys_of right).members (key_count right)
    (expr_nodes right) (few_in left each.0) (few_in right each.1))
  where
    of_two : (l a m k b n : ℕ) → l + a + 1 ≤ m → k + b + 1 ≤ n → 0 + (a + b) + 1 ≤ 1 + (m + n)
    of_two l a m k b n h i = omega arith

expr_keys_few : (e : Expr) → key_count e ≤ expr_nodes e
expr_keys_few e =
    let h : (keys_of e).members + key_count e + 1 ≤ expr_nodes e = few_in e (by_forms FewKeys keys_step e) in
    omega arith

req_keys_few : (req : Req) → req_key_count req ≤ req_nodes req
req_keys_few req =
    let h : key_count req.amount ≤ expr_nodes req.amount = expr_keys_few req.amount in
    let k : key_count req.asset ≤ expr_nodes req.asset = expr_keys_few req.asset in
    omega arith

stmt_keys_few : (stmt : Stmt) → stmt_key_count stmt ≤ stmt_nodes stmt
stmt_keys_few (Verify at e) = let h : key_count e ≤ expr_nodes e = expr_keys_few e in omega arith
stmt_keys_few (Lock at value program) =
    let h : key_count program ≤ expr_nodes program = expr_keys_few program in omega arith
stmt_keys_few (Unlock at value) = omega arith

pub keys_few : (clause : ClauseTree) → clause_key_count clause ≤ clause_nodes clause
keys_few = clause_few req_key_count stmt_key_count req_keys_few stmt_keys_few

-- ---- what is counted of a name stands there

or_count : (x y : Bool) (m n : ℕ) → (x ≡ true) ↔ (1 ≤ m) → (y ≡ true) ↔ (1 ≤ n) → ((x || y) ≡ true) ↔ (1 ≤ m + n)
or_count x y m n f g = ((λ h. of_either (either x y h)), (λ h. by_first m h f))
  where
    of_either : (x ≡ true) ⊎ (y ≡ true) → 1 ≤ m + n
    of_either (inl h) = let k : 1 ≤ m = f.0 h in omega arith
    of_either (inr h) = let k : 1 ≤ n = g.0 h in omega arith

    by_first : (m : ℕ) → 1 ≤ m + n → (x ≡ true) ↔ (1 ≤ m) → (x || y) ≡ true
    by_first zero h f = let k : 1 ≤ n = omega arith in on_right x y (g.1 k)
    by_first (suc m) h f = let k : 1 ≤ suc m = omega arith in on_left x y (f.1 k)

some_count : {A : Type 0} (test : A → Bool) (count : A → ℕ) (xs : List A)
    → AllByRecursion (λ x. (test x ≡ true) ↔ (1 ≤ count x)) xs
    → (list_any test xs ≡ true) ↔ (1 ≤ total count xs)
some_count test count [] h = ((λ k. absurd cc), (λ k. absurd (none k)))
  where
    none : 1 ≤ 0 → ⊥
    none k = omega arith
some_count test count (x ∷ xs) h =
    let both = or_count (test x) (list_any test xs) (count x) (total count xs) h.0 (some_count test count xs h.1) in
    let is : total count (x ∷ xs) ≡ count x + total count xs = total_cons count x xs in
    ((λ k. along _ _ (both.0 k) is), (λ k. both.1 (along _ _ k (sym is))))
  where
    along : (a b : ℕ) → 1 ≤ a → b ≡ a → 1 ≤ b
    along a b h is = omega arith

any_map : {A : Type 0} (test : A → Bool) (xs : List A) → list_any (λ b. b) (map test xs) ≡ list_any test xs
any_map test [] = refl
any_map test (x ∷ xs) = ap (λ (b : Bool). test x || b) (any_map test xs)

no_count : (false ≡ true) ↔ (1 ≤ 0)
no_count = ((λ k. absurd cc), (λ k. absurd (none k)))
  where
    none : 1 ≤ 0 → ⊥
    none k = omega arith

one_count : (b : Bool) → (b ≡ true) ↔ (1 ≤ (if b then 1 else 0))
one_count true = ((λ k. omega arith), (λ k. refl))
one_count false = no_count

module _ (name : List ℕ) where
  abbrev Counted : Expr → Type 0
  Counted e = (uses name e ≡ true) ↔ (1 ≤ use_count name e)

  counted_as : (e : Expr) (b : Bool) (n : ℕ) → uses name e ≡ b → use_count name e ≡ n → (b ≡ true) ↔ (1 ≤ n)
      → Counted e
  counted_as e b n u c both = (
    (λ k. along n (use_count name e) (both.0 (sym u ∙ k)) c),
    (λ k. u ∙ both.1 (along (use_count name e) n k (sym c))),
  )
    where
      along : (a b : ℕ) → 1 ≤ a → b ≡ a → 1 ≤ b
      along a b h is = omega arith

  counted_parts : (e : Expr) (parts : List Expr) → uses name e ≡ list_any (λ b. b) (map (uses name) parts)
      → use_count name e ≡ total (use_count name) parts → AllByRecursion Counted parts → Counted e
  counted_parts e parts u c each =
      counted_as e (list_any (uses name) parts) (total (use_count name) parts) (u ∙ any_map (uses name) parts) c
      (some_count (uses name) (use_count name) parts each)

  counted_step : (from at : ℕ) (x : Form-F Form Expr) → AllWithin Counted x → Counted (expr_of from at x)
  counted_step from at (Form-F.Number n) each =
      let x : Form-F Form Expr = Form-F.Number n in
      counted_as _ _ _ (use_of.of_number name (expr_of from at x) n refl) (uses_of name from at x) no_count
  counted_step from at (Form-F.Truth b) each =
      let x : Form-F Form Expr = Form-F.Truth b in
      counted_as _ _ _ (use_of.of_truth name (expr_of from at x) b refl) (uses_of name from at x) no_count
  counted_step from at (Form-F.Hex bytes) each =
      let x : Form-F Form Expr = Form-F.Hex bytes in
      counted_as _ _ _ (use_of.of_hex name (expr_of from at x) bytes refl) (uses_of name from at x) no_count
  counted_step from at (Form-F.Quoted bytes) each =
      let x : Form-F Form Expr = Form-F.Quoted bytes in
      counted_as _ _ _ (use_of.of_text name (expr_of from at x) bytes refl) (uses_of name from at x) no_count
  counted_step from at (Form-F.Name used) each =
      let x : Form-F Form Expr = Form-F.Name used in
      counted_as _ _ _ (use_of.of_name name (expr_of from at x) used refl) (uses_of name from at x)
      (one_count (bytes_eq used name))
  counted_step from at (Form-F.Call function args) each =
      let x : Form-F Form Expr = Form-F.Call function args in
      counted_parts (expr_of from at x) args (use_of.of_call name (expr_of from at x) function args refl)
      (uses_of name from at x) each
  counted_step from at (Form-F.Members members) each =
      let x : Form-F Form Expr = Form-F.Members members in
      counted_parts (expr_of from at x) members (use_of.of_list name (expr_of from at x) members refl)
      (uses_of name from at x) each
  counted_step from at (Form-F.Unary o arg) each =
      let x : Form-F Form Expr = Form-F.Unary o arg in
      counted_as _ _ _ (use_of.of_unary name (expr_of from at x) o arg refl) (uses_of name from at x) each
  counted_step from at (Form-F.Binary o left right) each =
      let x : Form-F Form Expr = Form-F.Binary o left right in
      counted_as _ _ _ (use_of.of_binary name (expr_of from at x) o left right refl) (uses_of name from at x)
      (or_count (uses name left) (uses name right) (use_count name left) (use_count name right) each.0 each.1)

  expr_counted : (e : Expr) → Counted e
  expr_counted = by_forms Counted counted_step

  pub counted : (e : Expr) → (1 ≤ use_count name e) ↔ StandsIn name e
  counted e =
      let c = expr_counted e in
      let u = uses_is name e in
      ((λ k. u.0 (c.1 k)), (λ s. c.0 (u.1 s)))

  req_counted : (req : Req) → (req_uses name req ≡ true) ↔ (1 ≤ req_use_count name req)
  req_counted req =
      or_count (uses name req.amount) (uses name req.asset) (use_count name req.amount) (use_count name req.asset)
      (expr_counted req.amount) (expr_counted req.asset)

  stmt_counted : (stmt : Stmt) → (statement_uses name stmt ≡ true) ↔ (1 ≤ stmt_use_count name stmt)
  stmt_counted (Verify at e) = expr_counted e
  stmt_counted (Lock at value program) = expr_counted program
  stmt_counted (Unlock at value) = no_count

  pub clause_counted : (clause : ClauseTree) → (1 ≤ clause_use_count name clause) ↔ ClauseUses name clause
  clause_counted clause =
      let reqs = some_count (req_uses name) (req_use_count name) clause.reqs
      (all_of (λ req. (req_uses name req ≡ true) ↔ (1 ≤ req_use_count name req)) req_counted clause.reqs) in
      let stmts = some_count (statement_uses name) (stmt_use_count name) clause.stmts
      (all_of (λ stmt. (statement_uses name stmt ≡ true) ↔ (1 ≤ stmt_use_count name stmt)) stmt_counted clause.stmts) in
      let c = or_count (list_any (req_uses name) clause.reqs) (list_any (statement_uses name) clause.stmts)
      (total (req_use_count name) clause.reqs) (total (stmt_use_count name) clause.stmts) reqs stmts in
      let u = clause_uses_is name clause in
      ((λ k. u.0 (c.1 k)), (λ s. c.0 (u.1 s)))

-- ---- parameters are used

each_then : {A : Type 0} (P Q : A → Type 0) → ((x : A) → P x → Q x) → (xs : List A) → AllByRecursion P xs
    → AllByRecursion Q xs
each_then P Q step [] h = tt
each_then P Q step (x ∷ xs) h = (step x h.0, each_then P Q step xs h.1)

some_then : {A : Type 0} (P Q : A → Type 0) → ((x : A) → P x → Q x) → (xs : List A) → Any P xs → Any Q xs
some_then P Q step xs a = (a.0, a.1, a.2, a.3, step a.1 a.4)

only_one : {A : Type 0} (P : A → Type 0) (x : A) → Any P (x ∷ []) → P x
only_one {A = A} P x a = first a.0 a.1 a.2 a.3 a.4
  where
    first : (k : ℕ) (y : A) → k < length (x ∷ []) → slice_index_or (x ∷ []) k y ≡ y → P y → P x
    first zero y h is p = subst P (sym is) p
    first (suc k) y h is p = absurd (none k h)
      where
        none : (k : ℕ) → suc k < 1 → ⊥
        none k h = omega arith

pub clause_used : (contract : Contract) (clause : ClauseTree) → ClauseIsTyped contract clause
    → AllByRecursion (λ name. 1 ≤ clause_use_count name clause) (parameter_names clause.params)
clause_used contract clause t =
    each_then (λ name. Any (ClauseUses name) (clause ∷ [])) (λ name. 1 ≤ clause_use_count name clause)
    (λ name used. (clause_counted name clause).1 (only_one (ClauseUses name) clause used))
    (parameter_names clause.params) t.used

pub contract_used : (contract : Contract) → ContractIsTyped contract
    → AllByRecursion (λ name. Any (λ clause. 1 ≤ clause_use_count name clause) contract.clauses)
    (parameter_names contract.params)
contract_used contract t =
    each_then (λ name. Any (ClauseUses name) contract.clauses)
    (λ name. Any (λ clause. 1 ≤ clause_use_count name clause) contract.clauses)
    (λ name used. some_then (ClauseUses name) (λ clause. 1 ≤ clause_use_count name clause)
    (λ clause s. (clause_counted name clause).1 s) contract.clauses used)
    (parameter_names contract.params) t.used
