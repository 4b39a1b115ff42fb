-- The place of a name among parameters, and what it says of the groups that declare them.
use Rattle.std.proofs.Common.{◌≡◌, ◌↔◌, ◌⊎◌, inl, inr, ◌||◌, ◌+◌, ◌<◌, ◌≤◌, ℕ, zero, suc, Bool, true, false, not, cond}
use Rattle.std.proofs.Common.{List, [], ◌∷◌, ◌++◌, Option, Some, None, refl, ap, sym, ◌∙◌, subst, map, length}
use Rattle.std.proofs.Common.{unwrap_or}
use Rattle.std.proofs.Common.{arith, length-append, slice_get}
use Rattle.std.specs.Prelude.{bytes_eq, nat_lt, option_map}
use Rattle.std.specs.List.{list_any, AllByRecursion, IsDistinct, position, position_or_len}
use Rattle.std.proofs.lemmas.Bool.{cases_lt, lt-ltb, le-ltb, false_from_ne_true}
use Rattle.std.proofs.lemmas.List.{length-map, map-append}
use Rattle.std.proofs.lemmas.List.Folds.{list_any-append}
use Rattle.std.proofs.lemmas.List.Sums.{sum_by-cons}
use Rattle.ivy_syntax.specs.declared.tree.Word.{Word}
use Rattle.ivy_syntax.specs.declared.tree.Group.{Group}
use Rattle.ivy_syntax.specs.declared.tree.ClauseTree.{ClauseTree}
use Rattle.ivy_syntax.specs.declared.tree.Contract.{Contract}
use Rattle.ivy_syntax.specs.TreeLimits.{params_of}
use Rattle.ivy_check.specs.declared.types.IvyType.{IvyType}
use Rattle.ivy_check.specs.declared.parameters.Param.{Param}
use Rattle.ivy_check.specs.Types.{type_named}
use Rattle.ivy_check.specs.Scope.{Scope, in_clause}
use Rattle.ivy_check.specs.Typing as rule
use Rattle.ivy_check.specs.Typing.{Declares, IsParameter, NamesType, TypesExist, is_one_of}
use Rattle.ivy_check.specs.Typing.{group_names, parameter_names, value_names}
use Rattle.ivy_check.specs.WellTyped.{AreDistinct, ContractIsTyped, ClauseIsTyped, required_names}
use Rattle.ivy_check.specs.Parameters.{of_one_type, group_parameters, parameters, all_parameters, place_of, PlaceOf}
use Rattle.ivy_check.proofs.TypeWords.{not_both, same_bytes, same_self_bytes, type_name_names}
use Rattle.ivy_check.proofs.UseLemmas.{on_left, on_right}
use Rattle.ivy_check.proofs.NameLists.{all_append, neither, turned}

-- ---- the first place that passes a test

module _ {X : Type 0} (test : X → Bool) (x : X) (xs : List X) where
  abbrev found_at : ℕ → ℕ → Option ℕ
  found_at n len = cond (nat_lt n len) (Some n) None

  pub position_first : test x ≡ true → position test (x ∷ xs) ≡ Some 0
  position_first h =
      let none : position_or_len test (x ∷ xs) ≡ 0 =
      ap (λ (b : Bool). cond (not b) (1 + position_or_len test xs) 0) h in
      ap (λ (n : ℕ). found_at n (length (x ∷ xs))) none
      ∙ ap (λ (b : Bool). cond b (Some 0) None) (lt-ltb 0 (length (x ∷ xs)) (omega arith))

  next_in : (n len : ℕ) → (n < len) ⊎ (len ≤ n) → found_at (1 + n) (suc len) ≡ option_map (λ k. suc k) (found_at n len)
  next_in n len (inl less) =
      ap (λ (b : Bool). cond b (Some (1 + n)) None) (lt-ltb (1 + n) (suc len) (omega arith))
      ∙ ap (λ (k : ℕ). Some k) (omega arith)
      ∙ sym (ap (λ (b : Bool). option_map (λ k. suc k) (cond b (Some n) None)) (lt-ltb n len less))
  next_in n len (inr le) =
      ap (λ (b : Bool). cond b (Some (1 + n)) None) (le-ltb (1 + n) (suc len) (omega arith))
      ∙ sym (ap (λ (b : Bool). option_map (λ k. suc k) (cond b (Some n) None)) (le-ltb n len le))

  pub position_next : test x ≡ false → position test (x ∷ xs) ≡ option_map (λ k. suc k) (position test xs)
  position_next h =
      let more : position_or_len test (x ∷ xs) ≡ 1 + position_or_len test xs =
      ap (λ (b : Bool). cond (not b) (1 + position_or_len test xs) 0) h in
      ap (λ (n : ℕ). found_at n (length (x ∷ xs))) more
      ∙ next_in (position_or_len test xs) (length xs) (cases_lt (position_or_len test xs) (length xs))

-- ---- the first parameter of a name

-- The first of these parameters with this name has this type, and stands at this place.
data At (name : List ℕ) (kind : IvyType) : List Param → ℕ → Type 0 where
  here : {params : List Param} → At name kind (record { name = name; kind = kind } ∷ params) 0
  later : {param : Param} {params : List Param} {place : ℕ}
      → bytes_eq param.name name ≡ false
      → At name kind params place
      → At name kind (param ∷ params) (suc place)

abbrev has_name : List ℕ → Param → Bool
has_name name param = bytes_eq param.name name

-- no parameter has the name
abbrev Absent : List ℕ → List Param → Type 0
Absent name params = list_any (has_name name) params ≡ false

module _ (name : List ℕ) (kind : IvyType) where
  abbrev it : Param
  it = record { name = name; kind = kind }

  at_is : {params : List Param} {place : ℕ} → At name kind params place → PlaceOf name kind params place
  at_is (here {params = params}) = record {
    first = position_first (has_name name) it params (same_self_bytes name);
    there = refl;
  }
  at_is (later {param = param} {params = params} h rest) =
      let more = at_is rest in
      record {
        first = position_next (has_name name) param params h ∙ ap (option_map (λ k. suc k)) more.first;
        there = more.there;
      }

  first_is : (param : Param) (params : List Param) (place : ℕ) → Some 0 ≡ Some place
      → slice_get (param ∷ params) place ≡ Some it → At name kind (param ∷ params) place
  first_is param params place none_before there =
      let place_is : 0 ≡ place = ap (λ (o : Option ℕ). unwrap_or o 0) none_before in
      let param_is : param ≡ it =
      ap (λ (o : Option Param). unwrap_or o param) (ap (slice_get (param ∷ params)) place_is ∙ there) in
      subst (λ (k : ℕ). At name kind (param ∷ params) k) place_is
      (subst (λ (p : Param). At name kind (p ∷ params) 0) (sym param_is) here)

  is_at_in : (param : Param) (params : List Param) (place : ℕ)
      → ((k : ℕ) → PlaceOf name kind params k → At name kind params k)
      → bytes_eq param.name name ≡ false
      → (o : Option ℕ) → place_of name params ≡ o → option_map (λ k. suc k) o ≡ Some place
      → slice_get (param ∷ params) place ≡ Some it
      → At name kind (param ∷ params) place
  is_at_in param params place rest h None is k there = absurd cc
  is_at_in param params place rest h (Some n) is k there =
      let place_is : suc n ≡ place = ap (λ (o : Option ℕ). unwrap_or o 0) k in
      subst (λ (k : ℕ). At name kind (param ∷ params) k) place_is
      (later h (rest n (record { first = is; there = ap (slice_get (param ∷ params)) place_is ∙ there })))

  is_at_by : (param : Param) (params : List Param) (place : ℕ)
      → ((k : ℕ) → PlaceOf name kind params k → At name kind params k)
      → PlaceOf name kind (param ∷ params) place
      → (b : Bool) → bytes_eq param.name name ≡ b → At name kind (param ∷ params) place
  is_at_by param params place rest h true is =
      first_is param params place (sym (position_first (has_name name) param params is) ∙ h.first) h.there
  is_at_by param params place rest h false is =
      is_at_in param params place rest is (place_of name params) refl
      (sym (position_next (has_name name) param params is) ∙ h.first) h.there

  is_at : (params : List Param) (place : ℕ) → PlaceOf name kind params place → At name kind params place
  is_at [] place h = let there = h.there in absurd cc
  is_at (param ∷ params) place h = is_at_by param params place (is_at params) h (bytes_eq param.name name) refl

  -- ---- somewhere among parameters

  abbrev Somewhere : List Param → Type 0
  Somewhere params = (place : ℕ) × At name kind params place

  in_front : {front : List Param} {place : ℕ} (behind : List Param) → At name kind front place
      → Somewhere (front ++ behind)
  in_front behind (here {params = params}) = (0, here)
  in_front behind (later {param = param} {params = params} h rest) =
      let more = in_front behind rest in (suc more.0, later h more.1)

  behind_all : (front behind : List Param) → Absent name front → Somewhere behind → Somewhere (front ++ behind)
  behind_all [] behind h found = found
  behind_all (param ∷ front) behind h found =
      let parts = (neither (bytes_eq param.name name) (list_any (has_name name) front)).0 h in
      let more = behind_all front behind parts.1 found in
      (suc more.0, later parts.0 more.1)

  -- what a place among more parameters is without the first
  data Split (param : Param) (params : List Param) : Type 0 where
    it_is : param ≡ it → Split param params
    it_is_not : bytes_eq param.name name ≡ false → Somewhere params → Split param params

  split : {param : Param} {params : List Param} {place : ℕ} → At name kind (param ∷ params) place → Split param params
  split here = it_is refl
  split (later h rest) = it_is_not h (_, rest)

  apart_in : (param : Param) (front behind : List Param)
      → (Somewhere (front ++ behind) → Somewhere front ⊎ (Absent name front × Somewhere behind))
      → Split param (front ++ behind)
      → Somewhere (param ∷ front) ⊎ (Absent name (param ∷ front) × Somewhere behind)
  apart_in param front behind rest (it_is is) =
      inl (0, subst (λ (p : Param). At name kind (p ∷ front) 0) (sym is) here)
  apart_in param front behind rest (it_is_not h found) =
      elim (rest found) [
        | inl found ↦ inl (suc found.0, later h found.1)
        | inr both ↦ inr ((neither (bytes_eq param.name name) (list_any (has_name name) front)).1 (h, both.0), both.1)
      ]

  split_apart : (front behind : List Param) → Somewhere (front ++ behind)
      → Somewhere front ⊎ (Absent name front × Somewhere behind)
  split_apart [] behind found = inr (refl, found)
  split_apart (param ∷ front) behind found =
      apart_in param front behind (split_apart front behind) (split found.1)

  -- ---- groups

  abbrev names_of : List Word → List (List ℕ)
  names_of = map (λ (word : Word). word.name)

  in_group : (words : List Word) → is_one_of (names_of words) name ≡ true → Somewhere (of_one_type (Some kind) words)
  in_group [] h = absurd cc
  in_group (word ∷ words) h = by_name (bytes_eq word.name name) refl (λ k. in_group words k) h
    where
      by_name : (b : Bool) → bytes_eq word.name name ≡ b
          → (is_one_of (names_of words) name ≡ true → Somewhere (of_one_type (Some kind) words))
          → (b || is_one_of (names_of words) name) ≡ true
          → Somewhere (of_one_type (Some kind) (word ∷ words))
      by_name true is rest k = (
        0,
        subst (λ (n : List ℕ). At name kind (record { name = n; kind = kind } ∷ of_one_type (Some kind) words) 0)
            (sym (same_bytes word.name name is)) here,
      )
      by_name false is rest k = let more = rest k in (suc more.0, later is more.1)

  -- the parameters of a group have the names of the group, and its type
  of_group : (type : IvyType) (words : List Word) → Somewhere (of_one_type (Some type) words)
      → (is_one_of (names_of words) name ≡ true) × (type ≡ kind)
  of_group type [] found = elim found.1 [ ]
  of_group type (word ∷ words) found = by_split (of_group type words) (split found.1)
    where
      by_split : (Somewhere (of_one_type (Some type) words) → (is_one_of (names_of words) name ≡ true) × (type ≡ kind))
          → Split (record { name = word.name; kind = type }) (of_one_type (Some type) words)
          → (is_one_of (names_of (word ∷ words)) name ≡ true) × (type ≡ kind)
      by_split rest (it_is is) = (
        on_left (bytes_eq word.name name) (is_one_of (names_of words) name)
            (ap (λ (p : Param). bytes_eq p.name name) is ∙ same_self_bytes name),
        ap (λ (p : Param). p.kind) is,
      )
      by_split rest (it_is_not h more) =
          let parts = rest more in
          (on_right (bytes_eq word.name name) (is_one_of (names_of words) name) parts.0, parts.1)

-- the names of a group's parameters are the group's
typed_absent : (name : List ℕ) (type : Option IvyType) (words : List Word)
    → is_one_of (map (λ (word : Word). word.name) words) name ≡ false → Absent name (of_one_type type words)
typed_absent name None words h = refl
typed_absent name (Some type) [] h = refl
typed_absent name (Some type) (word ∷ words) h =
    let both = neither (bytes_eq word.name name) (is_one_of (map (λ (word : Word). word.name) words) name) in
    let parts = both.0 h in
    (neither (bytes_eq word.name name) (list_any (has_name name) (of_one_type (Some type) words))).1
    (parts.0, typed_absent name (Some type) words parts.1)

typed_present : (name : List ℕ) (type : IvyType) (words : List Word) → Absent name (of_one_type (Some type) words)
    → is_one_of (map (λ (word : Word). word.name) words) name ≡ false
typed_present name type [] h = refl
typed_present name type (word ∷ words) h =
    let parts = (neither (bytes_eq word.name name) (list_any (has_name name) (of_one_type (Some type) words))).0 h in
    (neither (bytes_eq word.name name) (is_one_of (map (λ (word : Word). word.name) words) name)).1
    (parts.0, typed_present name type words parts.1)

one_of_append : (xs ys : List (List ℕ)) (name : List ℕ)
    → is_one_of (xs ++ ys) name ≡ (is_one_of xs name || is_one_of ys name)
one_of_append xs ys name = list_any-append (λ (other : List ℕ). bytes_eq other name) xs ys

absent_append : (name : List ℕ) (xs ys : List Param) → Absent name xs → Absent name ys → Absent name (xs ++ ys)
absent_append name xs ys h k =
    list_any-append (has_name name) xs ys
    ∙ (neither (list_any (has_name name) xs) (list_any (has_name name) ys)).1 (h, k)

groups_absent : (name : List ℕ) (groups : List Group) → is_one_of (parameter_names groups) name ≡ false
    → Absent name (parameters groups)
groups_absent name [] h = refl
groups_absent name (group ∷ groups) h =
    let parts = (neither (is_one_of (group_names group) name) (is_one_of (parameter_names groups) name)).0
    (sym (one_of_append (group_names group) (parameter_names groups) name) ∙ h) in
    absent_append name (group_parameters group) (parameters groups)
    (typed_absent name (type_named group.kind.name) group.names parts.0) (groups_absent name groups parts.1)

-- ---- what groups declare

declared_name : {groups : List Group} {name : List ℕ} {type : IvyType} → Declares groups name type
    → is_one_of (parameter_names groups) name ≡ true
declared_name (rule.here {group = g} {groups = gs} {name = n} h t) =
    one_of_append (group_names g) (parameter_names gs) n
    ∙ on_left (is_one_of (group_names g) n) (is_one_of (parameter_names gs) n) h
declared_name (rule.later {group = g} {groups = gs} {name = n} h d) =
    one_of_append (group_names g) (parameter_names gs) n
    ∙ on_right (is_one_of (group_names g) n) (is_one_of (parameter_names gs) n) (declared_name d)

declared_stands : {groups : List Group} {name : List ℕ} {type : IvyType} → Declares groups name type
    → Somewhere name type (parameters groups)
declared_stands (rule.here {group = g} {groups = gs} {name = n} {type = t} h names) =
    let found = in_group n t g.names h in
    subst (λ (ps : List Param). Somewhere n t (ps ++ parameters gs))
    (sym (ap (λ (o : Option IvyType). of_one_type o g.names) (type_name_names names)))
    (in_front n t (parameters gs) found.1)
declared_stands (rule.later {group = g} {groups = gs} {name = n} {type = t} h d) =
    behind_all n t (group_parameters g) (parameters gs) (typed_absent n (type_named g.kind.name) g.names h)
    (declared_stands d)

stands_declared : (name : List ℕ) (type : IvyType) (groups : List Group) → TypesExist groups
    → Somewhere name type (parameters groups) → Declares groups name type
stands_declared name type [] types found = elim found.1 [ ]
stands_declared name type (group ∷ groups) types found =
    let kind : IvyType = types.0.0 in
    let typed : group_parameters group ≡ of_one_type (Some kind) group.names =
    ap (λ (o : Option IvyType). of_one_type o group.names) (type_name_names types.0.1) in
    by_place kind types.0.1 typed (stands_declared name type groups types.1)
    (split_apart name type (group_parameters group) (parameters groups) found)
  where
    by_place : (kind : IvyType) → NamesType group.kind.name kind
        → group_parameters group ≡ of_one_type (Some kind) group.names
        → (Somewhere name type (parameters groups) → Declares groups name type)
        → Somewhere name type (group_parameters group)
        ⊎ (Absent name (group_parameters group) × Somewhere name type (parameters groups))
        → Declares (group ∷ groups) name type
    by_place kind names typed rest (inl found) =
        let is = of_group name type kind group.names (subst (Somewhere name type) typed found) in
        rule.here is.0 (subst (NamesType group.kind.name) is.1 names)
    by_place kind names typed rest (inr both) =
        rule.later (typed_present name kind group.names (subst (Absent name) typed both.0)) (rest both.1)

-- ---- names that are distinct

IsApart : List (List ℕ) → List ℕ → Type 0
IsApart names name = AllByRecursion (λ other. bytes_eq name other ≡ false) names

apart_is : (name : List ℕ) (names : List (List ℕ)) → IsApart names name → is_one_of names name ≡ false
unfolding IsApart
apart_is name [] h = refl
apart_is name (other ∷ names) h =
    (neither (bytes_eq other name) (is_one_of names name)).1 (turned other name ∙ h.0, apart_is name names h.1)

is_apart : (name : List ℕ) (names : List (List ℕ)) → is_one_of names name ≡ false → IsApart names name
unfolding IsApart
is_apart name [] h = tt
is_apart name (other ∷ names) h =
    let parts = (neither (bytes_eq other name) (is_one_of names name)).0 h in
    (turned name other ∙ parts.0, is_apart name names parts.1)

-- of two lists no name of one stands in the other
abbrev NoneOf : (a b : List (List ℕ)) → Type 0
NoneOf a b = (name : List ℕ) → is_one_of a name ≡ true → is_one_of b name ≡ false

distinct_parts : (a b : List (List ℕ)) → AreDistinct (a ++ b) → AreDistinct a × AreDistinct b × NoneOf a b
unfolding IsDistinct IsApart
distinct_parts [] b h = (tt, h, λ name k. absurd cc)
distinct_parts (first ∷ a) b h =
    let more = distinct_parts a b h.1 in
    let apart = (all_append (λ (other : List ℕ). bytes_eq first other ≡ false) a b).0 h.0 in
    let none : is_one_of b first ≡ false = apart_is first b apart.1 in
    ((apart.0, more.0), more.1, λ name k. by_first name none more.2 (bytes_eq first name) refl k)
  where
    by_first : (name : List ℕ) → is_one_of b first ≡ false → NoneOf a b → (x : Bool) → bytes_eq first name ≡ x
        → (x || is_one_of a name) ≡ true → is_one_of b name ≡ false
    by_first name none rest true is k = subst (λ (n : List ℕ). is_one_of b n ≡ false) (same_bytes first name is) none
    by_first name none rest false is k = rest name k

distinct_both : (a b : List (List ℕ)) → AreDistinct a → AreDistinct b → NoneOf a b → AreDistinct (a ++ b)
unfolding IsDistinct IsApart
distinct_both [] b h k none = k
distinct_both (first ∷ a) b h k none =
    let itself : is_one_of (first ∷ a) first ≡ true =
    on_left (bytes_eq first first) (is_one_of a first) (same_self_bytes first) in (
      (all_append (λ (other : List ℕ). bytes_eq first other ≡ false) a b).1 (h.0, is_apart first b (none first itself)),
      distinct_both a b h.1 k (λ name is. none name (on_right (bytes_eq first name) (is_one_of a name) is)),
    )

other_way : (a b : List (List ℕ)) → NoneOf a b → NoneOf b a
other_way a b none name h =
    false_from_ne_true (is_one_of a name) (λ k. not_both (is_one_of b name) h (none name k))

-- ---- each at its own place

abbrev param_names : List Param → List (List ℕ)
param_names = map (λ (param : Param). param.name)

apart_there : (name : List ℕ) (params : List Param) (place : ℕ) (param : Param) → IsApart (param_names params) name
    → slice_get params place ≡ Some param → bytes_eq name param.name ≡ false
unfolding IsApart
apart_there name [] place param h there = absurd cc
apart_there name (first ∷ params) zero param h there =
    ap (λ (o : Option Param). bytes_eq name (unwrap_or o first).name) (sym there) ∙ h.0
apart_there name (first ∷ params) (suc place) param h there = apart_there name params place param h.1 there

own_place : (params : List Param) → AreDistinct (param_names params) → (place : ℕ) (param : Param)
    → slice_get params place ≡ Some param → place_of param.name params ≡ Some place
unfolding IsDistinct IsApart
own_place [] h place param there = absurd cc
own_place (first ∷ params) h zero param there =
    position_first (has_name param.name) first params
    (ap (λ (o : Option Param). bytes_eq first.name (unwrap_or o first).name) (sym there) ∙ same_self_bytes first.name)
own_place (first ∷ params) h (suc place) param there =
    position_next (has_name param.name) first params (apart_there first.name params place param h.0 there)
    ∙ ap (option_map (λ k. suc k)) (own_place params h.1 place param there)

typed_names : (type : IvyType) (words : List Word)
    → param_names (of_one_type (Some type) words) ≡ map (λ (word : Word). word.name) words
typed_names type [] = refl
typed_names type (word ∷ words) = ap (λ (names : List (List ℕ)). word.name ∷ names) (typed_names type words)

names_are : (groups : List Group) → TypesExist groups → param_names (parameters groups) ≡ parameter_names groups
names_are [] types = refl
names_are (group ∷ groups) types =
    map-append (λ (param : Param). param.name) (group_parameters group) (parameters groups)
    ∙ (λ i. (ap (λ (o : Option IvyType). param_names (of_one_type o group.names)) (type_name_names types.0.1)
    ∙ typed_names types.0.0 group.names) i
    ++ names_are groups types.1 i)

-- ---- the law

pub as_many : (groups : List Group) → TypesExist groups → length (parameters groups) ≡ params_of groups
as_many [] types = refl
as_many (group ∷ groups) types =
    length-append (group_parameters group) (parameters groups)
    ∙ (λ i. (ap (λ (o : Option IvyType). length (of_one_type o group.names)) (type_name_names types.0.1)
    ∙ length-map group.names (λ (word : Word). record { name = word.name; kind = types.0.0 })) i
    + as_many groups types.1 i)
    ∙ sym (sum_by-cons (λ (n : ℕ). n) (length group.names) (map (λ (group : Group). length group.names) groups))

module _ (contract : Contract) (clause : ClauseTree) (t : ContractIsTyped contract)
    (c : ClauseIsTyped contract clause) where
  abbrev held : List (List ℕ)
  held = parameter_names contract.params

  abbrev value : List (List ℕ)
  value = contract.value.name ∷ []

  abbrev given : List (List ℕ)
  given = parameter_names clause.params

  abbrev required : List (List ℕ)
  required = required_names clause.reqs

  -- of four lists of names each is apart from each
  record Apart : Type 0 where
    held_distinct : AreDistinct held
    given_distinct : AreDistinct given
    held_value : NoneOf held value
    held_given : NoneOf held given
    held_required : NoneOf held required
    value_given : NoneOf value given
    given_required : NoneOf given required

  are_apart : Apart
  are_apart =
      let all = distinct_parts (held ++ value) (given ++ required) c.distinct in
      let outer = distinct_parts held value all.0 in
      let inner = distinct_parts given required all.1 in
      let of_held = λ (name : List ℕ) (h : is_one_of held name ≡ true).
      (neither (is_one_of given name) (is_one_of required name)).0
      (sym (one_of_append given required name)
      ∙ all.2 name (one_of_append held value name ∙ on_left (is_one_of held name) (is_one_of value name) h)) in
      let of_value = λ (name : List ℕ) (h : is_one_of value name ≡ true).
      (neither (is_one_of given name) (is_one_of required name)).0
      (sym (one_of_append given required name)
      ∙ all.2 name (one_of_append held value name ∙ on_right (is_one_of held name) (is_one_of value name) h)) in
      record {
        held_distinct = outer.0;
        given_distinct = inner.0;
        held_value = outer.2;
        held_given = λ name h. (of_held name h).0;
        held_required = λ name h. (of_held name h).1;
        value_given = λ name h. (of_value name h).0;
        given_required = inner.2;
      }

  abbrev scope : Scope
  scope = in_clause contract clause

  no_value : (name : List ℕ) → is_one_of value name ≡ false → is_one_of required name ≡ false
      → is_one_of (value_names scope) name ≡ false
  no_value name h k =
      let parts = (neither (bytes_eq contract.value.name name) false).0 h in
      (neither (bytes_eq contract.value.name name) (is_one_of required name)).1 (parts.0, k)

  parameter_stands : (name : List ℕ) (type : IvyType) → IsParameter scope name type
      → Somewhere name type (all_parameters scope)
  parameter_stands name type (rule.of_clause none d) =
      behind_all name type (parameters contract.params) (parameters clause.params)
      (groups_absent name contract.params (other_way held given are_apart.held_given name (declared_name d)))
      (declared_stands d)
  parameter_stands name type (rule.of_contract none other d) =
      in_front name type (parameters clause.params) (declared_stands d).1

  stands_parameter : (name : List ℕ) (type : IvyType)
      → Somewhere name type (parameters contract.params)
      ⊎ (Absent name (parameters contract.params) × Somewhere name type (parameters clause.params))
      → IsParameter scope name type
  stands_parameter name type (inl found) =
      let d = stands_declared name type contract.params t.types found in
      let is = declared_name d in
      rule.of_contract (no_value name (are_apart.held_value name is) (are_apart.held_required name is))
      (are_apart.held_given name is) d
  stands_parameter name type (inr found) =
      let d = stands_declared name type clause.params c.types found.1 in
      let is = declared_name d in
      rule.of_clause
      (no_value name (other_way value given are_apart.value_given name is) (are_apart.given_required name is)) d

  pub parameter_is_placed : (name : List ℕ) (type : IvyType) → IsParameter scope name type
      ↔ ((place : ℕ) × PlaceOf name type (all_parameters scope) place)
  parameter_is_placed name type = (
    (λ p. let found = parameter_stands name type p in (found.0, at_is name type found.1)),
    (λ h. stands_parameter name type
        (split_apart name type (parameters contract.params) (parameters clause.params)
        (h.0, is_at name type (all_parameters scope) h.0 h.1))),
  )

  pub parameter_owns : (place : ℕ) (param : Param) → slice_get (all_parameters scope) place ≡ Some param
      → place_of param.name (all_parameters scope) ≡ Some place
  parameter_owns place param there =
      let names : param_names (all_parameters scope) ≡ held ++ given =
      map-append (λ (param : Param). param.name) (parameters contract.params) (parameters clause.params)
      ∙ (λ i. names_are contract.params t.types i ++ names_are clause.params c.types i) in
      own_place (all_parameters scope)
      (subst AreDistinct (sym names)
      (distinct_both held given are_apart.held_distinct are_apart.given_distinct are_apart.held_given))
      place param there
