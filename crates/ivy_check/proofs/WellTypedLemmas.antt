-- The tests of a source pass exactly where it is well typed.
use Rattle.std.proofs.Common.{◌≡◌, ◌↔◌, ◌||◌, ℕ, Bool, true, false, not, List, [], ◌∷◌, ◌++◌, Option, Some, None}
use Rattle.std.proofs.Common.{refl, ap, sym, ◌∙◌, subst, map, is_some}
use Rattle.std.specs.Prelude.{bytes_eq}
use Rattle.std.specs.List.{list_any, flat_map, AllByRecursion, Any}
use Rattle.std.proofs.lemmas.List.Folds.{list_any-append}
use Rattle.std.proofs.lemmas.Slice.Eq.{bytes_eq-Decides}
use Rattle.ivy_syntax.specs.declared.tree.Word.{Word}
use Rattle.ivy_syntax.specs.declared.tree.Expr.{Expr}
use Rattle.ivy_syntax.specs.declared.tree.Group.{Group}
use Rattle.ivy_syntax.specs.declared.tree.Req.{Req}
use Rattle.ivy_syntax.specs.declared.tree.Stmt.{Stmt}
use Rattle.ivy_syntax.specs.declared.tree.Stmt.TheVariants.{Verify, Lock, Unlock}
use Rattle.ivy_syntax.specs.declared.tree.ClauseTree.{ClauseTree}
use Rattle.ivy_syntax.specs.declared.tree.Contract.{Contract}
use Rattle.ivy_syntax.specs.declared.tree.Source.{Source}
use Rattle.ivy_check.specs.declared.types.IvyType.{IvyType}
use Rattle.ivy_check.specs.declared.types.IvyType.TheVariants.{Amount, Asset, Boolean, Program}
use Rattle.ivy_check.specs.declared.functions.ParamType.TheVariants.{Exactly}
use Rattle.ivy_check.specs.Tests.{Test, Reported, fault, first_of, walked}
use Rattle.ivy_check.specs.Types.{type_named, has_type}
use Rattle.ivy_check.specs.Functions.{is_reserved}
use Rattle.ivy_check.specs.Scope.{Scope, is_name, is_among, is_parameter, is_required, is_value}
use Rattle.ivy_check.specs.Declarations.{declared, is_contract_name, param_name_tests, group_tests, param_tests}
use Rattle.ivy_check.specs.Expressions.{Typing, typing, is_list, whole_tests, fits_param}
use Rattle.ivy_check.specs.Statements.{is_disposed, is_no_value, statement_tests, left, left_tests, side_tests}
use Rattle.ivy_check.specs.Statements.{sides_tests}
use Rattle.ivy_check.specs.Statements.{program_tests}
use Rattle.ivy_check.specs.WellTyped.{ClauseUses, EachIsUsed}
use Rattle.ivy_check.specs.Uses.{clause_uses, word_unused, unused_tests}
use Rattle.ivy_check.specs.TypeFault.{req_tests, clause_body_tests, clause_tests, contract_tests, tests_of}
use Rattle.ivy_check.specs.Typing.{is_one_of, group_names, parameter_names, value_names, NamesType, TypesExist}
use Rattle.ivy_check.specs.Typing.{HasType, TakesType}
use Rattle.ivy_check.specs.WellTyped.{reserved_names, NoneIsReserved, AreDistinct, contract_names, required_names}
use Rattle.ivy_check.specs.WellTyped.{RequirementIsTyped, StatementIsTyped, disposed_by, disposed_names}
use Rattle.ivy_check.specs.WellTyped.{StatementsAreTyped}
use Rattle.ivy_check.specs.WellTyped.{ValuesAreDisposed, ClauseIsTyped, ContractIsTyped, WellTyped}
use Rattle.ivy_check.proofs.TableLemmas.{reported_is}
use Rattle.ivy_check.proofs.UseLemmas.{one_uses_is}
use Rattle.ivy_check.proofs.WholeLemmas.{none_both}
use Rattle.ivy_check.proofs.TypeWords.{among_is, parameter_is, required_is, value_is, type_name_is, type_name_names}
use Rattle.ivy_check.proofs.TypingRules.{Passes, passes_unless, whole_passes, has_it, typed, typed_takes}
use Rattle.ivy_check.proofs.TypingFound.{passed_unless, has_is, whole_found, takes_found, finds_type, are_known}
use Rattle.ivy_check.proofs.NameLists.{iff_then, iff_pair, passes_both, passes_fault, passes_not, same_answer}
use Rattle.ivy_check.proofs.NameLists.{all_append, all_map, all_flat, all_both, AreNew, new_append, one_more}
use Rattle.ivy_check.proofs.NameLists.{distinct_after, distinct_is, walk_names, walk_named, reserved_is}

-- ---- names

abbrev IsFree : List ℕ → Type 0
IsFree name = is_one_of reserved_names name ≡ false

-- the names of the contract around a clause
abbrev names_around : Option Contract → List (List ℕ)
names_around None = []
names_around (Some contract) = contract_names contract

or_nothing : (x : Bool) → (x || false) ≡ x
or_nothing true = refl
or_nothing false = refl

among : (xs ys : List (List ℕ)) (name : List ℕ) → (is_one_of xs name || is_one_of ys name) ≡ is_one_of (xs ++ ys) name
among xs ys name = sym (list_any-append (λ (other : List ℕ). bytes_eq other name) xs ys)

around_is : (enclosing : Option Contract) (name : List ℕ)
    → is_contract_name enclosing name ≡ is_one_of (names_around enclosing) name
around_is None name = refl
around_is (Some contract) name =
    (λ i. parameter_is name contract.params i || sym (or_nothing (bytes_eq contract.value.name name)) i)
    ∙ among (parameter_names contract.params) (contract.value.name ∷ []) name

-- a name that is taken around a clause, by a parameter or by one of these
taken_is : (enclosing : Option Contract) (groups : List Group) (name : List ℕ) (other : Bool) (others : List (List ℕ))
    → other ≡ is_one_of others name
    → (is_contract_name enclosing name || is_parameter name groups || other)
    ≡ is_one_of ((names_around enclosing ++ parameter_names groups) ++ others) name
taken_is enclosing groups name other others h =
    (λ i. (around_is enclosing name i || parameter_is name groups i) || h i)
    ∙ ap (λ (x : Bool). x || is_one_of others name) (among (names_around enclosing) (parameter_names groups) name)
    ∙ among (names_around enclosing ++ parameter_names groups) others name

named_is : {X : Type 0} (word_of : X → Word) (name : List ℕ) (xs : List X)
    → list_any (λ x. is_name name (word_of x)) xs ≡ is_one_of (map (λ x. (word_of x).name) xs) name
named_is word_of name [] = refl
named_is word_of name (x ∷ xs) = ap (λ (b : Bool). bytes_eq (word_of x).name name || b) (named_is word_of name xs)

-- a declared name is new and free
declared_is : (kind : ℕ) (word : Word) (taken : Bool) (names : List (List ℕ)) → taken ≡ is_one_of names word.name
    → Passes (declared kind word taken) ↔ ((is_one_of names word.name ≡ false) × IsFree word.name)
unfolding declared
declared_is kind word taken names h =
    let both = passes_both (fault 4 word.at (is_reserved word.name)) (fault kind word.at taken) in
    let free = iff_then (passes_fault 4 word.at (is_reserved word.name))
    (same_answer (is_reserved word.name) (is_one_of reserved_names word.name) false (reserved_is word.name)) in
    let new = iff_then (passes_fault kind word.at taken)
    (same_answer taken (is_one_of names word.name) false h) in (
      (λ p. let parts = both.0 p in (new.0 parts.1, free.0 parts.0)),
      (λ p. both.1 (free.1 p.1, new.1 p.0)),
    )

-- ---- parameters

type_in : (name : List ℕ) (o : Option IvyType) → type_named name ≡ o → is_some o ≡ true
    → (type : IvyType) × NamesType name type
type_in name None is h = absurd cc
type_in name (Some type) is h = (type, type_name_is name type is)

type_is : (name : List ℕ) → (is_some (type_named name) ≡ true) ↔ ((type : IvyType) × NamesType name type)
type_is name = (
  type_in name (type_named name) refl,
  (λ h. ap (λ (o : Option IvyType). is_some o) (type_name_names h.1)),
)

abbrev TypeExists : Group → Type 0
TypeExists group = (type : IvyType) × NamesType group.kind.name type

group_is : (enclosing : Option Contract) (before : List Group) (group : Group)
    → Passes (group_tests enclosing before group)
    ↔ (AreNew (names_around enclosing ++ parameter_names before) (group_names group)
    × (NoneIsReserved (group_names group) × TypeExists group))
group_is enclosing before group =
    let outer : List (List ℕ) = names_around enclosing ++ parameter_names before in
    let names = walk_named (λ (word : Word). word.name) (λ (word : Word). IsFree word.name)
    (param_name_tests enclosing before) outer
    (λ earlier word. declared_is 2 word _ (outer ++ map (λ (other : Word). other.name) earlier)
    (taken_is enclosing before word.name (is_among word.name earlier) (map (λ (other : Word). other.name) earlier)
    (among_is word.name earlier))) group.names in
    let free = all_map IsFree (λ (word : Word). word.name) group.names in
    let exists = iff_then (passes_not 5 group.kind.at (is_some (type_named group.kind.name)))
    (type_is group.kind.name) in
    let both = passes_both (walked (param_name_tests enclosing before) [] group.names)
    (fault 5 group.kind.at (not (is_some (type_named group.kind.name)))) in (
      (λ h.
          let parts = both.0 h in
          let here = names.0 parts.0 in
          (here.0, (free.0 here.1, exists.0 parts.1))),
      (λ h. both.1 (names.1 (h.0, free.1 h.1.0), exists.1 h.1.1)),
    )

params_are : (enclosing : Option Contract) (groups : List Group)
    → Passes (param_tests enclosing groups)
    ↔ (AreNew (names_around enclosing) (parameter_names groups)
    × (NoneIsReserved (parameter_names groups) × TypesExist groups))
params_are enclosing groups =
    let each = walk_names group_names (λ group. NoneIsReserved (group_names group) × TypeExists group)
    (group_tests enclosing) (names_around enclosing) (group_is enclosing) groups in
    let both = all_both (λ group. NoneIsReserved (group_names group)) TypeExists groups in
    let free = all_flat IsFree group_names groups in (
      (λ h.
          let parts = each.0 h in
          let apart = both.0 parts.1 in
          (parts.0, (free.0 apart.0, apart.1))),
      (λ h. each.1 (h.0, both.1 (free.1 h.1.0, h.1.1))),
    )

-- ---- what each of several things passes

flat_are : {X : Type 0} (P : X → Type 0) (tests : X → List Test) → ((x : X) → Passes (tests x) ↔ P x) → (xs : List X)
    → Passes (flat_map tests xs) ↔ AllByRecursion P xs
flat_are P tests each [] = ((λ h. tt), (λ h. refl))
flat_are P tests each (x ∷ xs) =
    iff_then (passes_both (tests x) (flat_map tests xs)) (iff_pair (each x) (flat_are P tests each xs))

used_are : (clauses : List ClauseTree) (groups : List Group)
    → Passes (unused_tests clauses groups) ↔ EachIsUsed clauses groups
used_are clauses groups =
    let IsUsed : List ℕ → Type 0 = λ name. Any (ClauseUses name) clauses in
    iff_then (flat_are (λ (group : Group). AllByRecursion IsUsed (group_names group))
    (λ (group : Group). flat_map (word_unused clauses) group.names)
    (λ group. iff_then (flat_are (λ (word : Word). IsUsed word.name) (word_unused clauses)
    (λ word. iff_then (passes_not 18 word.at (list_any (clause_uses word.name) clauses))
    (one_uses_is word.name clauses))
    group.names) (all_map IsUsed (λ (word : Word). word.name) group.names)) groups)
    (all_flat IsUsed group_names groups)

-- ---- values

disposed_is : (name : List ℕ) (stmts : List Stmt) → is_disposed name stmts ≡ is_one_of (disposed_names stmts) name
disposed_is name [] = refl
disposed_is name (Verify at e ∷ stmts) = disposed_is name stmts
disposed_is name (Lock at value program ∷ stmts) =
    ap (λ (b : Bool). bytes_eq value.name name || b) (disposed_is name stmts)
disposed_is name (Unlock at value ∷ stmts) = ap (λ (b : Bool). bytes_eq value.name name || b) (disposed_is name stmts)

left_is : (stmts : List Stmt) (value : Word)
    → Passes (left stmts value) ↔ (is_one_of (disposed_names stmts) value.name ≡ true)
left_is stmts value =
    iff_then (passes_not 17 value.at (is_disposed value.name stmts))
    (same_answer (is_disposed value.name stmts) (is_one_of (disposed_names stmts) value.name) true
    (disposed_is value.name stmts))

values_are : (scope : Scope) → Passes (left_tests scope) ↔ ValuesAreDisposed scope
values_are scope =
    let stmts : List Stmt = scope.clause.stmts in
    let required : List Test = flat_map (λ (req : Req). left stmts req.name) scope.clause.reqs in
    let each = flat_are (λ (req : Req). is_one_of (disposed_names stmts) req.name.name ≡ true)
    (λ (req : Req). left stmts req.name) (λ req. left_is stmts req.name) scope.clause.reqs in
    let names = all_map (λ (name : List ℕ). is_one_of (disposed_names stmts) name ≡ true) (λ (req : Req). req.name.name)
    scope.clause.reqs in
    iff_then (passes_both (left stmts scope.contract.value) required)
    (iff_pair (left_is stmts scope.contract.value) (iff_then each names))

first_holds : (x y : Bool) → (x || y) ≡ true → y ≡ false → x ≡ true
first_holds true y h k = refl
first_holds false y h k = absurd cc

-- ---- statements and requirements, where the types of all parameters exist

module _ (scope : Scope) (clause_types : TypesExist scope.clause.params)
    (contract_types : TypesExist scope.contract.params) where
  abbrev typed_tests : (kind : ℕ) → IvyType → Typing → List Test
  typed_tests kind expected t = whole_tests t ++ fault kind t.from (not (has_type expected t.inferred.ivy_type))

  whole_is : (kind : ℕ) (expected : IvyType) (e : Expr)
      → Passes (typed_tests kind expected (typing scope e))
      ↔ HasType scope e expected
  whole_is kind expected e =
      let t : Typing = typing scope e in
      let clause_known = are_known scope.clause.params clause_types in
      let contract_known = are_known scope.contract.params contract_types in
      let both = passes_both (whole_tests t) (fault kind t.from (not (has_type expected t.inferred.ivy_type))) in (
        (λ h.
            let parts = both.0 h in
            let finds = finds_type scope clause_known contract_known e in
            let found = whole_found scope clause_known contract_known e finds parts.0 in
            subst (HasType scope e)
            (has_is expected found.0 t.inferred.ivy_type (typed scope found.1).0
            (passed_unless kind t.from (has_type expected t.inferred.ivy_type) parts.1)) found.1),
        (λ h.
            let is = typed scope h in
            both.1 (
              whole_passes t (is.1, is.2),
              passes_unless kind t.from (has_type expected t.inferred.ivy_type)
                  (has_it expected t.inferred.ivy_type is.0),
            )),
      )

  side_is : (type : IvyType) (e : Expr) → Passes (side_tests type (typing scope e)) ↔ TakesType scope e type
  side_is type e =
      let t : Typing = typing scope e in
      let clause_known = are_known scope.clause.params clause_types in
      let contract_known = are_known scope.contract.params contract_types in
      let both = passes_both (whole_tests t) (fault 10 t.from (not (fits_param (Exactly type) t.inferred))) in (
        (λ h.
            let parts = both.0 h in
            let inner = none_both (t.tests None) (fault 9 t.from (is_list t.inferred)) parts.0 in
            takes_found scope clause_known contract_known type e
            (finds_type scope clause_known contract_known e None inner.0)
            (passed_unless 10 t.from (fits_param (Exactly type) t.inferred) parts.1)),
        (λ h.
            let is = typed_takes scope h in
            both.1 (whole_passes t is.0, passes_unless 10 t.from (fits_param (Exactly type) t.inferred) is.1)),
      )

  requirement_is : (req : Req) → Passes (sides_tests scope req) ↔ RequirementIsTyped scope req
  requirement_is req =
      let amount = side_is Amount req.amount in
      let asset = side_is Asset req.asset in
      let both = passes_both (side_tests Amount (typing scope req.amount))
      (side_tests Asset (typing scope req.asset)) in (
        (λ h.
            let parts = both.0 h in
            record { amount = amount.0 parts.0; asset = asset.0 parts.1 }),
        (λ h. both.1 (amount.1 h.amount, asset.1 h.asset)),
      )

  requirements_are : (reqs : List Req)
      → Passes (walked (req_tests scope) [] reqs)
      ↔ (AreNew (contract_names scope.contract ++ parameter_names scope.clause.params) (required_names reqs)
      × (NoneIsReserved (required_names reqs) × AllByRecursion (RequirementIsTyped scope) reqs))
  requirements_are reqs =
      let outer : List (List ℕ) = contract_names scope.contract ++ parameter_names scope.clause.params in
      let name_of : Req → List ℕ = λ req. req.name.name in
      let each : (before : List Req) (req : Req) → Passes (req_tests scope before req)
      ↔ ((is_one_of (outer ++ map name_of before) (name_of req) ≡ false)
      × (IsFree (name_of req) × RequirementIsTyped scope req)) =
      (λ before req.
      let taken : Bool = is_contract_name (Some scope.contract) req.name.name
      || is_parameter req.name.name scope.clause.params
      || is_required req.name.name before in
      let name = declared_is 2 req.name taken (outer ++ map name_of before)
      (taken_is (Some scope.contract) scope.clause.params req.name.name (is_required req.name.name before)
      (map name_of before)
      (required_is req.name.name before)) in
      let sides = requirement_is req in
      let both = passes_both (declared 2 req.name taken) (sides_tests scope req) in (
        (λ h.
            let parts = both.0 h in
            let here = name.0 parts.0 in
            (here.0, (here.1, sides.0 parts.1))),
        (λ h. both.1 (name.1 (h.0, h.1.0), sides.1 h.1.1)),
      )) in
      let all = walk_named name_of (λ req. IsFree (name_of req) × RequirementIsTyped scope req) (req_tests scope)
      outer each reqs in
      let apart = all_both (λ req. IsFree (name_of req)) (RequirementIsTyped scope) reqs in
      let free = all_map IsFree name_of reqs in (
        (λ h.
            let parts = all.0 h in
            let two = apart.0 parts.1 in
            (parts.0, (free.0 two.0, two.1))),
        (λ h. all.1 (h.0, apart.1 (free.1 h.1.0, h.1.1))),
      )

  value_of : (kind : ℕ) (value : Word)
      → Passes (fault kind value.at (is_no_value scope value)) ↔ (is_one_of (value_names scope) value.name ≡ true)
  value_of kind value =
      iff_then (passes_not kind value.at (is_value scope value.name))
      (same_answer (is_value scope value.name) (is_one_of (value_names scope) value.name) true
      (value_is scope value.name))

  not_before : (before : List Stmt) (value : Word)
      → Passes (fault 16 value.at (is_disposed value.name before))
      ↔ (is_one_of (disposed_names before) value.name ≡ false)
  not_before before value =
      iff_then (passes_fault 16 value.at (is_disposed value.name before))
      (same_answer (is_disposed value.name before) (is_one_of (disposed_names before) value.name) false
      (disposed_is value.name before))

  statement_is : (before : List Stmt) (stmt : Stmt)
      → Passes (statement_tests scope before stmt)
      ↔ (AreNew (disposed_names before) (disposed_by stmt) × StatementIsTyped scope stmt)
  statement_is before (Verify at e) =
      let whole = whole_is 11 Boolean e in ((λ h. (tt, whole.0 h)), (λ h. whole.1 h.1))
  statement_is before (Lock at value program) =
      let whole = whole_is 12 Program program in
      let value_tests : List Test = fault 13 value.at (is_no_value scope value) in
      let twice : List Test = fault 16 value.at (is_disposed value.name before) in
      let outer = passes_both (value_tests ++ twice) (program_tests (typing scope program)) in
      let inner = passes_both value_tests twice in (
        (λ h.
            let parts = outer.0 h in
            let two = inner.0 parts.0 in
            (((not_before before value).0 two.1, tt), ((value_of 13 value).0 two.0, whole.0 parts.1))),
        (λ h. outer.1 (
          inner.1 ((value_of 13 value).1 h.1.0, (not_before before value).1 h.0.0),
          whole.1 h.1.1,
        )),
      )
  statement_is before (Unlock at value) =
      let value_tests : List Test = fault 13 value.at (is_no_value scope value) in
      let required : List Test = fault 15 value.at (is_required value.name scope.clause.reqs) in
      let twice : List Test = fault 16 value.at (is_disposed value.name before) in
      let outer = passes_both (value_tests ++ required) twice in
      let inner = passes_both value_tests required in
      let names : List (List ℕ) = required_names scope.clause.reqs in
      let locked : Bool = bytes_eq scope.contract.value.name value.name in
      let not_required = iff_then (passes_fault 15 value.at (is_required value.name scope.clause.reqs))
      (same_answer (is_required value.name scope.clause.reqs) (is_one_of names value.name) false
      (required_is value.name scope.clause.reqs)) in
      let same = bytes_eq-Decides scope.contract.value.name value.name in (
        (λ h.
            let parts = outer.0 h in
            let two = inner.0 parts.0 in
            let other = not_required.0 two.1 in (
              ((not_before before value).0 parts.1, tt),
              (
                sym (same.0 (first_holds locked (is_one_of names value.name) ((value_of 13 value).0 two.0) other)),
                other,
              ),
            )),
        (λ h. outer.1 (
          inner.1 (
            (value_of 13 value).1 (ap (λ (b : Bool). b || is_one_of names value.name) (same.1 (sym h.1.0))),
            not_required.1 h.1.1,
          ),
          (not_before before value).1 h.0.0,
        )),
      )

  pub statements_are : Passes (walked (statement_tests scope) [] scope.clause.stmts) ↔ StatementsAreTyped scope
  statements_are =
      let stmts : List Stmt = scope.clause.stmts in
      let all = walk_names disposed_by (StatementIsTyped scope) (statement_tests scope) [] statement_is stmts in
      let distinct = distinct_is (disposed_names stmts) in (
        (λ h.
            let parts = all.0 h in
            record { each = parts.1; once = distinct.0 parts.0 }),
        (λ h. all.1 (distinct.1 h.once, h.each)),
      )

-- ---- clauses

module _ (contract : Contract) (contract_types : TypesExist contract.params)
    (contract_distinct : AreDistinct (contract_names contract))
  where
    abbrev name_of_clause : ClauseTree → List ℕ
    name_of_clause clause = clause.name.name

    clause_is : (before : List ClauseTree) (clause : ClauseTree)
        → Passes (clause_tests contract before clause)
        ↔ ((is_one_of (map name_of_clause before) clause.name.name ≡ false) × ClauseIsTyped contract clause)
    clause_is before clause =
        let scope : Scope = record { contract = contract; clause = clause } in
        let taken : Bool = list_any (λ (other : ClauseTree). is_name clause.name.name other.name) before in
        let name = declared_is 3 clause.name taken (map name_of_clause before)
        (named_is (λ (other : ClauseTree). other.name) clause.name.name before) in
        let params = params_are (Some contract) clause.params in
        let used = used_are (clause ∷ []) clause.params in
        let values = values_are scope in
        let outer : List (List ℕ) = contract_names contract in
        let groups : List (List ℕ) = parameter_names clause.params in
        let required : List (List ℕ) = required_names clause.reqs in
        let new = new_append outer groups required in
        let distinct = distinct_after outer (groups ++ required) in
        let free = all_append IsFree groups required in
        let one : List Test = param_tests (Some contract) clause.params in
        let two : List Test = walked (req_tests scope) [] clause.reqs in
        let three : List Test = walked (statement_tests scope) [] clause.stmts in
        let four : List Test = left_tests scope in
        let five : List Test = unused_tests (clause ∷ []) clause.params in
        let all = passes_both (declared 3 clause.name taken) (clause_body_tests scope) in
        let body = passes_both (one ++ two ++ three ++ four) five in
        let until_four = passes_both (one ++ two ++ three) four in
        let until_three = passes_both (one ++ two) three in
        let until_two = passes_both one two in (
          (λ h.
              let a = all.0 h in
              let b = body.0 a.1 in
              let c = until_four.0 b.0 in
              let d = until_three.0 c.0 in
              let e = until_two.0 d.0 in
              let here = name.0 a.0 in
              let p = params.0 e.0 in
              let r = (requirements_are scope p.1.1 contract_types clause.reqs).0 e.1 in (
                here.0,
                record {
                  declarable = (here.1, free.1 (p.1.0, r.1.0));
                  distinct = distinct.1 (contract_distinct, new.1 (p.0, r.0));
                  types = p.1.1;
                  requirements = r.1.1;
                  statements = (statements_are scope p.1.1 contract_types).0 d.1;
                  disposed = values.0 c.1;
                  used = used.0 b.1;
                },
              )),
          (λ h.
              let t = h.1 in
              let apart = new.0 (distinct.0 t.distinct).1 in
              let f = free.0 t.declarable.1 in
              all.1 (
                name.1 (h.0, t.declarable.0),
                body.1 (
                  until_four.1 (
                    until_three.1 (
                      until_two.1 (
                        params.1 (apart.0, (f.0, t.types)),
                        (requirements_are scope t.types contract_types clause.reqs).1 (apart.1, (f.1, t.requirements)),
                      ),
                      (statements_are scope t.types contract_types).1 t.statements,
                    ),
                    values.1 t.disposed,
                  ),
                  used.1 t.used,
                ),
              )),
        )

    clauses_are : (clauses : List ClauseTree)
        → Passes (walked (clause_tests contract) [] clauses)
        ↔ (AreDistinct (map name_of_clause clauses) × AllByRecursion (ClauseIsTyped contract) clauses)
    clauses_are clauses =
        iff_then (walk_named name_of_clause (ClauseIsTyped contract) (clause_tests contract) [] clause_is clauses)
        (iff_pair (distinct_is (map name_of_clause clauses)) ((λ h. h), (λ h. h)))

-- ---- contracts

abbrev name_of_contract : Contract → List ℕ
name_of_contract contract = contract.name.name

contract_is : (before : List Contract) (contract : Contract)
    → Passes (contract_tests before contract)
    ↔ ((is_one_of (map name_of_contract before) contract.name.name ≡ false) × ContractIsTyped contract)
contract_is before contract =
    let taken : Bool = list_any (λ (other : Contract). is_name contract.name.name other.name) before in
    let name = declared_is 1 contract.name taken (map name_of_contract before)
    (named_is (λ (other : Contract). other.name) contract.name.name before) in
    let names : List (List ℕ) = parameter_names contract.params in
    let params = params_are None contract.params in
    let value = declared_is 2 contract.value (is_parameter contract.value.name contract.params) names
    (parameter_is contract.value.name contract.params) in
    let used = used_are contract.clauses contract.params in
    let new = distinct_is names in
    let distinct = one_more names contract.value.name in
    let free = all_append IsFree names (contract.value.name ∷ []) in
    let one : List Test = declared 1 contract.name taken in
    let two : List Test = param_tests None contract.params in
    let three : List Test = declared 2 contract.value (is_parameter contract.value.name contract.params) in
    let four : List Test = walked (clause_tests contract) [] contract.clauses in
    let five : List Test = unused_tests contract.clauses contract.params in
    let all = passes_both (one ++ two ++ three ++ four) five in
    let until_four = passes_both (one ++ two ++ three) four in
    let until_three = passes_both (one ++ two) three in
    let until_two = passes_both one two in (
      (λ h.
          let a = all.0 h in
          let b = until_four.0 a.0 in
          let c = until_three.0 b.0 in
          let d = until_two.0 c.0 in
          let here = name.0 d.0 in
          let p = params.0 d.1 in
          let v = value.0 c.1 in
          let apart : AreDistinct (contract_names contract) = distinct.1 (new.0 p.0, v.0) in
          let all_clauses = (clauses_are contract p.1.1 apart contract.clauses).0 b.1 in (
            here.0,
            record {
              declarable = (here.1, free.1 (p.1.0, (v.1, tt)));
              distinct = apart;
              types = p.1.1;
              named = all_clauses.0;
              clauses = all_clauses.1;
              used = used.0 a.1;
            },
          )),
      (λ h.
          let t = h.1 in
          let apart = distinct.0 t.distinct in
          let f = free.0 t.declarable.1 in
          all.1 (
            until_four.1 (
              until_three.1 (
                until_two.1 (name.1 (h.0, t.declarable.0), params.1 (new.1 apart.0, (f.0, t.types))),
                value.1 (apart.1, f.1.0),
              ),
              (clauses_are contract t.types t.distinct contract.clauses).1 (t.named, t.clauses),
            ),
            used.1 t.used,
          )),
    )

pub source_is : (source : Source) → Passes (tests_of source) ↔ WellTyped source
source_is source =
    let all = walk_named name_of_contract ContractIsTyped contract_tests [] contract_is source.contracts in
    let distinct = distinct_is (map name_of_contract source.contracts) in (
      (λ h.
          let parts = all.0 h in
          record { named = distinct.0 parts.0; contracts = parts.1 }),
      (λ h. all.1 (distinct.1 h.named, h.contracts)),
    )

-- ---- the verdict on a source

module _ (source : Source) (contracts : List Contract) (same : contracts ≡ source.contracts) where
  pub passed_is_typed : None ≡ first_of (walked contract_tests [] contracts) → WellTyped source
  passed_is_typed h = (source_is source).0 (reported_is source contracts same None h)

  pub refused_is_not : (reported : Reported) → Some reported ≡ first_of (walked contract_tests [] contracts)
      → WellTyped source → ⊥
  refused_is_not reported h t =
      let is : first_of (tests_of source) ≡ Some reported = reported_is source contracts same (Some reported) h in
      let none : first_of (tests_of source) ≡ None = (source_is source).1 t in
      cc
