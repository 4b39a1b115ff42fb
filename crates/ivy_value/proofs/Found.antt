-- A declared name is found among the parameters, and one that is not declared is not.
use Rattle.std.proofs.Common.{◌≡◌, ℕ, ◌+◌, Bool, true, false, ◌||◌, List, [], ◌∷◌, ◌++◌, map, Option, Some, None, refl, ap, sym, ◌∙◌}
use Rattle.std.proofs.Common.{bytes_eq, if◌then◌else◌}
use Rattle.std.proofs.lemmas.List.Folds.{list_any-append}
use Rattle.ivy_syntax.specs.declared.tree.Word.{Word}
use Rattle.ivy_syntax.specs.declared.tree.Group.{Group}
use Rattle.ivy_check.specs.declared.types.IvyType.{IvyType}
use Rattle.ivy_check.specs.Types.{type_named}
use Rattle.ivy_check.specs.Typing.{NamesType, Declares, here, later, is_one_of, group_names, parameter_names}
use Rattle.ivy_check.specs.Typing as typing
use Rattle.ivy_check.specs.declared.parameters.Param.{Param}
use Rattle.ivy_value.specs.declared.naming.Found.{Found}
use Rattle.ivy_check.specs.Parameters.{of_one_type, parameters}
use Rattle.ivy_value.specs.Naming.{param_from}

pub named_is : {name : List ℕ} {type : IvyType} → NamesType name type → type_named name ≡ Some type
named_is typing.named_amount = refl
named_is typing.named_asset = refl
named_is typing.named_boolean = refl
named_is typing.named_hash = refl
named_is typing.named_integer = refl
named_is typing.named_program = refl
named_is typing.named_public_key = refl
named_is typing.named_signature = refl
named_is typing.named_string = refl
named_is typing.named_time = refl

-- ---- names of one group

-- the parameters of these names
abbrev Typed : IvyType → List Word → List Param
Typed kind names = of_one_type (Some kind) names

abbrev IsFound : ℕ → List ℕ → List Param → IvyType → Type 0
IsFound place name params kind = (found : Found) × (param_from place name params ≡ Some found) × (found.kind ≡ kind)

-- what is found where the first is, or is not, of the name
abbrev Or_later : ℕ → IvyType → Option Found → Bool → Option Found
Or_later place kind rest b = if b then Some (record { place = place; kind = kind }) else rest

abbrev IsOne : List ℕ → List Word → Bool
IsOne name names = is_one_of (map (λ (word : Word). word.name) names) name

among_from : (place : ℕ) (name : List ℕ) (kind : IvyType) (word : Word) (names : List Word) (rest : List Param) (b : Bool)
    → bytes_eq word.name name ≡ b
    → (b || IsOne name names) ≡ true
    → (IsOne name names ≡ true → IsFound (place + 1) name (Typed kind names ++ rest) kind)
    → IsFound place name (Typed kind (word ∷ names) ++ rest) kind
among_from place name kind word names rest true eq is next =
    (record { place = place; kind = kind }, ap (Or_later place kind (param_from (place + 1) name (Typed kind names ++ rest))) eq, refl)
among_from place name kind word names rest false eq is next =
    let found = next is in
    (found.0, ap (Or_later place kind (param_from (place + 1) name (Typed kind names ++ rest))) eq ∙ found.1, found.2)

among : (place : ℕ) (name : List ℕ) (kind : IvyType) (names : List Word) (rest : List Param)
    → IsOne name names ≡ true
    → IsFound place name (Typed kind names ++ rest) kind
among place name kind [] rest is = absurd cc
among place name kind (word ∷ names) rest is =
    among_from place name kind word names rest (bytes_eq word.name name) refl is (among (place + 1) name kind names rest)

-- what is looked for past these parameters
abbrev Passes : ℕ → List ℕ → (params rest : List Param) → Type 0
Passes place name params rest = (after : ℕ) × (param_from place name (params ++ rest) ≡ param_from after name rest)

past_from : (place : ℕ) (name : List ℕ) (kind : IvyType) (word : Word) (names : List Word) (rest : List Param) (b : Bool)
    → bytes_eq word.name name ≡ b
    → (b || IsOne name names) ≡ false
    → (IsOne name names ≡ false → Passes (place + 1) name (Typed kind names) rest)
    → Passes place name (Typed kind (word ∷ names)) rest
past_from place name kind word names rest true eq is next = absurd cc
past_from place name kind word names rest false eq is next =
    let past = next is in
    (past.0, ap (Or_later place kind (param_from (place + 1) name (Typed kind names ++ rest))) eq ∙ past.1)

not_among : (place : ℕ) (name : List ℕ) (kind : IvyType) (names : List Word) (rest : List Param)
    → IsOne name names ≡ false
    → Passes place name (Typed kind names) rest
not_among place name kind [] rest is = (place, refl)
not_among place name kind (word ∷ names) rest is =
    past_from place name kind word names rest (bytes_eq word.name name) refl is (not_among (place + 1) name kind names rest)

past_names : (place : ℕ) (name : List ℕ) (o : Option IvyType) (names : List Word) (rest : List Param)
    → is_one_of (map (λ (word : Word). word.name) names) name ≡ false
    → Passes place name (of_one_type o names) rest
past_names place name None names rest is = (place, refl)
past_names place name (Some kind) names rest is = not_among place name kind names rest is

-- ---- names of several

pub declared_found : (place : ℕ) {groups : List Group} {name : List ℕ} {kind : IvyType} → Declares groups name kind
    → IsFound place name (parameters groups) kind
declared_found place (here {group = group} {groups = groups} {name = name} {type = kind} is names) =
    let found = among place name kind group.names (parameters groups) is in (
      found.0,
      ap (λ (o : Option IvyType). param_from place name (of_one_type o group.names ++ parameters groups)) (named_is names)
          ∙ found.1,
      found.2,
    )
declared_found place (later {group = group} {groups = groups} {name = name} {type = kind} is declares) =
    let past = past_names place name (type_named group.kind.name) group.names (parameters groups) is in
    let found = declared_found past.0 declares in
    (found.0, past.1 ∙ found.1, found.2)

either_false : (a b : Bool) → (a || b) ≡ false → (a ≡ false) × (b ≡ false)
either_false true b is = absurd cc
either_false false b is = (refl, is)

pub not_declared : (place : ℕ) (groups : List Group) (name : List ℕ) → is_one_of (parameter_names groups) name ≡ false
    → param_from place name (parameters groups) ≡ None
not_declared place [] name is = refl
not_declared place (group ∷ groups) name is =
    let both = either_false (is_one_of (group_names group) name) (is_one_of (parameter_names groups) name)
    (sym (list_any-append (λ (other : List ℕ). bytes_eq other name) (group_names group) (parameter_names groups)) ∙ is) in
    let past = past_names place name (type_named group.kind.name) group.names (parameters groups) both.0 in
    past.1 ∙ not_declared past.0 groups name both.1
