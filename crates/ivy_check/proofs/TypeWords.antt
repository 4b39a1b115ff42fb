-- The words of the table of types, and the tests of the same.
use Rattle.std.proofs.Common.{◌≡◌, ◌||◌, ℕ, Bool, true, false, List, [], ◌∷◌, Option, Some, None, refl, ap, sym, ◌∙◌}
use Rattle.std.proofs.Common.{if◌then◌else◌, get_or, codes, is_some, map, subst, unwrap_or}
use Rattle.std.specs.Prelude.{bytes_eq, ◌↔◌}
use Rattle.std.proofs.lemmas.Bool.Decides.{Decides-eqb}
use Rattle.std.proofs.lemmas.List.Folds.{list_any-append}
use Rattle.std.proofs.lemmas.Slice.Eq.{bytes_eq-Decides}
use Rattle.ivy_syntax.specs.declared.tree.Word.{Word}
use Rattle.ivy_syntax.specs.declared.tree.Group.{Group}
use Rattle.ivy_syntax.specs.declared.tree.Req.{Req}
use Rattle.ivy_check.specs.declared.types.IvyType.{IvyType}
use Rattle.ivy_check.specs.declared.types.IvyType.TheVariants.{Amount, Asset, Boolean, Hash, Integer, Program, PublicKey, Signature, String, Time}
use Rattle.ivy_check.specs.declared.functions.Function.{Function}
use Rattle.ivy_check.specs.declared.functions.Function.TheVariants as f
use Rattle.ivy_check.specs.Types.{type_named, same_type, place_of, is_numeric, is_plain}
use Rattle.ivy_check.specs.Functions.{function_named, NamesFunction}
use Rattle.ivy_check.specs.Functions as named
use Rattle.ivy_check.specs.Scope.{Scope, is_among, kind_word, is_parameter, is_required, is_value}
use Rattle.ivy_check.specs.Typing as rule
use Rattle.ivy_check.specs.Typing.{NamesType, IsNumeric, IsOfBytes, Declares, is_one_of, group_names, parameter_names, value_names}

pub not_both : {A : Type 0} (b : Bool) → b ≡ true → b ≡ false → A
not_both true h k = absurd cc
not_both false h k = absurd cc

-- ---- types

pub numeric_holds : {type : IvyType} → IsNumeric type → is_numeric type ≡ true
numeric_holds rule.amount = refl
numeric_holds rule.integer = refl
numeric_holds rule.time = refl

pub numeric_is : (type : IvyType) → is_numeric type ≡ true → IsNumeric type
numeric_is Amount h = rule.amount
numeric_is Integer h = rule.integer
numeric_is Time h = rule.time
numeric_is _ h = absurd cc

pub bytes_hold : {type : IvyType} → IsOfBytes type → is_plain type ≡ true
bytes_hold rule.asset = refl
bytes_hold rule.hash = refl
bytes_hold rule.program = refl
bytes_hold rule.public_key = refl
bytes_hold rule.signature = refl
bytes_hold rule.string = refl

pub bytes_are : (type : IvyType) → is_plain type ≡ true → IsOfBytes type
bytes_are Asset h = rule.asset
bytes_are Hash h = rule.hash
bytes_are Program h = rule.program
bytes_are PublicKey h = rule.public_key
bytes_are Signature h = rule.signature
bytes_are String h = rule.string
bytes_are _ h = absurd cc

pub same_self : (type : IvyType) → same_type type type ≡ true
same_self Amount = refl
same_self Asset = refl
same_self Boolean = refl
same_self Hash = refl
same_self Integer = refl
same_self Program = refl
same_self PublicKey = refl
same_self Signature = refl
same_self String = refl
same_self Time = refl

in_place : ℕ → IvyType
in_place n = get_or (Amount ∷ Asset ∷ Boolean ∷ Hash ∷ Integer ∷ Program ∷ PublicKey ∷ Signature ∷ String ∷ Time ∷ []) n Amount

placed_back : (type : IvyType) → in_place (place_of type) ≡ type
unfolding in_place
placed_back Amount = refl
placed_back Asset = refl
placed_back Boolean = refl
placed_back Hash = refl
placed_back Integer = refl
placed_back Program = refl
placed_back PublicKey = refl
placed_back Signature = refl
placed_back String = refl
placed_back Time = refl

pub same_is : (a b : IvyType) → same_type a b ≡ true → a ≡ b
same_is a b h =
    let places : place_of a ≡ place_of b = (Decides-eqb (place_of a) (place_of b)).0 h in
    sym (placed_back a) ∙ ap in_place places ∙ placed_back b

-- ---- what a chain of names finds

abbrev pub same_bytes : (a b : List ℕ) → bytes_eq a b ≡ true → a ≡ b
same_bytes a b = (bytes_eq-Decides a b).0

pub same_self_bytes : (a : List ℕ) → bytes_eq a a ≡ true
same_self_bytes a = (bytes_eq-Decides a a).1 refl

-- the first name of a chain is the one, or it is found later
chosen : {A : Type 0} (P : List ℕ → A → Type 0) (name word : List ℕ) (x found : A) (rest : Option A) → P word x
    → (rest ≡ Some found → P name found)
    → (b : Bool) → bytes_eq name word ≡ b → (if b then Some x else rest) ≡ Some found → P name found
chosen {A = A} P name word x found rest here later true is h =
    let x_is : x ≡ found = ap (λ (o : Option A). unwrap_or o x) h in
    let word_is : word ≡ name = sym (same_bytes name word is) in
    subst (P name) x_is (subst (λ (w : List ℕ). P w x) word_is here)
chosen P name word x found rest here later false is h = later h

none_left : {A : Type 0} (found : A) (B : Type 0) → None ≡ Some found → B
none_left found B h = absurd cc

pub type_name_is : (name : List ℕ) (type : IvyType) → type_named name ≡ Some type → NamesType name type
type_name_is name type =
    chosen NamesType name (codes "Amount") Amount type _ rule.named_amount (
    chosen NamesType name (codes "Asset") Asset type _ rule.named_asset (
    chosen NamesType name (codes "Boolean") Boolean type _ rule.named_boolean (
    chosen NamesType name (codes "Hash") Hash type _ rule.named_hash (
    chosen NamesType name (codes "Integer") Integer type _ rule.named_integer (
    chosen NamesType name (codes "Program") Program type _ rule.named_program (
    chosen NamesType name (codes "PublicKey") PublicKey type _ rule.named_public_key (
    chosen NamesType name (codes "Signature") Signature type _ rule.named_signature (
    chosen NamesType name (codes "String") String type _ rule.named_string (
    chosen NamesType name (codes "Time") Time type _ rule.named_time (none_left type (NamesType name type))
    (bytes_eq name (codes "Time")) refl)
    (bytes_eq name (codes "String")) refl)
    (bytes_eq name (codes "Signature")) refl)
    (bytes_eq name (codes "PublicKey")) refl)
    (bytes_eq name (codes "Program")) refl)
    (bytes_eq name (codes "Integer")) refl)
    (bytes_eq name (codes "Hash")) refl)
    (bytes_eq name (codes "Boolean")) refl)
    (bytes_eq name (codes "Asset")) refl)
    (bytes_eq name (codes "Amount")) refl

pub type_name_names : {name : List ℕ} {type : IvyType} → NamesType name type → type_named name ≡ Some type
type_name_names rule.named_amount = refl
type_name_names rule.named_asset = refl
type_name_names rule.named_boolean = refl
type_name_names rule.named_hash = refl
type_name_names rule.named_integer = refl
type_name_names rule.named_program = refl
type_name_names rule.named_public_key = refl
type_name_names rule.named_signature = refl
type_name_names rule.named_string = refl
type_name_names rule.named_time = refl

-- the name of a function
abbrev pub name_of : Function → List ℕ
name_of f.Abs = codes "abs"
name_of f.Min = codes "min"
name_of f.Max = codes "max"
name_of f.Size = codes "size"
name_of f.BytesOf = codes "bytes"
name_of f.Sha256 = codes "sha256"
name_of f.Concat = codes "concat"
name_of f.ConcatPush = codes "concatpush"
name_of f.CheckTxSig = codes "checkTxSig"
name_of f.CheckTxMultiSig = codes "checkTxMultiSig"
name_of f.Before = codes "before"
name_of f.After = codes "after"

abbrev IsItsName : List ℕ → Function → Type 0
IsItsName name function = name ≡ name_of function

pub function_name_is : (name : List ℕ) (function : Function) → function_named name ≡ Some function
    → name ≡ name_of function
function_name_is name function =
    chosen IsItsName name (codes "abs") f.Abs function _ refl (
    chosen IsItsName name (codes "min") f.Min function _ refl (
    chosen IsItsName name (codes "max") f.Max function _ refl (
    chosen IsItsName name (codes "size") f.Size function _ refl (
    chosen IsItsName name (codes "bytes") f.BytesOf function _ refl (
    chosen IsItsName name (codes "sha256") f.Sha256 function _ refl (
    chosen IsItsName name (codes "concat") f.Concat function _ refl (
    chosen IsItsName name (codes "concatpush") f.ConcatPush function _ refl (
    chosen IsItsName name (codes "checkTxSig") f.CheckTxSig function _ refl (
    chosen IsItsName name (codes "checkTxMultiSig") f.CheckTxMultiSig function _ refl (
    chosen IsItsName name (codes "before") f.Before function _ refl (
    chosen IsItsName name (codes "after") f.After function _ refl (none_left function (IsItsName name function))
    (bytes_eq name (codes "after")) refl)
    (bytes_eq name (codes "before")) refl)
    (bytes_eq name (codes "checkTxMultiSig")) refl)
    (bytes_eq name (codes "checkTxSig")) refl)
    (bytes_eq name (codes "concatpush")) refl)
    (bytes_eq name (codes "concat")) refl)
    (bytes_eq name (codes "sha256")) refl)
    (bytes_eq name (codes "bytes")) refl)
    (bytes_eq name (codes "size")) refl)
    (bytes_eq name (codes "max")) refl)
    (bytes_eq name (codes "min")) refl)
    (bytes_eq name (codes "abs")) refl

name_of_names : (function : Function) → NamesFunction (name_of function) function
name_of_names f.Abs = named.named_abs
name_of_names f.Min = named.named_min
name_of_names f.Max = named.named_max
name_of_names f.Size = named.named_size
name_of_names f.BytesOf = named.named_bytes
name_of_names f.Sha256 = named.named_sha256
name_of_names f.Concat = named.named_concat
name_of_names f.ConcatPush = named.named_concatpush
name_of_names f.CheckTxSig = named.named_check_tx_sig
name_of_names f.CheckTxMultiSig = named.named_check_tx_multi_sig
name_of_names f.Before = named.named_before
name_of_names f.After = named.named_after

function_name_names : {name : List ℕ} {function : Function} → NamesFunction name function
    → function_named name ≡ Some function
function_name_names named.named_abs = refl
function_name_names named.named_min = refl
function_name_names named.named_max = refl
function_name_names named.named_size = refl
function_name_names named.named_bytes = refl
function_name_names named.named_sha256 = refl
function_name_names named.named_concat = refl
function_name_names named.named_concatpush = refl
function_name_names named.named_check_tx_sig = refl
function_name_names named.named_check_tx_multi_sig = refl
function_name_names named.named_before = refl
function_name_names named.named_after = refl

-- ---- what is found, as the tables say it

pub type_found : (name : List ℕ) (found : Option IvyType) → found ≡ type_named name
    → (type : IvyType) → (found ≡ Some type) ↔ NamesType name type
type_found name found is type =
    (λ h. type_name_is name type (sym is ∙ h), λ n. is ∙ type_name_names n)

pub function_found : (name : List ℕ) (found : Option Function) → found ≡ function_named name
    → (function : Function) → (found ≡ Some function) ↔ NamesFunction name function
function_found name found is function = (
  λ h. subst (λ (n : List ℕ). NamesFunction n function) (sym (function_name_is name function (sym is ∙ h)))
      (name_of_names function),
  λ n. is ∙ function_name_names n,
)

-- ---- parameters and values

pub among_is : (name : List ℕ) (words : List Word)
    → is_among name words ≡ is_one_of (map (λ (word : Word). word.name) words) name
among_is name [] = refl
among_is name (word ∷ words) = ap (λ (b : Bool). bytes_eq word.name name || b) (among_is name words)

abbrev HasWord : List ℕ → List Group → Bool
HasWord name groups = is_parameter name groups

some_if : {A : Type 0} (b : Bool) (x : A) (rest : Option A)
    → is_some (if b then Some x else rest) ≡ (b || is_some rest)
some_if true x rest = refl
some_if false x rest = refl

-- a parameter is one of the names of the groups
pub parameter_is : (name : List ℕ) (groups : List Group)
    → is_parameter name groups ≡ is_one_of (parameter_names groups) name
parameter_is name [] = refl
parameter_is name (group ∷ groups) =
    some_if (is_among name group.names) group.kind (kind_word name groups)
    ∙ (λ i. among_is name group.names i || parameter_is name groups i)
    ∙ sym (list_any-append (λ (other : List ℕ). bytes_eq other name) (group_names group) (parameter_names groups))

pub required_is : (name : List ℕ) (reqs : List Req)
    → is_required name reqs ≡ is_one_of (map (λ (req : Req). req.name.name) reqs) name
required_is name [] = refl
required_is name (req ∷ reqs) = ap (λ (b : Bool). bytes_eq req.name.name name || b) (required_is name reqs)

pub value_is : (scope : Scope) (name : List ℕ) → is_value scope name ≡ is_one_of (value_names scope) name
value_is scope name =
    ap (λ (b : Bool). bytes_eq scope.contract.value.name name || b) (required_is name scope.clause.reqs)

-- what a declared parameter's word is
pub record Word_is (groups : List Group) (name : List ℕ) (type : IvyType) : Type 0 where
  pub word : Word
  pub found : kind_word name groups ≡ Some word
  pub names : type_named word.name ≡ Some type

if_true : {A : Type 0} (b : Bool) (x y : A) → b ≡ true → (if b then x else y) ≡ x
if_true true x y h = refl
if_true false x y h = absurd cc

if_false : {A : Type 0} (b : Bool) (x y : A) → b ≡ false → (if b then x else y) ≡ y
if_false true x y h = absurd cc
if_false false x y h = refl

pub declared_word : (groups : List Group) (name : List ℕ) (type : IvyType) → Declares groups name type
    → Word_is groups name type
declared_word groups name type (rule.here {group = g} {groups = gs} {name = n} h t) = record {
  word = g.kind;
  found = if_true (is_among n g.names) (Some g.kind) (kind_word n gs) (among_is n g.names ∙ h);
  names = type_name_names t;
}
declared_word groups name type (rule.later {group = g} {groups = gs} {name = n} {type = t} h d) =
    let w = declared_word gs n t d in
    record {
      word = w.word;
      found = if_false (is_among n g.names) (Some g.kind) (kind_word n gs) (among_is n g.names ∙ h) ∙ w.found;
      names = w.names;
    }

word_declares_in : (g : Group) (gs : List Group) (name : List ℕ) (type : IvyType) (word : Word) (b : Bool)
    → is_among name g.names ≡ b
    → (kind_word name gs ≡ Some word → Declares gs name type)
    → (if b then Some g.kind else kind_word name gs) ≡ Some word → type_named word.name ≡ Some type
    → Declares (g ∷ gs) name type
word_declares_in g gs name type word true is later h t =
    let kind_is : word ≡ g.kind = sym (ap (λ (o : Option Word). unwrap_or o word) h) in
    rule.here (sym (among_is name g.names) ∙ is)
    (type_name_is g.kind.name type (sym (ap (λ (w : Word). type_named w.name) kind_is) ∙ t))
word_declares_in g gs name type word false is later h t =
    rule.later (sym (among_is name g.names) ∙ is) (later h)

pub word_declares : (groups : List Group) (name : List ℕ) (type : IvyType) (word : Word)
    → kind_word name groups ≡ Some word → type_named word.name ≡ Some type → Declares groups name type
word_declares [] name type word h t = absurd cc
word_declares (g ∷ gs) name type word h t =
    word_declares_in g gs name type word (is_among name g.names) refl
    (λ k. word_declares gs name type word k t) h t
