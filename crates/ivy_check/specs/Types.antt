-- The types of Ivy. Public statements name it.
use Rattle.std.specs.Prelude.{ℕ, Bool, true, false, List, Option, Some, None, codes, bytes_eq, nat_eq}
use Rattle.std.specs.Prelude.{if◌then◌else◌}
use Rattle.ivy_check.specs.declared.types.IvyType.{IvyType}
use Rattle.ivy_check.specs.declared.types.IvyType.TheVariants.{Amount, Asset, Boolean, Hash, Integer, Program}
use Rattle.ivy_check.specs.declared.types.IvyType.TheVariants.{PublicKey, Signature, String, Time}

-- the type that a name names
abbrev pub type_named : List ℕ → Option IvyType
type_named name =
    if bytes_eq name (codes "Amount") then Some Amount
    else if bytes_eq name (codes "Asset") then Some Asset
    else if bytes_eq name (codes "Boolean") then Some Boolean
    else if bytes_eq name (codes "Hash") then Some Hash
    else if bytes_eq name (codes "Integer") then Some Integer
    else if bytes_eq name (codes "Program") then Some Program
    else if bytes_eq name (codes "PublicKey") then Some PublicKey
    else if bytes_eq name (codes "Signature") then Some Signature
    else if bytes_eq name (codes "String") then Some String
    else if bytes_eq name (codes "Time") then Some Time
    else None

-- the place of a type among the types
abbrev pub place_of : IvyType → ℕ
place_of Amount = 0
place_of Asset = 1
place_of Boolean = 2
place_of Hash = 3
place_of Integer = 4
place_of Program = 5
place_of PublicKey = 6
place_of Signature = 7
place_of String = 8
place_of Time = 9

abbrev pub same_type : IvyType → IvyType → Bool
same_type a b = nat_eq (place_of a) (place_of b)

-- Amount, Integer and Time are numeric
abbrev pub is_numeric : IvyType → Bool
is_numeric Amount = true
is_numeric Integer = true
is_numeric Time = true
is_numeric _ = false

-- neither numeric nor Boolean
abbrev pub is_plain : IvyType → Bool
is_plain Boolean = false
is_plain Amount = false
is_plain Integer = false
is_plain Time = false
is_plain _ = true

-- ---- what has a type, or none

-- it has this type
abbrev pub has_type : IvyType → Option IvyType → Bool
has_type expected None = false
has_type expected (Some type) = same_type type expected

-- both have one type
abbrev pub have_one_type : Option IvyType → Option IvyType → Bool
have_one_type None other = false
have_one_type (Some type) other = has_type type other

-- it has a numeric type
abbrev pub has_numeric_type : Option IvyType → Bool
has_numeric_type None = false
has_numeric_type (Some type) = is_numeric type

-- it has a type that is neither numeric nor Boolean
abbrev pub has_plain_type : Option IvyType → Bool
has_plain_type None = false
has_plain_type (Some type) = is_plain type
