-- The functions of Ivy: their names, and the types of their parameters. Public statements name it.
use Rattle.std.specs.Prelude.{ℕ, Bool, ◌||◌, List, Option, Some, None, codes, bytes_eq, is_some}
use Rattle.std.specs.Prelude.{if◌then◌else◌}
use Rattle.ivy_check.specs.declared.types.IvyType.TheVariants as type
use Rattle.ivy_check.specs.declared.functions.Function.{Function}
use Rattle.ivy_check.specs.declared.functions.Function.TheVariants.{Abs, Min, Max, Size, BytesOf, Sha256, Concat}
use Rattle.ivy_check.specs.declared.functions.Function.TheVariants.{ConcatPush, CheckTxSig, CheckTxMultiSig, Before}
use Rattle.ivy_check.specs.declared.functions.Function.TheVariants.{After}
use Rattle.ivy_check.specs.declared.functions.ParamType.TheVariants.{Exactly, Numeric, Plain, Any, ListOf}
use Rattle.ivy_check.specs.declared.functions.ParamTypes.{ParamTypes}
use Rattle.ivy_check.specs.declared.functions.ParamTypes.TheVariants.{One, Two}
use Rattle.ivy_check.specs.Types.{type_named}

-- the function that a name names
abbrev pub function_named : List ℕ → Option Function
function_named name =
    if bytes_eq name (codes "abs") then Some Abs
    else if bytes_eq name (codes "min") then Some Min
    else if bytes_eq name (codes "max") then Some Max
    else if bytes_eq name (codes "size") then Some Size
    else if bytes_eq name (codes "bytes") then Some BytesOf
    else if bytes_eq name (codes "sha256") then Some Sha256
    else if bytes_eq name (codes "concat") then Some Concat
    else if bytes_eq name (codes "concatpush") then Some ConcatPush
    else if bytes_eq name (codes "checkTxSig") then Some CheckTxSig
    else if bytes_eq name (codes "checkTxMultiSig") then Some CheckTxMultiSig
    else if bytes_eq name (codes "before") then Some Before
    else if bytes_eq name (codes "after") then Some After
    else None

-- the same as a table: the name names this function
pub data NamesFunction : List ℕ → Function → Type 0 where
  named_abs : NamesFunction (codes "abs") Abs
  named_min : NamesFunction (codes "min") Min
  named_max : NamesFunction (codes "max") Max
  named_size : NamesFunction (codes "size") Size
  named_bytes : NamesFunction (codes "bytes") BytesOf
  named_sha256 : NamesFunction (codes "sha256") Sha256
  named_concat : NamesFunction (codes "concat") Concat
  named_concatpush : NamesFunction (codes "concatpush") ConcatPush
  named_check_tx_sig : NamesFunction (codes "checkTxSig") CheckTxSig
  named_check_tx_multi_sig : NamesFunction (codes "checkTxMultiSig") CheckTxMultiSig
  named_before : NamesFunction (codes "before") Before
  named_after : NamesFunction (codes "after") After

-- the types of a function's parameters
abbrev pub param_types : Function → ParamTypes
param_types Abs = One Numeric
param_types Min = Two Numeric Numeric
param_types Max = Two Numeric Numeric
param_types Size = One Plain
param_types BytesOf = One Any
param_types Sha256 = One Plain
param_types Concat = Two (Exactly type.String) (Exactly type.String)
param_types ConcatPush = Two (Exactly type.String) (Exactly type.String)
param_types CheckTxSig = Two (Exactly type.PublicKey) (Exactly type.Signature)
param_types CheckTxMultiSig = Two (ListOf type.PublicKey) (ListOf type.Signature)
param_types Before = One (Exactly type.Time)
param_types After = One (Exactly type.Time)

-- a type's name or a function's, which may not be declared
abbrev pub is_reserved : List ℕ → Bool
is_reserved name = is_some (type_named name) || is_some (function_named name)
