-- What a name means among parameters. Public statements name it.
use Rattle.std.specs.Prelude.{ℕ, ◌+◌, List, [], ◌∷◌, Option, Some, None, bytes_eq, if◌then◌else◌}
use Rattle.ivy_check.specs.declared.parameters.Param.{Param}
use Rattle.ivy_value.specs.declared.naming.Found.{Found}

-- the first parameter of this name, among parameters of which the first has this place
abbrev pub param_from : (place : ℕ) → (name : List ℕ) → List Param → Option Found
param_from place name [] = None
param_from place name (param ∷ params) =
    if bytes_eq param.name name then Some (record { place = place; kind = param.kind })
    else param_from (place + 1) name params

-- its place, and its type
abbrev pub param_named : List ℕ → List Param → Option Found
param_named = param_from 0
