-- What a function of the walk answers: the first test that holds, or where none does what it found. Only contracts of
-- private functions name it.
use Rattle.std.specs.Prelude.{◌≡◌, ℕ, Option, Some, None, Result, Ok, Err, IfOk}
use Rattle.ivy_check.specs.declared.fault.Fault.{Fault}
use Rattle.ivy_check.specs.declared.fault.Kind.{Kind}
use Rattle.ivy_check.specs.declared.fault.Kind.TheVariants as kind
use Rattle.ivy_check.specs.declared.inferred.Inferred as found
use Rattle.ivy_check.specs.Tests.{Reported}
use Rattle.ivy_check.specs.Expressions.{Inferred}

-- what the code has inferred
abbrev pub inferred_of : found.Inferred → Inferred
inferred_of inferred =
    record { is_literal = inferred.is_literal; members = inferred.members; ivy_type = inferred.ivy_type }

-- where there is no fault, this is inferred
abbrev pub Infers : Result found.Inferred Fault → Inferred → Type 0
Infers result inferred = IfOk result (λ found. inferred_of found ≡ inferred)

abbrev pub kind_number : Kind → ℕ
kind_number kind.ContractTwice = 1
kind_number kind.NameTwice = 2
kind_number kind.ClauseTwice = 3
kind_number kind.Reserved = 4
kind_number kind.UnknownType = 5
kind_number kind.UnknownName = 6
kind_number kind.UnknownFunction = 7
kind_number kind.ArgumentCount = 8
kind_number kind.WrongArgument = 9
kind_number kind.WrongOperand = 10
kind_number kind.NotBoolean = 11
kind_number kind.NotProgram = 12
kind_number kind.NoValue = 13
kind_number kind.ValueUsed = 14
kind_number kind.RequiredUnlocked = 15
kind_number kind.DisposedTwice = 16
kind_number kind.ValueLeft = 17
kind_number kind.Unused = 18

abbrev pub reported : {X : Type 0} → Result X Fault → Option Reported
reported (Ok x) = None
reported (Err fault) = Some (fault.at, kind_number fault.kind)
