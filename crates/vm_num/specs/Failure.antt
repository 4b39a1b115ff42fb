-- The names of failures, as they are printed.
use Rattle.std.specs.Prelude.{ℕ, List, codes}
use Rattle.vm_num.specs.declared.failure.Failure.{Failure}
use Rattle.vm_num.specs.declared.failure.Failure.TheVariants.{RunLimit, Underflow, AltUnderflow, BadNumber, Range}
use Rattle.vm_num.specs.declared.failure.Failure.TheVariants.{DivZero, BadOpcode, Short, BadJump, VerifyFalse, FailCode}
use Rattle.vm_num.specs.declared.failure.Failure.TheVariants.{Context, BadValue, FalseResult}

abbrev pub failure_name : Failure → List ℕ
failure_name RunLimit = codes "RunLimit"
failure_name Underflow = codes "Underflow"
failure_name AltUnderflow = codes "AltUnderflow"
failure_name BadNumber = codes "BadNumber"
failure_name Range = codes "Range"
failure_name DivZero = codes "DivZero"
failure_name BadOpcode = codes "BadOpcode"
failure_name Short = codes "Short"
failure_name BadJump = codes "BadJump"
failure_name VerifyFalse = codes "VerifyFalse"
failure_name FailCode = codes "FailCode"
failure_name Context = codes "Context"
failure_name BadValue = codes "BadValue"
failure_name FalseResult = codes "FalseResult"
