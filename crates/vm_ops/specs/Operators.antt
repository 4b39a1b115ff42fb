-- What the code's operators do to two bytes. Only contracts of private functions name it.
use Rattle.std.specs.Prelude.{ℕ, bit_and, bit_or, bit_xor}
use Rattle.vm_ops.specs.declared.bits.Bitwise.{Bitwise}
use Rattle.vm_ops.specs.declared.bits.Bitwise.TheVariants.{And, Or, Xor}

abbrev pub bit_operation : Bitwise → ℕ → ℕ → ℕ
bit_operation And x y = bit_and x y
bit_operation Or x y = bit_or x y
bit_operation Xor x y = bit_xor x y
