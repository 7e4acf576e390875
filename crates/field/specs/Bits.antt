-- The field of two elements, on bits.
use Rattle.std.specs.Int.Bits.{bit_and, bit_xor}
use Rattle.field.specs.Arithmetic.{Arithmetic}
use Rattle.field.specs.Guarded.{guard}

abbrev pub bits : Arithmetic
bits = record {
  order = 2;
  sum = bit_xor;
  negative = λ a. a;
  product = bit_and;
  inverse = λ a. a;
}

abbrev pub binary_field : Arithmetic
binary_field = guard bits
