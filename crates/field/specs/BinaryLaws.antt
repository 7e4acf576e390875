-- GF(2) is a field, by a test of its codes.
use Rattle.std.specs.Prelude.{refl}
use Rattle.field.specs.Arithmetic.{FieldLaws}
use Rattle.field.specs.Bits.{bits, binary_field}
use Rattle.field.specs.Guarding.{guard_laws}
use Rattle.field.specs.Tested.{tested}

pub binary_laws : FieldLaws binary_field
binary_laws = guard_laws bits (tested bits refl)
