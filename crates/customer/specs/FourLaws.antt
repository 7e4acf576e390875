-- The polynomials of four elements are a field, by a test of their codes.
use Rattle.std.specs.Prelude.{refl}
use Rattle.field.specs.Arithmetic.{FieldLaws}
use Rattle.field.specs.Guarding.{guard_laws}
use Rattle.field.specs.Tested.{tested}
use Rattle.customer.specs.Polynomials.{polynomials, field_of_four}

pub four_laws : FieldLaws field_of_four
four_laws = guard_laws (polynomials 2 1 1) (tested (polynomials 2 1 1) refl)
