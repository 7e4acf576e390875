-- The polynomials of nine elements are a field, by a test of their codes.
use Rattle.std.specs.Prelude.{refl}
use Rattle.field.specs.Arithmetic.{FieldLaws}
use Rattle.field.specs.Guarding.{guard_laws}
use Rattle.field.specs.Tested.{tested}
use Rattle.customer.specs.Polynomials.{polynomials, field_of_nine}

pub nine_laws : FieldLaws field_of_nine
nine_laws = guard_laws (polynomials 3 0 2) (tested (polynomials 3 0 2) refl)
