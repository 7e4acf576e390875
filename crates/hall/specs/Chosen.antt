-- The arithmetic of the field that is chosen.
use Rattle.customer.specs.Polynomials.{field_of_four, field_of_nine}
use Rattle.field.specs.Arithmetic.{Arithmetic}
use Rattle.field.specs.Bits.{binary_field}
use Rattle.field.specs.Residues.{prime_field}
use Rattle.hall.specs.declared.fields.AnyField.{AnyField}
use Rattle.hall.specs.declared.fields.AnyField.TheVariants.{Two, Prime, Four, Nine}

abbrev pub chosen : AnyField → Arithmetic
chosen (Two f) = binary_field
chosen (Prime f) = prime_field f.p
chosen (Four f) = field_of_four
chosen (Nine f) = field_of_nine
