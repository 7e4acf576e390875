-- The worked halls, by computation.
use mathlib.Core.Path.{refl}
use Rattle.matrix.specs.Matrix.{tally, tally_2}
use Rattle.halls.specs.Worked.{WorkedHalls}

pub worked_halls_lem : WorkedHalls
unfolding tally tally_2
worked_halls_lem = record {
  hub_over_3 = record { kind = refl; are = refl; count = refl };
  hub_over_2 = record { kind = refl; are = refl; count = refl };
  hub_peak = refl;
  hub_with_26_cells = refl;
  hub_with_25_cells = refl;
  hub_text = refl;
  open_blocks = record { kind = refl; are = refl; count = refl };
  open_not_thinned = λ O. refl;
  one_way = record { kind = refl; are = refl; count = refl };
  other_way = record { kind = refl; are = refl; count = refl };
  diagonal = record { kind = refl; are = refl; count = refl };
  beside_blocks = record { kind = refl; are = refl; count = refl };
  twins_thinned = refl;
  half_modulo_251_lem = refl;
}
