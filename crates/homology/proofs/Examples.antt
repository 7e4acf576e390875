-- The small halls, by computation.
use Rattle.std.proofs.Common.{refl}
use Rattle.matrix.specs.Matrix.{tally, tally_2}
use Rattle.homology.specs.Examples.{HubComputes, HallsCompute}

pub hub_computes_lem : HubComputes
unfolding tally tally_2
hub_computes_lem = record { triangle_count = refl; filled = refl; codes = refl; additions = refl; room = refl; blocked = refl; values = refl }

pub halls_compute_lem : HallsCompute
halls_compute_lem = record {
  hub_in_bits = refl;
  hub_in_bits_additions = refl;
  one_way = refl;
  one_way_additions = refl;
  other_way = refl;
  crossed_codes = refl;
  crossed_additions = refl;
  beside_blocked = refl;
  beside_values = refl;
  beside_additions = refl;
  twin_filled = refl;
  twin_without_five = refl;
  twin_without_both = refl;
}
