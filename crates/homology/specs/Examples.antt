-- Small halls, certified by computation: the hub, a triangle, a square with a diagonal, and two more.
use Rattle.std.specs.Prelude.{◌≡◌, ℕ, Bool, true, false, not, ◌&&◌, ◌||◌, List, [], ◌∷◌, length, ◌==◌, nat_lt}
use Rattle.field.specs.Bits.{binary_field}
use Rattle.field.specs.Residues.{prime_field}
use Rattle.survey.specs.declared.edge.Edge.{Edge}
use Rattle.survey.specs.Surveys.{Survey, Sensors, edge, everyone, triangles}
use Rattle.complex.specs.Boundaries.{system}
use Rattle.homology.specs.Reduction.{peak}
use Rattle.homology.specs.Certificate.{certificate}

-- are a and b joined by one of the edges, whichever way?
abbrev pub linked_by : List Edge → ℕ → ℕ → Bool
linked_by [] a b = false
linked_by (e ∷ es) a b = (a == e.a && b == e.b) || (b == e.a && a == e.b) || linked_by es a b

-- the corners 1 to 4 in a ring, and 5 linked to each
abbrev pub hub : Survey
hub = record {
  count = 5;
  linked = linked_by (edge 1 2 ∷ (edge 2 3 ∷ (edge 3 4 ∷ (edge 1 4 ∷ (edge 1 5 ∷ (edge 2 5 ∷ (edge 3 5 ∷ (edge 4 5 ∷ []))))))));
  fence = 1 ∷ (2 ∷ (3 ∷ (4 ∷ [])));
}

-- 5 is off
abbrev pub corners : Sensors
corners x = nat_lt x 5

-- With all on there is a filling of the four triangles, found by four additions in a store with room for 26 entries. With 5 off
-- there is none, and the block has 1 on the edge from 3 to 4.
pub record HubComputes : Type 0 where
  pub triangle_count : length (triangles hub everyone) ≡ 4
  pub filled : (certificate hub everyone (prime_field 3)).filled ≡ true
  pub codes : (certificate hub everyone (prime_field 3)).codes ≡ 1 ∷ (2 ∷ (1 ∷ (1 ∷ [])))
  pub additions : (certificate hub everyone (prime_field 3)).additions ≡ 4
  pub room : peak (prime_field 3) (system hub everyone (prime_field 3)) ≡ 26
  pub blocked : (certificate hub corners (prime_field 3)).filled ≡ false
  pub values : (certificate hub corners (prime_field 3)).codes ≡ 0 ∷ (0 ∷ (0 ∷ (1 ∷ [])))

abbrev pub ring : List ℕ
ring = 1 ∷ (2 ∷ (3 ∷ (4 ∷ [])))

-- three sensors, all linked
abbrev pub three : List ℕ → Survey
three fence = record { count = 3; linked = linked_by (edge 1 2 ∷ (edge 2 3 ∷ (edge 1 3 ∷ []))); fence = fence }

-- a square with the diagonal from 1 to 3
abbrev pub crossed : Survey
crossed = record { count = 4; linked = linked_by (edge 1 2 ∷ (edge 2 3 ∷ (edge 3 4 ∷ (edge 1 4 ∷ (edge 1 3 ∷ []))))); fence = ring }

-- a square without it, and 5 linked to 1, 3 and 4
abbrev pub beside : Survey
beside = record {
  count = 5;
  linked = linked_by (edge 1 2 ∷ (edge 2 3 ∷ (edge 3 4 ∷ (edge 1 4 ∷ (edge 1 5 ∷ (edge 3 5 ∷ (edge 4 5 ∷ [])))))));
  fence = ring;
}

-- a square, and 5 and 6 each linked to all four corners and not to each other
abbrev pub twin_hubs : Survey
twin_hubs = record {
  count = 6;
  linked = linked_by (edge 1 2 ∷ (edge 2 3 ∷ (edge 3 4 ∷ (edge 1 4 ∷ (edge 1 5 ∷ (edge 2 5 ∷ (edge 3 5 ∷ (edge 4 5 ∷ (edge 1 6 ∷ (edge 2 6 ∷ (edge 3 6 ∷ (edge 4 6 ∷ []))))))))))));
  fence = ring;
}

abbrev pub without_five : Sensors
without_five x = not (x == 5)

abbrev pub without_five_and_six : Sensors
without_five_and_six x = nat_lt x 5

pub record HallsCompute : Type 0 where
  pub hub_in_bits : (certificate hub everyone binary_field).codes ≡ 1 ∷ (1 ∷ (1 ∷ (1 ∷ [])))
  pub hub_in_bits_additions : (certificate hub everyone binary_field).additions ≡ 4
  pub one_way : (certificate (three (1 ∷ (2 ∷ (3 ∷ [])))) everyone (prime_field 3)).codes ≡ 1 ∷ []
  pub one_way_additions : (certificate (three (1 ∷ (2 ∷ (3 ∷ [])))) everyone (prime_field 3)).additions ≡ 1
  pub other_way : (certificate (three (1 ∷ (3 ∷ (2 ∷ [])))) everyone (prime_field 3)).codes ≡ 2 ∷ []
  pub crossed_codes : (certificate crossed everyone (prime_field 3)).codes ≡ 1 ∷ (1 ∷ [])
  pub crossed_additions : (certificate crossed everyone (prime_field 3)).additions ≡ 2
  pub beside_blocked : (certificate beside everyone (prime_field 3)).filled ≡ false
  pub beside_values : (certificate beside everyone (prime_field 3)).codes ≡ 0 ∷ (0 ∷ (0 ∷ (0 ∷ (1 ∷ (1 ∷ (0 ∷ []))))))
  pub beside_additions : (certificate beside everyone (prime_field 3)).additions ≡ 1
  pub twin_filled : (certificate twin_hubs everyone binary_field).filled ≡ true
  pub twin_without_five : (certificate twin_hubs without_five binary_field).filled ≡ true
  pub twin_without_both : (certificate twin_hubs without_five_and_six binary_field).filled ≡ false
