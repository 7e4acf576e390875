-- What neighbours and surveys in memory mean.
use Rattle.std.specs.Prelude.{ℕ, Bool, false, cond, not, ◌&&◌, ◌||◌, List, [], ◌==◌, nat_le}
use Rattle.refusal.specs.Outcomes.{Outcome, accepted, refused}
use Rattle.survey.specs.declared.neighbours.Neighbours.{Neighbours}
use Rattle.survey.specs.Tables.{at}
use Rattle.survey.specs.Surveys.{Survey}

-- neighbours and a fence, as a survey
abbrev pub drawn : Neighbours → List ℕ → Survey
drawn n fence = record { count = n.count; linked = at n.rows; fence = fence }

-- n sensors, with no neighbours and no fence yet
abbrev pub unlinked : ℕ → Outcome Survey
unlinked n = cond (nat_le 3 n && nat_le n 64) (accepted (record { count = n; linked = λ x y. false; fence = [] })) (refused 2)

-- are x and y two sensors?
abbrev pub two_sensors : Survey → ℕ → ℕ → Bool
two_sensors s x y = nat_le 1 x && nat_le x s.count && nat_le 1 y && nat_le y s.count && not (x == y)

-- x names y as well
abbrev pub with_name : Survey → ℕ → ℕ → Survey
with_name s x y = record { count = s.count; linked = λ a b. (a == x && b == y) || s.linked a b; fence = s.fence }

abbrev pub naming : Survey → ℕ → ℕ → Outcome Survey
naming s x y = cond (two_sensors s x y) (accepted (with_name s x y)) (refused 4)
