-- How many bytes a survey's text has.
use Rattle.std.proofs.Common.{◌≡◌, ℕ, ◌+◌, ◌*◌, List, [], ◌∷◌, ◌++◌, length, refl, ◌∙◌, arith, length-append}
use Rattle.survey.specs.Lists.{gather}
use Rattle.survey.specs.Surveys.{Survey, sensors}
use Rattle.survey.proofs.Lists.{sum, sum_ap, length_numbers, length_gather, length_cond}
use Rattle.survey.proofs.Edges.{degree, sum_degree}
use Rattle.text.specs.Columns.{column}
use Rattle.text.specs.Text.{neighbours, list_end, sensor_line_of}
use Rattle.text.specs.Theorems.{TextLength}

pub length_columns : (vs : List ℕ) → length (gather column vs) ≡ 4 * length vs
length_columns [] = refl
length_columns (v ∷ vs) = omega (arith, length_columns vs)

pub length_neighbours : (s : Survey) (x : ℕ) → length (neighbours s x) ≡ degree s x
length_neighbours s x = length_gather _ (sensors s) ∙ sum_ap _ _ (sensors s) (λ y. length_cond (s.linked x y) y)

pub length_sensor_lines : (s : Survey) (xs : List ℕ) → length (gather (sensor_line_of s) xs) ≡ 7 * length xs + 4 * sum (degree s) xs
length_sensor_lines s [] = refl
length_sensor_lines s (x ∷ xs) =
    let row = gather column (neighbours s x) in
    omega (
      arith,
      length-append (row ++ list_end) (gather (sensor_line_of s) xs),
      length-append row list_end,
      length_columns (neighbours s x),
      length_neighbours s x,
      length_sensor_lines s xs,
    )

-- 7 bytes a line and 4 for each of its neighbours, of which there are two for each edge
pub text_length_of : TextLength
text_length_of s valid =
    let lines = gather (sensor_line_of s) (sensors s) in
    let fence = gather column s.fence in
    omega (
      arith,
      length-append lines (70 ∷ (fence ++ list_end)),
      length-append fence list_end,
      length_columns s.fence,
      length_sensor_lines s (sensors s),
      length_numbers 1 s.count,
      sum_degree s valid,
    )
