-- The one text of a survey.
use Rattle.std.specs.Prelude.{ℕ, ◌+◌, ◌*◌, cond, List, [], ◌∷◌, ◌++◌, length}
use Rattle.survey.specs.Lists.{gather}
use Rattle.survey.specs.Surveys.{Survey, sensors, edges, everyone}
use Rattle.text.specs.Columns.{column}

-- rising
abbrev pub neighbours : Survey → ℕ → List ℕ
neighbours s x = gather (λ y. cond (s.linked x y) (y ∷ []) []) (sensors s)

-- the end mark and the line end
abbrev pub list_end : List ℕ
list_end = 59 ∷ (10 ∷ [])

abbrev pub sensor_line_of : Survey → ℕ → List ℕ
sensor_line_of s x = 78 ∷ (column x ++ (gather column (neighbours s x) ++ list_end))

abbrev pub text : Survey → List ℕ
text s =
    83 ∷ (column s.count ++ (10 ∷ (gather (sensor_line_of s) (sensors s)
    ++ (70 ∷ (gather column s.fence ++ list_end)))))

-- how many bytes that takes
abbrev pub text_length_of : Survey → ℕ
text_length_of s = 9 + 7 * s.count + 8 * length (edges s everyone) + 4 * length s.fence
