-- The parts of a survey's text, what writing it answers, and what it leaves in the buffer.
use Rattle.std.specs.Prelude.{◌≡◌, ℕ, ◌+◌, ◌≤◌, cond, List, ◌∷◌, ◌++◌, length, drop, nat_le}
use Rattle.std.proofs.lemmas.List.Edits.{sets}
use Rattle.refusal.specs.Outcomes.{Outcome, accepted, refused}
use Rattle.survey.specs.Lists.{gather}
use Rattle.survey.specs.Surveys.{Survey, sensors}
use Rattle.text.specs.declared.write.Writer.{Writer}
use Rattle.text.specs.Columns.{column}
use Rattle.text.specs.Text.{neighbours, list_end, sensor_line_of, text, text_length_of}

abbrev pub neighbour_columns : Survey → ℕ → List ℕ
neighbour_columns s x = gather column (neighbours s x)

abbrev pub lines_text : Survey → List ℕ
lines_text s = gather (sensor_line_of s) (sensors s)

abbrev pub fence_text : List ℕ → List ℕ
fence_text fence = 70 ∷ (gather column fence ++ list_end)

-- the writer's buffer has room for the bytes
abbrev pub Fits : Writer → List ℕ → Type 0
Fits w bytes = w.at + length bytes ≤ length w.out.now

-- the bytes were written at the place, which is now behind them
pub record Wrote (old : Writer) (bytes : List ℕ) (new : Writer) : Type 0 where
  pub same : new.out.ghost_name ≡ old.out.ghost_name
  pub after : new.out.now ≡ sets old.out.now old.at bytes
  pub place : new.at ≡ old.at + length bytes

-- the text, and then what stood behind it
abbrev pub text_before : Survey → List ℕ → List ℕ
text_before s old = text s ++ drop (length (text s)) old

-- the text's length; a buffer that is too short is refused
abbrev pub writing : Survey → List ℕ → Outcome ℕ
writing s old = cond (nat_le (text_length_of s) (length old)) (accepted (text_length_of s)) (refused 16)

-- the text at the front; a buffer that is too short stays as it was
abbrev pub written : Survey → List ℕ → List ℕ
written s old = cond (nat_le (text_length_of s) (length old)) (text_before s old) old
