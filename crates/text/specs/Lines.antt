-- What the functions that read a line leave, by what the definitions read.
use Rattle.std.specs.Prelude.{◌≡◌, ℕ, true, false, ◌&&◌, ◌||◌, List, drop, Some, Ok, Err, Option, Result, ◌==◌}
use Rattle.refusal.specs.declared.Refusal.{Refusal}
use Rattle.refusal.specs.Numbers.{number_of}
use Rattle.refusal.specs.Outcomes.{Outcome, accepted, refused, and_then}
use Rattle.survey.specs.declared.neighbours.Neighbours.{Neighbours}
use Rattle.survey.specs.declared.plan.Survey.{Survey as Plan}
use Rattle.survey.specs.Lists.{member, fitting}
use Rattle.survey.specs.Plans.{survey_of}
use Rattle.survey.specs.Surveys.{Survey}
use Rattle.survey.specs.Tables.{at}
use Rattle.text.specs.Reading.{Read, rising, count_line_of, a_sensor_line, sensor_lines_of, names}
use Rattle.text.specs.Symbols.{symbol_of}
use Rattle.text.specs.Tokens.{mark, part_by}

-- a token by itself
abbrev pub IsMark : ℕ → Type 0
IsMark a = (rest : List ℕ) → part_by (symbol_of a) a rest ≡ Some (mark a)

abbrev pub fitting_read : Read (List ℕ) → Outcome (Read (Option (List ℕ)))
fitting_read r = accepted (record { got = fitting r.got; rest = r.rest })

-- a list that is read, if it fits
abbrev pub fitted : Outcome (Read (List ℕ)) → Outcome (Read (Option (List ℕ)))
fitted o = and_then o fitting_read

-- x names the sensors of the list as well
pub record NamesAll (old : Neighbours) (x : ℕ) (list : List ℕ) (new : Neighbours) : Type 0 where
  pub count : new.count ≡ old.count
  pub rows : (a b : ℕ) → at new.rows a b ≡ ((a == x && member b list) || at old.rows a b)

-- the neighbours of x, if they rise as they should
abbrev pub Neighboured : Neighbours → ℕ → List ℕ → Result (Unit {0}) Refusal → Neighbours → Type 0
Neighboured old x list (Ok _) new = (rising old.count x 0 list ≡ true) × NamesAll old x list new
Neighboured old x list (Err e) new = (rising old.count x 0 list ≡ false) × (number_of e ≡ 4)

-- the S line: neighbours that name nobody yet, and the bytes behind it
abbrev pub CountRead : List ℕ → Result Neighbours Refusal → List ℕ → Type 0
CountRead bytes (Ok n) rest = (count_line_of bytes ≡ accepted (record { got = n.count; rest = rest })) × ((x y : ℕ) → at n.rows x y ≡ false)
CountRead bytes (Err e) rest = count_line_of bytes ≡ refused (number_of e)

-- the N line of x: its names, and the bytes behind it
abbrev pub LineRead : List ℕ → Neighbours → ℕ → Result (Unit {0}) Refusal → List ℕ → Neighbours → Type 0
LineRead bytes old x (Ok _) rest new = (row : List ℕ) × (a_sensor_line old.count x bytes ≡ accepted (record { got = row; rest = rest })) × NamesAll old x row new
LineRead bytes old x (Err e) rest new = a_sensor_line old.count x bytes ≡ refused (number_of e)

-- all N lines: the names of each sensor, and the bytes behind them
abbrev pub LinesRead : List ℕ → Neighbours → Result (Unit {0}) Refusal → List ℕ → Neighbours → Type 0
LinesRead bytes old (Ok _) rest new =
    (rows : List (List ℕ)) × (sensor_lines_of old.count old.count 1 bytes ≡ accepted (record { got = rows; rest = rest }))
    × (new.count ≡ old.count) × ((x y : ℕ) → at new.rows x y ≡ names rows x y)
LinesRead bytes old (Err e) rest new = sensor_lines_of old.count old.count 1 bytes ≡ refused (number_of e)

-- a survey and the bytes behind its text, which ends at the place
abbrev pub survey_behind : List ℕ → Plan × ℕ → Read Survey
survey_behind text p = record { got = survey_of p.0; rest = drop p.1 text }
