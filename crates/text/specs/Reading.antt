-- What reading makes of any bytes: a survey and the bytes behind its text, or the number of the first fault.
use Rattle.std.specs.Prelude.{ℕ, zero, suc, Bool, true, cond, not, ◌&&◌, List, [], ◌∷◌, Some, None, Option, ◌==◌, nat_le, nat_lt, slice_index_or}
use Rattle.refusal.specs.Outcomes.{Outcome, accepted, refused, and_then}
use Rattle.survey.specs.Lists.{member}
use Rattle.survey.specs.Surveys.{Survey, judged}
use Rattle.text.specs.Columns.{number, and_next}

-- something read, and the bytes behind it
pub record Read (A : Type 0) : Type 0 where
  pub got : A
  pub rest : List ℕ

abbrev pub byte : ℕ → List ℕ → Option (List ℕ)
byte x [] = None
byte x (a ∷ rest) = cond (a == x) (Some rest) None

abbrev pub a_number : List ℕ → Option (Read ℕ)
a_number [] = None
a_number (a ∷ []) = None
a_number (a ∷ (b ∷ [])) = None
a_number (a ∷ (b ∷ (c ∷ []))) = None
a_number (a ∷ (b ∷ (c ∷ (d ∷ rest)))) = and_next (number a b c d) (λ v. Some (record { got = v; rest = rest }))

-- the number whose column the bytes begin with
abbrev pub number_first : List ℕ → Option ℕ
number_first bytes = and_next (a_number bytes) (λ r. Some r.got)

-- one number more at the front
abbrev pub led_by : ℕ → Option (Read (List ℕ)) → Option (Read (List ℕ))
led_by v None = None
led_by v (Some r) = Some (record { got = v ∷ r.got; rest = r.rest })

-- the end mark and the line end
abbrev pub ended : ℕ → ℕ → List ℕ → Option (Read (List ℕ))
ended a b rest = cond (a == 59 && b == 10) (Some (record { got = []; rest = rest })) None

-- number columns up to the end mark, the mark and the line end
abbrev pub a_list : List ℕ → Option (Read (List ℕ))
a_list [] = None
a_list (a ∷ []) = None
a_list (a ∷ (b ∷ [])) = ended a b []
a_list (a ∷ (b ∷ (c ∷ []))) = ended a b (c ∷ [])
a_list (a ∷ (b ∷ (c ∷ (d ∷ rest)))) =
    let more = a_list rest in
    cond (a == 59) (ended a b (c ∷ (d ∷ rest))) (and_next (number a b c d) (λ v. led_by v more))

-- a fault of form is refused with 1
abbrev pub formed : {A : Type 0} → Option A → Outcome A
formed None = refused 1
formed (Some x) = accepted x

-- each is from 1 to n, not x, and above the one before
abbrev pub rising : ℕ → ℕ → ℕ → List ℕ → Bool
rising n x before [] = true
rising n x before (y ∷ ys) = nat_lt before y && nat_le y n && not (y == x) && rising n x y ys

-- the line of sensor x: its neighbours
abbrev pub a_sensor_line : ℕ → ℕ → List ℕ → Outcome (Read (List ℕ))
a_sensor_line n x bytes =
    and_then (formed (byte 78 bytes)) (λ after.
    and_then (formed (a_number after)) (λ sensor.
    and_then (formed (a_list sensor.rest)) (λ list.
    cond (sensor.got == x) (cond (rising n x 0 list.got) (accepted list) (refused 4)) (refused 3))))

-- one row more at the front
abbrev pub row_before : List ℕ → Read (List (List ℕ)) → Outcome (Read (List (List ℕ)))
row_before row r = accepted (record { got = row ∷ r.got; rest = r.rest })

-- the lines of sensors x, x + 1, .., as many as `left`
abbrev pub sensor_lines_of : ℕ → ℕ → ℕ → List ℕ → Outcome (Read (List (List ℕ)))
sensor_lines_of n zero x bytes = accepted (record { got = []; rest = bytes })
sensor_lines_of n (suc left) x bytes =
    and_then (a_sensor_line n x bytes) (λ row.
    and_then (sensor_lines_of n left (suc x) row.rest) (row_before row.got))

-- does row x, counted from 1, hold y?
abbrev pub names : List (List ℕ) → ℕ → ℕ → Bool
names rows x y = member y (slice_index_or ([] ∷ rows) x [])

abbrev pub fence_line_of : List ℕ → Outcome (Read (List ℕ))
fence_line_of bytes = and_then (formed (byte 70 bytes)) (λ after. formed (a_list after))

abbrev pub count_line_of : List ℕ → Outcome (Read ℕ)
count_line_of bytes =
    and_then (formed (byte 83 bytes)) (λ after.
    and_then (formed (a_number after)) (λ n.
    and_then (formed (byte 10 n.rest)) (λ lines.
    cond (nat_le 3 n.got && nat_le n.got 64) (accepted (record { got = n.got; rest = lines })) (refused 2))))

abbrev pub reading : List ℕ → Outcome (Read Survey)
reading bytes =
    and_then (count_line_of bytes) (λ n.
    and_then (sensor_lines_of n.got n.got 1 n.rest) (λ rows.
    and_then (fence_line_of rows.rest) (λ fence.
    and_then (judged (record { count = n.got; linked = names rows.got; fence = fence.got })) (λ s.
    accepted (record { got = s; rest = fence.rest })))))
