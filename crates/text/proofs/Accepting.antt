-- What reading accepts is a text, and keeps every rule.
use Rattle.std.proofs.Common.{◌≡◌, ℕ, zero, suc, ◌+◌, ◌≤◌, true, false, List, [], ◌∷◌, ◌++◌, length, get_or, sym, refl, ap, ◌∙◌, subst, ap₂, inl, inr, append_assoc, arith}
use Rattle.std.proofs.lemmas.Bool.{eqb-true, leb-true, and_parts, both_ways, cases_lt}
use Rattle.std.proofs.lemmas.List.{get_or_past}
use Rattle.refusal.specs.Outcomes.{accepted}
use Rattle.refusal.proofs.Outcomes.{and_then_parts, taken_parts, same_from_accepted}
use Rattle.survey.specs.Lists.{numbers, gather, member}
use Rattle.survey.specs.Surveys.{Survey, sensors, judged, Valid}
use Rattle.survey.proofs.Judging.{Inside, judged_parts, valid_from}
use Rattle.text.specs.Columns.{column}
use Rattle.text.specs.Text.{neighbours, list_end, sensor_line_of, text}
use Rattle.text.specs.Reading.{Read, byte, a_number, a_list, formed, rising, a_sensor_line, sensor_lines_of, names, fence_line_of, count_line_of, reading}
use Rattle.text.specs.Theorems.{AcceptedIsText, AcceptedIsValid}
use Rattle.text.proofs.Pieces.{formed_some, byte_text, a_number_text, a_list_text, text_append}
use Rattle.text.proofs.Rising.{member_rising, member_rising_false, sift_member}

-- the line of sensor x with these neighbours
abbrev line : ℕ → List ℕ → List ℕ
line x row = 78 ∷ (column x ++ (gather column row ++ list_end))

-- the lines of sensors x, x + 1, .. with these neighbours
abbrev lines : ℕ → List (List ℕ) → List ℕ
lines x [] = []
lines x (row ∷ rows) = line x row ++ lines (suc x) rows

-- the rows of sensors x, x + 1, .. rise
abbrev Rise : ℕ → ℕ → List (List ℕ) → Type 0
Rise n x [] = Unit
Rise n x (row ∷ rows) = (rising n x 0 row ≡ true) × Rise n (suc x) rows

-- line by line

abbrev CountRead : List ℕ → Read ℕ → Type 0
CountRead bytes r = (bytes ≡ 83 ∷ (column r.got ++ (10 ∷ r.rest))) × (3 ≤ r.got) × (r.got ≤ 64)

count_read : (bytes : List ℕ) (r : Read ℕ) → count_line_of bytes ≡ accepted r → CountRead bytes r
count_read bytes r e =
    let after = and_then_parts (formed (byte 83 bytes)) _ r e in
    let n = and_then_parts (formed (a_number after.0)) _ r after.2 in
    let end = and_then_parts (formed (byte 10 n.0.rest)) _ r n.2 in
    let test = taken_parts _ _ 2 r end.2 in
    let sizes = and_parts _ _ test.0 in
    let begins = byte_text 83 bytes _ (formed_some _ _ after.1) in
    let counts = a_number_text _ _ (formed_some _ _ n.1) in
    let ends = byte_text 10 _ _ (formed_some _ _ end.1) in
    subst (CountRead bytes) (same_from_accepted test.1) (
      begins ∙ ap (λ l. 83 ∷ l) (counts ∙ ap (λ l. column n.0.got ++ l) ends),
      leb-true _ _ sizes.0,
      leb-true _ _ sizes.1,
    )

abbrev LineRead : ℕ → ℕ → List ℕ → Read (List ℕ) → Type 0
LineRead n x bytes r = (bytes ≡ line x r.got ++ r.rest) × (rising n x 0 r.got ≡ true)

line_read : (n x : ℕ) (bytes : List ℕ) (r : Read (List ℕ)) → a_sensor_line n x bytes ≡ accepted r → LineRead n x bytes r
line_read n x bytes r e =
    let after = and_then_parts (formed (byte 78 bytes)) _ r e in
    let sensor = and_then_parts (formed (a_number after.0)) _ r after.2 in
    let list = and_then_parts (formed (a_list sensor.0.rest)) _ r sensor.2 in
    let turn = taken_parts _ _ 3 r list.2 in
    let rises = taken_parts _ _ 4 r turn.1 in
    let begins = byte_text 78 bytes _ (formed_some _ _ after.1) in
    let names-x = a_number_text _ _ (formed_some _ _ sensor.1) in
    let lists = a_list_text _ _ (formed_some _ _ list.1) ∙ sym (append_assoc (gather column list.0.got) list_end _) in
    subst (LineRead n x bytes) (same_from_accepted rises.1) (
      begins ∙ ap (λ l. 78 ∷ l) (names-x ∙ ap₂ (λ y l. column y ++ l) (eqb-true _ x turn.0) lists),
      rises.0,
    )

abbrev LinesRead : ℕ → ℕ → ℕ → List ℕ → Read (List (List ℕ)) → Type 0
LinesRead n left x bytes r = (bytes ≡ lines x r.got ++ r.rest) × (length r.got ≡ left) × Rise n x r.got

lines_read : (n left x : ℕ) (bytes : List ℕ) (r : Read (List (List ℕ))) → sensor_lines_of n left x bytes ≡ accepted r → LinesRead n left x bytes r
lines_read n zero x bytes r e = subst (LinesRead n 0 x bytes) (same_from_accepted e) (refl, refl, tt)
lines_read n (suc left) x bytes r e =
    let row = and_then_parts (a_sensor_line n x bytes) _ r e in
    let more = and_then_parts (sensor_lines_of n left (suc x) row.0.rest) _ r row.2 in
    let first = line_read n x bytes row.0 row.1 in
    let others = lines_read n left (suc x) row.0.rest more.0 more.1 in
    subst (LinesRead n (suc left) x bytes) (same_from_accepted more.2) (
      first.0 ∙ ap (λ l. line x row.0.got ++ l) others.0 ∙ sym (append_assoc (line x row.0.got) (lines (suc x) more.0.got) more.0.rest),
      ap suc others.1,
      (first.1, others.2),
    )

abbrev FenceRead : List ℕ → Read (List ℕ) → Type 0
FenceRead bytes r = bytes ≡ 70 ∷ (gather column r.got ++ (list_end ++ r.rest))

fence_read : (bytes : List ℕ) (r : Read (List ℕ)) → fence_line_of bytes ≡ accepted r → FenceRead bytes r
fence_read bytes r e =
    let after = and_then_parts (formed (byte 70 bytes)) _ r e in
    byte_text 70 bytes _ (formed_some _ _ after.1) ∙ ap (λ l. 70 ∷ l) (a_list_text _ r (formed_some _ r after.2))

-- the survey that names these rows

abbrev named : ℕ → List (List ℕ) → List ℕ → Survey
named n rows fence = record { count = n; linked = names rows; fence = fence }

row_rises : (n x : ℕ) (rows : List (List ℕ)) (i : ℕ) → Rise n x rows → rising n (x + i) 0 (get_or rows i []) ≡ true
row_rises n x [] i h = refl
row_rises n x (row ∷ rows) zero h = let at : x ≡ x + 0 = omega arith in subst (λ z. rising n z 0 row ≡ true) at h.0
row_rises n x (row ∷ rows) (suc i) h =
    let at : suc x + i ≡ x + suc i = omega arith in
    subst (λ z. rising n z 0 (get_or rows i []) ≡ true) at (row_rises n (suc x) rows i h.1)

-- the lines are those of a survey whose neighbours the rows are
lines_of : (s : Survey) (x : ℕ) (rows : List (List ℕ)) → ((i : ℕ) → neighbours s (x + i) ≡ get_or rows i [])
    → lines x rows ≡ gather (sensor_line_of s) (numbers x (length rows))
lines_of s x [] h = refl
lines_of s x (row ∷ rows) h =
    let at : x ≡ x + 0 = omega arith in
    let on : (i : ℕ) → suc x + i ≡ x + suc i = λ i. omega arith in
    ap₂ ◌++◌ (ap (line x) (sym (ap (neighbours s) at ∙ h 0))) (lines_of s (suc x) rows (λ i. ap (neighbours s) (on i) ∙ h (suc i)))

module _ (n : ℕ) (rows : List (List ℕ)) (fence : List ℕ) (rise : Rise n 1 rows) (all : length rows ≡ n) where
  abbrev s : Survey
  s = named n rows fence

  rises : (i : ℕ) → rising n (suc i) 0 (get_or rows i []) ≡ true
  rises i = let at : 1 + i ≡ suc i = omega arith in subst (λ z. rising n z 0 (get_or rows i []) ≡ true) at (row_rises n 1 rows i rise)

  neighbours_named : (i : ℕ) → neighbours s (1 + i) ≡ get_or rows i []
  neighbours_named i =
      let at : 1 + i ≡ suc i = omega arith in
      ap (neighbours s) at ∙ sift_member n (suc i) n 0 (get_or rows i []) (omega arith) (rises i)

  lines_named : lines 1 rows ≡ gather (sensor_line_of s) (sensors s)
  lines_named = lines_of s 1 rows neighbours_named ∙ ap (λ m. gather (sensor_line_of s) (numbers 1 m)) all

  apart_named : (x : ℕ) → names rows x x ≡ false
  apart_named zero = refl
  apart_named (suc i) = member_rising_false n (suc i) 0 (get_or rows i []) (suc i) (rises i) (λ f. f.other refl)

  inside_named : Inside s
  inside_named zero y e = absurd (both_ways _ refl e)
  inside_named (suc i) y e =
      let f = member_rising n (suc i) 0 (get_or rows i []) y (rises i) e in
      elim (cases_lt i n) [
        | inl l ↦ (omega arith, l, f.above, f.most)
        | inr l ↦ absurd (both_ways _ (ap (member y) (get_or_past rows i [] (omega arith))) e)
      ]

-- all lines together

abbrev Accepted : List ℕ → Read Survey → Type 0
Accepted bytes r = (bytes ≡ text r.got ++ r.rest) × Valid r.got

-- the rows rise, so they are the neighbours of the survey that names them, and its text is what was read
all_read : (bytes : List ℕ) (count : Read ℕ) (table : Read (List (List ℕ))) (last : Read (List ℕ)) (t : Survey)
    → CountRead bytes count → LinesRead count.got count.got 1 count.rest table → FenceRead table.rest last
    → judged (named count.got table.got last.got) ≡ accepted t
    → Accepted bytes (record { got = t; rest = last.rest })
all_read bytes count table last t head body foot e =
    let n = count.got in let rows = table.got in let fence = last.got in let rise = body.2 in let all = body.1 in
    let s = named n rows fence in
    let verdict = judged_parts s t e in
    let body-text = body.0 ∙ ap₂ ◌++◌ (lines_named n rows fence rise all) foot in
    subst (λ q. Accepted bytes (record { got = q; rest = last.rest })) verdict.0 (
      head.0 ∙ ap (λ l. 83 ∷ (column n ++ (10 ∷ l))) body-text ∙ sym (text_append s last.rest),
      valid_from s head.1 head.2 (inside_named n rows fence rise all) (apart_named n rows fence rise all) verdict.1,
    )

reading_accepted : (bytes : List ℕ) (r : Read Survey) → reading bytes ≡ accepted r → Accepted bytes r
reading_accepted bytes r e =
    let count = and_then_parts (count_line_of bytes) _ r e in
    let table = and_then_parts (sensor_lines_of count.0.got count.0.got 1 count.0.rest) _ r count.2 in
    let last = and_then_parts (fence_line_of table.0.rest) _ r table.2 in
    let end = and_then_parts (judged (named count.0.got table.0.got last.0.got)) _ r last.2 in
    subst (Accepted bytes) (same_from_accepted end.2)
    (all_read bytes count.0 table.0 last.0 end.0 (count_read _ _ count.1) (lines_read _ _ 1 _ _ table.1) (fence_read _ _ last.1) end.1)

pub accepted_is_text : AcceptedIsText
accepted_is_text bytes r e = (reading_accepted bytes r e).0

pub accepted_is_valid : AcceptedIsValid
accepted_is_valid bytes r e = (reading_accepted bytes r e).1
