-- The text of a survey that keeps the rules is read back, and so no other survey has it.
use Rattle.std.proofs.Common.{◌≡◌, ℕ, zero, suc, ◌+◌, ◌<◌, ◌≤◌, Bool, true, false, ◌&&◌, List, [], ◌∷◌, ◌++◌, length, get_or, sym, refl, ap, ◌∙◌, inl, inr, append_assoc, arith}
use mathlib.Core.Path.{fun_ext}
use Rattle.std.proofs.lemmas.Bool.{cases_lt, eq-eqb, le-leb, cond-true, and_from, and_right}
use Rattle.std.proofs.ByRecursion.{All-weaker}
use Rattle.std.proofs.lemmas.List.{get_or_past}
use Rattle.refusal.specs.Outcomes.{accepted}
use Rattle.refusal.proofs.Outcomes.{and_then_accepted, same_from_accepted}
use Rattle.survey.specs.Lists.{numbers, gather, member}
use Rattle.survey.specs.Surveys.{Survey, sensors, nobody, judged, Valid}
use Rattle.survey.proofs.Lists.{false_from, member_sift, member_numbers}
use Rattle.survey.proofs.Fences.{Within, distinct_within}
use Rattle.survey.proofs.Judging.{judged_valid}
use Rattle.text.specs.Columns.{column}
use Rattle.text.specs.Text.{neighbours, list_end, sensor_line_of}
use Rattle.text.specs.Reading.{Read, formed, rising, a_sensor_line, sensor_lines_of, names, fence_line_of, count_line_of, reading}
use Rattle.text.specs.Theorems.{ReadsBack, OneText}
use Rattle.text.proofs.Pieces.{a_number_back, a_list_back, text_append}
use Rattle.text.proofs.Rising.{all_rising, rising_sift}

-- the neighbours of sensors x, x + 1, .., n of them
abbrev rows_from : Survey → ℕ → ℕ → List (List ℕ)
rows_from s x zero = []
rows_from s x (suc n) = neighbours s x ∷ rows_from s (suc x) n

getD_rows_from : (s : Survey) (x n i : ℕ) → i < n → get_or (rows_from s x n) i [] ≡ neighbours s (x + i)
getD_rows_from s x zero i l = absurd (omega arith)
getD_rows_from s x (suc n) zero l = let m : x ≡ x + 0 = omega arith in ap (neighbours s) m
getD_rows_from s x (suc n) (suc i) l = let m : suc x + i ≡ x + suc i = omega arith in getD_rows_from s (suc x) n i (omega arith) ∙ ap (neighbours s) m

length_rows_from : (s : Survey) (x n : ℕ) → length (rows_from s x n) ≡ n
length_rows_from s x zero = refl
length_rows_from s x (suc n) = ap suc (length_rows_from s (suc x) n)

module _ (s : Survey) (valid : Valid s) where
  abbrev n : ℕ
  n = s.count

  abbrev rows : List (List ℕ)
  rows = rows_from s 1 n

  -- outside 1 to n nothing is named and nothing linked
  names_rows : (x y : ℕ) → names rows x y ≡ s.linked x y
  names_rows zero y = sym (false_from _ (λ e. omega (arith, valid.inside 0 y e)))
  names_rows (suc i) y = elim (cases_lt i n) [
    | inl l ↦
        let at : 1 + i ≡ suc i = omega arith in
        ap (member y) (getD_rows_from s 1 n i l ∙ ap (neighbours s) at) ∙ member_sift (s.linked (suc i)) y (sensors s) ∙ kept (s.linked (suc i) y) refl
    | inr l ↦
        ap (member y) (get_or_past rows i [] (omega (arith, length_rows_from s 1 n))) ∙ sym (false_from _ (λ e. omega (arith, valid.inside (suc i) y e)))
  ]
    where
      kept : (b : Bool) → s.linked (suc i) y ≡ b → (member y (sensors s) && b) ≡ b
      kept true e = let at = valid.inside (suc i) y e in and_from _ _ (member_numbers y 1 n at.2 (omega arith)) refl
      kept false e = and_right _ _ refl

  named_back : ◌≡◌ {A = Survey} (record { count = n; linked = names rows; fence = s.fence }) s
  named_back = ap (λ (l : ℕ → ℕ → Bool). record { count = n; linked = l; fence = s.fence }) (fun_ext (λ x. fun_ext (λ y. names_rows x y)))

  -- line by line

  count_back : (rest : List ℕ) → count_line_of (83 ∷ (column n ++ (10 ∷ rest))) ≡ accepted (record { got = n; rest = rest })
  count_back rest =
      and_then_accepted _ _ _ (ap formed (a_number_back n (10 ∷ rest) (omega (arith, valid.most))))
      ∙ cond-true _ _ _ (and_from _ _ (le-leb _ _ valid.least) (le-leb _ _ valid.most))

  line_back : (x : ℕ) (rest : List ℕ) → x ≤ n → a_sensor_line n x (sensor_line_of s x ++ rest) ≡ accepted (record { got = neighbours s x; rest = rest })
  line_back x rest l =
      let row = neighbours s x in
      let most : n ≤ 64 = valid.most in
      let rises : rising n x 0 row ≡ true = rising_sift (s.linked x) n x (valid.apart x) n 1 0 (omega arith) (omega arith) in
      ap (λ l. a_sensor_line n x (78 ∷ (column x ++ l))) (append_assoc (gather column row) list_end rest)
      ∙ and_then_accepted _ _ _ (ap formed (a_number_back x _ (omega arith)))
      ∙ and_then_accepted _ _ _ (ap formed (a_list_back row rest (all_rising n x 0 row 10000 rises (omega arith))))
      ∙ cond-true _ _ _ (eq-eqb x x refl)
      ∙ cond-true _ _ _ rises

  lines_back : (left x : ℕ) (rest : List ℕ) → x + left ≡ suc n
      → sensor_lines_of n left x (gather (sensor_line_of s) (numbers x left) ++ rest) ≡ accepted (record { got = rows_from s x left; rest = rest })
  lines_back zero x rest e = refl
  lines_back (suc left) x rest e =
      let more = gather (sensor_line_of s) (numbers (suc x) left) in
      ap (sensor_lines_of n (suc left) x) (append_assoc (sensor_line_of s x) more rest)
      ∙ and_then_accepted _ _ _ (line_back x (more ++ rest) (omega arith))
      ∙ and_then_accepted _ _ _ (lines_back left (suc x) rest (omega arith))

  fence_back : (rest : List ℕ) → fence_line_of (70 ∷ (gather column s.fence ++ (list_end ++ rest))) ≡ accepted (record { got = s.fence; rest = rest })
  fence_back rest =
      let most : n ≤ 64 = valid.most in
      ap formed (a_list_back s.fence rest (All-weaker (Within n) (λ v. v < 10000) (λ v w. omega arith) s.fence (distinct_within n nobody s.fence valid.different)))

  judged_back : judged (record { count = n; linked = names rows; fence = s.fence }) ≡ accepted s
  judged_back = ap judged named_back ∙ judged_valid s valid

-- each step of reading gets back what was written; the rows name what the survey links
pub reads_back : ReadsBack
reads_back s valid rest =
    let foot = 70 ∷ (gather column s.fence ++ (list_end ++ rest)) in
    ap reading (text_append s rest)
    ∙ and_then_accepted _ _ _ (count_back s valid (gather (sensor_line_of s) (sensors s) ++ foot))
    ∙ and_then_accepted _ _ _ (lines_back s valid s.count 1 foot (omega arith))
    ∙ and_then_accepted _ _ _ (fence_back s valid rest)
    ∙ and_then_accepted _ _ _ (judged_back s valid)

-- both surveys are what reading makes of the same bytes
pub one_text : OneText
one_text s t p q rest more e =
    let same = same_from_accepted (sym (reads_back s p rest) ∙ ap reading e ∙ reads_back t q more) in
    (ap (λ (r : Read Survey). r.got) same, ap (λ (r : Read Survey). r.rest) same)
