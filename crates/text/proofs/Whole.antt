-- A survey from its lines: what reading comes to once they are read.
use Rattle.std.proofs.Common.{◌≡◌, ℕ, ◌-◌, ◌<◌, ◌≤◌, Bool, List, length, take, drop, Some, None, Ok, Err, Option, Result, sym, refl, ap, ◌∙◌, arith, length-append}
use mathlib.Core.Path.{fun_ext}
use Rattle.std.proofs.lemmas.Bool.Decides.{nat_tests}
use Rattle.std.proofs.lemmas.List.{take_at, drop_at}
use Rattle.refusal.specs.declared.Refusal.{Refusal}
use Rattle.refusal.specs.Outcomes.{Outcome, accepted, refused, and_then, outcome}
use Rattle.survey.specs.declared.neighbours.Neighbours.{Neighbours}
use Rattle.survey.specs.declared.plan.Survey.{Survey as Plan}
use Rattle.survey.specs.Lists.{fitting}
use Rattle.survey.specs.Plans.{survey_of}
use Rattle.survey.specs.Surveys.{Survey, judged}
use Rattle.survey.specs.Tables.{at}
use Rattle.survey.specs.Views.{drawn}
use Rattle.survey.proofs.Judging.{long_refused}
use Rattle.text.specs.Reading.{Read, count_line_of, sensor_lines_of, fence_line_of, names, reading}
use Rattle.text.specs.Lines.{fitted, LinesRead}
use Rattle.text.specs.Text.{text}
use Rattle.text.proofs.Accepting.{accepted_is_text}
use Rattle.text.proofs.Lists.{fitted_accepted, some_fits}

-- a survey, and the bytes behind its text
abbrev pub with_rest : List ℕ → Survey → Outcome (Read Survey)
with_rest rest s = accepted (record { got = s; rest = rest })

-- too many sensors for a fence of different ones
pub judged_long : (p : Neighbours) (list : List ℕ) → 64 < length list → judged (drawn p list) ≡ refused 5
judged_long p list l = let none : None ≡ fitting list = grind (arith, nat_tests) in long_refused (drawn p list) p.most none

-- what is made of the lines
abbrev of_fence : ℕ → Read (List (List ℕ)) → Outcome (Read Survey)
of_fence n rows =
    and_then (fence_line_of rows.rest) (λ fence.
    and_then (judged (record { count = n; linked = names rows.got; fence = fence.got })) (with_rest fence.rest))

abbrev of_lines : Read ℕ → Outcome (Read Survey)
of_lines n = and_then (sensor_lines_of n.got n.got 1 n.rest) (of_fence n.got)

-- the lines are read: neighbours, and a fence that is kept if it fits
pub record Lined (bytes : List ℕ) (new : Neighbours) (f : Option (List ℕ)) (rest : List ℕ) : Type 0 where
  pub list : List ℕ
  pub read : reading bytes ≡ and_then (judged (drawn new list)) (with_rest rest)
  pub fits : f ≡ fitting list

module _ (bytes behind : List ℕ) (old : Neighbours) (first : count_line_of bytes ≡ accepted (record { got = old.count; rest = behind })) where
  pub lines_refused : (k : ℕ) → sensor_lines_of old.count old.count 1 behind ≡ refused k → reading bytes ≡ refused k
  lines_refused k e = ap (λ o. and_then o of_lines) first ∙ ap (λ o. and_then o (of_fence old.count)) e

module _ (bytes behind : List ℕ) (old : Neighbours) (first : count_line_of bytes ≡ accepted (record { got = old.count; rest = behind }))
    (last : List ℕ) (new : Neighbours) (lines : LinesRead behind old (Ok tt) last new) where
  survey_is : (list : List ℕ) → ◌≡◌ {A = Survey} (record { count = old.count; linked = names lines.0; fence = list }) (drawn new list)
  survey_is list =
      ap (λ (f : ℕ → ℕ → Bool). record { count = old.count; linked = f; fence = list }) (fun_ext (λ x. fun_ext (λ y. sym (lines.3 x y))))
      ∙ ap (λ n. record { count = n; linked = at new.rows; fence = list }) (sym lines.2)

  -- all lines but the last are read
  after_lines : reading bytes ≡ and_then (fence_line_of last) (λ fence. and_then (judged (drawn new fence.got)) (with_rest fence.rest))
  after_lines =
      ap (λ o. and_then o of_lines) first ∙ ap (λ o. and_then o (of_fence old.count)) lines.1
      ∙ ap (and_then (fence_line_of last)) (fun_ext (λ fence. ap (λ s. and_then (judged s) (with_rest fence.rest)) (survey_is fence.got)))

  pub fence_refused : (k : ℕ) → fence_line_of last ≡ refused k → reading bytes ≡ refused k
  fence_refused k e = after_lines ∙ ap (λ o. and_then o (λ fence. and_then (judged (drawn new fence.got)) (with_rest fence.rest))) e

  pub lines_read : (f : Option (List ℕ)) (rest : List ℕ) → accepted (record { got = f; rest = rest }) ≡ fitted (fence_line_of last) → Lined bytes new f rest
  lines_read f rest fence =
      let p = fitted_accepted (fence_line_of last) f rest fence in
      record { list = p.0; read = after_lines ∙ ap (λ o. and_then o (λ fence. and_then (judged (drawn new fence.got)) (with_rest fence.rest))) p.1; fits = p.2 }

module _ {bytes : List ℕ} {new : Neighbours} {f : Option (List ℕ)} {rest : List ℕ} (lined : Lined bytes new f rest) where
  pub fence_long : f ≡ None → reading bytes ≡ refused 5
  fence_long none = lined.read ∙ ap (λ o. and_then o (with_rest rest)) (long_refused (drawn new lined.list) new.most (sym none ∙ lined.fits))

  pub survey_read : (xs : List ℕ) (r : Result Plan Refusal) → f ≡ Some xs → outcome survey_of r ≡ judged (drawn new xs)
      → outcome (λ s. record { got = survey_of s; rest = rest }) r ≡ reading bytes
  survey_read xs r some e =
      let same = some_fits xs lined.list (sym some ∙ lined.fits) in
      go r ∙ ap (λ o. and_then o (with_rest rest)) e ∙ ap (λ (l : List ℕ). and_then (judged (drawn new l)) (with_rest rest)) same ∙ sym lined.read
    where
      go : (r : Result Plan Refusal) → outcome (λ s. record { got = survey_of s; rest = rest }) r ≡ and_then (outcome survey_of r) (with_rest rest)
      go (Ok s) = refl
      go (Err k) = refl

-- what stands before the bytes that are left is the text, which ends where they begin
pub record Ends (bytes : List ℕ) (s : Survey) (rest : List ℕ) : Type 0 where
  pub within : length rest ≤ length bytes
  pub front : take (length bytes - length rest) bytes ≡ text s
  pub behind : drop (length bytes - length rest) bytes ≡ rest

pub text_ends : (bytes : List ℕ) (s : Survey) (rest : List ℕ) → accepted (record { got = s; rest = rest }) ≡ reading bytes → Ends bytes s rest
text_ends bytes s rest e =
    let whole = accepted_is_text bytes (record { got = s; rest = rest }) (sym e) in
    let all = ap length whole ∙ length-append (text s) rest in
    let place : length (text s) ≡ length bytes - length rest = omega (arith, all) in
    record {
      within = omega (arith, all);
      front = ap (take (length bytes - length rest)) whole ∙ take_at (text s) rest _ place;
      behind = ap (drop (length bytes - length rest)) whole ∙ drop_at (text s) rest _ place;
    }
