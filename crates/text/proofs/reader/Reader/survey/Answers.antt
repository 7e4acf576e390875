-- The survey is judged once its lines are read, and its text ends where the bytes that are left begin.
use Rattle.std.proofs.Common.{◌≡◌, ◌-◌, take, drop, Some, None, Ok, Err, sym, ap, ap₂, ◌∙◌, arith, rules}
use Rattle.std.proofs.lemmas.Result.{err_from_is_err_and}
use Rattle.refusal.specs.Numbers.{number_of}
use Rattle.refusal.specs.Outcomes.{accepted}
use Rattle.survey.specs.Plans.{survey_of}
use Rattle.text.specs.Reading.{reading}
use Rattle.text.proofs.Whole.{Lined, Ends, lines_read, fence_long, survey_read, text_ends}
use Rattle.text.proofs.reader.Reader.survey.Goals as goal
use Rattle.text.proofs.reader.Reader.survey.Goals.{In_ok-fence_line}

lined : (c : In_ok-fence_line) → Lined c.args.self.now c.sensor_lines.new.neighbours c.in_ok-fence_line.field-0 c.fence_line.new.self
lined c = lines_read _ c.count_line.new.self c.in_ok-neighbours.neighbours c.in_ok-neighbours.ensures.0 c.sensor_lines.new.self _ c.in_ok-sensor_lines.ensures _ _ c.in_ok-fence_line.ensures

pub returns-in_err-fence-clause-answer : goal.returns-in_err-fence-clause-answer
returns-in_err-fence-clause-answer c =
    let p = err_from_is_err_and c.from_residual-in_err-fence.result c.from_residual-in_err-fence.ensures.1 in
    let none : c.in_ok-fence_line.field-0 ≡ None = search rules in
    let five : number_of c.in_err-fence.field-0.0 ≡ 5 = search rules in
    rw (p.1, p.2, five) (sym (fence_long (lined (goal.at.returns-in_err-fence-clause-answer c).In_ok-fence_line) none))

pub returns-in_err-survey-clause-answer : goal.returns-in_err-survey-clause-answer
returns-in_err-survey-clause-answer c =
    let p = err_from_is_err_and c.from_residual-in_err-survey.result c.from_residual-in_err-survey.ensures.1 in
    let some : c.in_ok-fence_line.field-0 ≡ Some c.as_slice.result.now = search rules in
    rw (p.1, p.2) (survey_read (lined (goal.at.returns-in_err-survey-clause-answer c).In_ok-fence_line) _ (Err c.in_err-survey.field-0.0) some c.in_err-survey.ensures)

abbrev LinedAt : goal.After-left → Type 0
LinedAt c = Lined c.args.self.now c.sensor_lines.new.neighbours c.in_ok-fence_line.field-0 c.fence_line.new.self

survey_is : (c : goal.After-left) → LinedAt c → accepted (record { got = survey_of c.in_ok-survey.survey; rest = c.fence_line.new.self }) ≡ reading c.args.self.now
survey_is c l =
    let some : c.in_ok-fence_line.field-0 ≡ Some c.as_slice.result.now = search rules in
    survey_read l _ (Ok c.in_ok-survey.survey) some c.in_ok-survey.ensures

ends : (c : goal.After-left) → LinedAt c → Ends c.args.self.now (survey_of c.in_ok-survey.survey) c.fence_line.new.self
ends c l = text_ends _ _ _ (survey_is c l)

pub overflow_sub-at : goal.overflow_sub-at
overflow_sub-at c = rw (c.left-all.ensures, c.left.ensures) (ends c (lined (goal.at.overflow_sub-at c).In_ok-fence_line)).within

pub returns : goal.returns
returns c =
    let text = c.args.self.now in
    let l = lined (goal.at.returns c).In_ok-fence_line in
    let end = ends c l in
    let place = ap₂ ◌-◌ c.left-all.ensures c.left.ensures in
    record {
      answer = ap (λ rest. accepted (record { got = survey_of c.in_ok-survey.survey; rest = rest })) (ap (λ k. drop k text) place ∙ end.behind) ∙ survey_is c l;
      within = omega (arith, c.left-all.ensures);
      front = ap (λ k. take k text) place ∙ end.front;
      rest = sym (ap (λ k. drop k text) place ∙ end.behind);
    }
