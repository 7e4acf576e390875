-- The count line, the sensor lines and the fence line, one after the other.
use Rattle.std.proofs.Common.{ℕ, List, [], ◌∷◌, ◌++◌, subst}
use Rattle.survey.specs.Plans.{survey_of}
use Rattle.text.specs.Columns.{column}
use Rattle.text.specs.Writing.{lines_text, fence_text, Wrote}
use Rattle.text.proofs.Writing.{fits_then, wrote_then}
use Rattle.text.proofs.write.Writer.text.Goals as goal

pub fence_line-requires : goal.fence_line-requires
fence_line-requires c =
    let s = survey_of c.args.survey.now in
    let lines = lines_text s in
    let fence = fence_text s.fence in
    let number = subst (λ (n : ℕ). Wrote c.put.new.self (column n) c.number.new.self) c.count.ensures.value c.number.ensures in
    rw c.fence.ensures
    (fits_then c.put-2.new.self c.sensor_lines.new.self lines fence c.sensor_lines.ensures
    (fits_then c.number.new.self c.put-2.new.self (10 ∷ []) (lines ++ fence) c.put-2.ensures
    (fits_then c.put.new.self c.number.new.self (column s.count) (10 ∷ (lines ++ fence)) number
    (fits_then c.args.self.now c.put.new.self (83 ∷ []) (column s.count ++ (10 ∷ (lines ++ fence))) c.put.ensures c.requires))))

pub returns : goal.returns
returns c =
    let s = survey_of c.args.survey.now in
    let lines = lines_text s in
    let fence = fence_text s.fence in
    let end = c.fence_line.new.self in
    let number = subst (λ (n : ℕ). Wrote c.put.new.self (column n) c.number.new.self) c.count.ensures.value c.number.ensures in
    let fenced = subst (λ (xs : List ℕ). Wrote c.sensor_lines.new.self (fence_text xs) end) c.fence.ensures c.fence_line.ensures in
    wrote_then c.args.self.now c.put.new.self end (83 ∷ []) (column s.count ++ (10 ∷ (lines ++ fence))) c.put.ensures
    (wrote_then c.put.new.self c.number.new.self end (column s.count) (10 ∷ (lines ++ fence)) number
    (wrote_then c.number.new.self c.put-2.new.self end (10 ∷ []) (lines ++ fence) c.put-2.ensures
    (wrote_then c.put-2.new.self c.sensor_lines.new.self end lines fence c.sensor_lines.ensures fenced)))
