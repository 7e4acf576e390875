-- The mark, the sensor, its neighbours and the end of the list, one after the other.
use Rattle.std.proofs.Common.{[], ◌∷◌, ◌++◌}
use Rattle.survey.specs.Plans.{survey_of}
use Rattle.text.specs.Columns.{column}
use Rattle.text.specs.Text.{list_end}
use Rattle.text.specs.Writing.{neighbour_columns}
use Rattle.text.proofs.Writing.{fits_then, wrote_then}
use Rattle.text.proofs.write.Writer.sensor_line.Goals as goal

pub list_end-requires : goal.list_end-requires
list_end-requires c =
    let x = c.args.x in
    let row = neighbour_columns (survey_of c.args.survey.now) x in
    fits_then c.number.new.self c.neighbours.new.self row list_end c.neighbours.ensures
    (fits_then c.put.new.self c.number.new.self (column x) (row ++ list_end) c.number.ensures
    (fits_then c.args.self.now c.put.new.self (78 ∷ []) (column x ++ (row ++ list_end)) c.put.ensures c.requires))

pub returns : goal.returns
returns c =
    let x = c.args.x in
    let row = neighbour_columns (survey_of c.args.survey.now) x in
    let end = c.list_end.new.self in
    wrote_then c.args.self.now c.put.new.self end (78 ∷ []) (column x ++ (row ++ list_end)) c.put.ensures
    (wrote_then c.put.new.self c.number.new.self end (column x) (row ++ list_end) c.number.ensures
    (wrote_then c.number.new.self c.neighbours.new.self end row list_end c.neighbours.ensures c.list_end.ensures))
