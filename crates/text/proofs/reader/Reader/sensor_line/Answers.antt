-- The form of the line is read; then its values are judged.
use Rattle.std.proofs.Common.{◌≡◌, Some, None, rules}
use Rattle.std.proofs.lemmas.Result.{err_from_is_err_and}
use Rattle.refusal.specs.Numbers.{number_of}
use Rattle.text.proofs.SensorLines.{Formed, line_malformed, line_formed, line_out_of_turn, line_long, line_read}
use Rattle.text.proofs.reader.Reader.sensor_line.Goals as goal
use Rattle.text.proofs.reader.Reader.sensor_line.Goals.{In_ok-list}

form : (c : In_ok-list) → Formed c.args.self.now c.args.neighbours.now c.args.x c.in_ok-sensor.sensor c.in_ok-list.list c.list.new.self
form c = line_formed _ c.letter.new.self c.number.new.self _ _ _ c.in_ok-letter.ensures c.in_ok-sensor.ensures _ _ c.in_ok-list.ensures

pub returns-in_err-list : goal.returns-in_err-list
returns-in_err-list c =
    let p = err_from_is_err_and c.from_residual-in_err-list.result c.from_residual-in_err-list.ensures.1 in
    rw (p.1, p.2) (line_malformed c.args.self.now c.letter.new.self c.number.new.self c.args.neighbours.now c.args.x _ c.in_ok-letter.ensures c.in_ok-sensor.ensures _ c.in_err-list.ensures)

pub returns-then-sensor-x : goal.returns-then-sensor-x
returns-then-sensor-x c = line_out_of_turn (form (goal.at.returns-then-sensor-x c).In_ok-list) c.if-sensor-x.true

pub returns-in_err-list-2 : goal.returns-in_err-list-2
returns-in_err-list-2 c =
    let p = err_from_is_err_and c.from_residual-in_err-list-2.result c.from_residual-in_err-list-2.ensures.1 in
    let none : c.in_ok-list.list ≡ None = search rules in
    let four : number_of c.in_err-list-2.field-0.0 ≡ 4 = search rules in
    rw (p.1, p.2, four) (line_long (form (goal.at.returns-in_err-list-2 c).In_ok-list) c.if-sensor-x.false none)

pub returns : goal.returns
returns c =
    let some : c.in_ok-list.list ≡ Some c.as_slice.result.now = search rules in
    line_read (form (goal.at.returns c).In_ok-list) _ c.name_all.result c.name_all.new.neighbours c.if-sensor-x.false some c.name_all.ensures
