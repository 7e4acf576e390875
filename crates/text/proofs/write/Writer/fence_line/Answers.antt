-- The mark, the columns and the end of the list, one after the other.
use Rattle.std.proofs.Common.{[], ◌∷◌, ◌++◌}
use Rattle.survey.specs.Lists.{gather}
use Rattle.text.specs.Columns.{column}
use Rattle.text.specs.Text.{list_end}
use Rattle.text.proofs.Writing.{fits_then, wrote_then}
use Rattle.text.proofs.write.Writer.fence_line.Goals as goal

pub list_end-requires : goal.list_end-requires
list_end-requires c =
    let columns = gather column c.args.fence.now in
    fits_then c.put.new.self c.numbers.new.self columns list_end c.numbers.ensures (fits_then c.args.self.now c.put.new.self (70 ∷ []) (columns ++ list_end) c.put.ensures c.requires)

pub returns : goal.returns
returns c =
    let columns = gather column c.args.fence.now in
    wrote_then c.args.self.now c.put.new.self c.list_end.new.self (70 ∷ []) (columns ++ list_end) c.put.ensures
    (wrote_then c.put.new.self c.numbers.new.self c.list_end.new.self columns list_end c.numbers.ensures c.list_end.ensures)
