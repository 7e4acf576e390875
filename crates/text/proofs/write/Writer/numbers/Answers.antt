-- One column more is written.
use Rattle.std.proofs.Common.{get_or}
use Rattle.std.proofs.lemmas.List.{at_drop_more}
use Rattle.survey.specs.Lists.{gather}
use Rattle.text.specs.Columns.{column}
use Rattle.text.proofs.Writing.{due_more, due_fits}
use Rattle.text.proofs.write.Writer.numbers.Goals as goal

pub number-requires : goal.number-requires
number-requires c =
    let list = c.args.list.now in
    let i = c.loop-v.v-index in
    due_fits _ _ c.loop-v.self _ c.loop-v.invariant (column (get_or list i 0)) _ (at_drop_more (gather column) list i 0 c.loop-v-test.true) c.requires

pub loop-v-preserved : goal.loop-v-preserved
loop-v-preserved c =
    let list = c.args.list.now in
    let i = c.loop-v.v-index in
    due_more _ _ c.loop-v.self _ c.loop-v.invariant (column (get_or list i 0)) _ c.number.new.self (at_drop_more (gather column) list i 0 c.loop-v-test.true) c.number.ensures
