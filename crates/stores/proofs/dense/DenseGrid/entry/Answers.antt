-- The place of an entry lies in the bytes.
use Rattle.matrix.proofs.Layouts.{place_below}
use Rattle.stores.proofs.dense.DenseGrid.entry.Goals as goal

pub read-requires : goal.read-requires
read-requires c = place_below c.args.self.now.shape.rows c.args.self.now.shape.columns c.args.row c.args.column c.in-Some.ensures.place c.args.self.now.fits
