-- The place of an entry lies in the memory.
use Rattle.matrix.proofs.Layouts.{place_below}
use Rattle.customer.proofs.shaped.ShapedGrid.entry.Goals as goal

pub bounds-self-at : goal.bounds-self-at
bounds-self-at g c = place_below c.args.self.now.shape.rows c.args.self.now.shape.columns c.args.row c.args.column c.in-Some.ensures.place c.args.self.now.fits
