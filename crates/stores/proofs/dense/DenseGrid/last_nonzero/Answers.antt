-- The scan back over the column's places finds its last nonzero row.
use Rattle.std.proofs.Common.{◌∙◌, arith}
use Rattle.matrix.proofs.Layouts.{place_some, place_none}
use Rattle.stores.specs.Widths.{bits_of}
use Rattle.stores.specs.Packed.{code_at}
use Rattle.stores.proofs.Scans.{column_end, back_outside, back_found, back_none}
use Rattle.stores.proofs.dense.DenseGrid.last_nonzero.Goals as goal

pub returns-in_err-start : goal.returns-in_err-start
returns-in_err-start c =
    let d = c.args.self.now in
    c.from_residual.ensures ∙ back_outside d.shape.rows d.shape.columns (code_at (bits_of d.width) d.bytes.now) c.args.column c.args.last (place_none d.shape.rows d.shape.columns 1 c.args.column c.in_err-start.ensures.place)

pub scan_back-requires : goal.scan_back-requires
scan_back-requires c =
    let d = c.args.self.now in
    let p = place_some d.shape.rows d.shape.columns 1 c.args.column c.in_ok-start.start c.in_ok-start.ensures.place in
    omega (arith, column_end d.shape.rows d.shape.columns c.args.column c.in_ok-start.start p.0 p.1, d.fits, c.min.ensures)

pub returns-in_err-found : goal.returns-in_err-found
returns-in_err-found c =
    let d = c.args.self.now in
    let f = code_at (bits_of d.width) d.bytes.now in
    let top = c.in_ok-start.start in
    let p = place_some d.shape.rows d.shape.columns 1 c.args.column top c.in_ok-start.ensures.place in
    c.from_residual-in_err-found.ensures ∙ back_none d.shape.rows d.shape.columns f c.args.column c.args.last top c.min.result p.0 p.1 c.min.ensures c.in_err-found.ensures

pub returns : goal.returns
returns c =
    let d = c.args.self.now in
    let f = code_at (bits_of d.width) d.bytes.now in
    let top = c.in_ok-start.start in
    let p = place_some d.shape.rows d.shape.columns 1 c.args.column top c.in_ok-start.ensures.place in
    back_found d.shape.rows d.shape.columns f c.args.column c.args.last top c.min.result p.0 p.1 c.min.ensures c.in_ok-found.found c.in_ok-found.ensures
