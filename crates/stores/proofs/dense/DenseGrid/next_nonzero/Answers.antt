-- The scan of the column's places finds its next nonzero row.
use Rattle.std.proofs.Common.{◌∙◌, arith}
use Rattle.matrix.proofs.Layouts.{place_some, place_none}
use Rattle.stores.specs.Widths.{bits_of}
use Rattle.stores.specs.Packed.{code_at}
use Rattle.stores.proofs.Scans.{column_end, scan_outside, scan_found, scan_none, top_fits}
use Rattle.stores.proofs.dense.DenseGrid.next_nonzero.Goals as goal

pub returns-in_err-top : goal.returns-in_err-top
returns-in_err-top c =
    let d = c.args.self.now in
    c.from_residual.ensures ∙ scan_outside d.shape.rows d.shape.columns (code_at (bits_of d.width) d.bytes.now) c.args.column c.args.first (place_none d.shape.rows d.shape.columns 1 c.args.column c.in_err-top.ensures.place)

pub overflow_add-start : goal.overflow_add-start
overflow_add-start c =
    let d = c.args.self.now in
    let p = place_some d.shape.rows d.shape.columns 1 c.args.column c.in_ok-top.top c.in_ok-top.ensures.place in
    record { fits = omega (arith, top_fits d.shape.rows d.shape.columns c.args.column c.in_ok-top.top p.0 p.1 c.place.ensures.range.0 c.place.ensures.range.1) }

pub scan-requires : goal.scan-requires
scan-requires c =
    let d = c.args.self.now in
    let p = place_some d.shape.rows d.shape.columns 1 c.args.column c.in_ok-top.top c.in_ok-top.ensures.place in
    omega (arith, column_end d.shape.rows d.shape.columns c.args.column c.in_ok-top.top p.0 p.1, d.fits)

pub returns-in_err-found : goal.returns-in_err-found
returns-in_err-found c =
    let d = c.args.self.now in
    let f = code_at (bits_of d.width) d.bytes.now in
    let top = c.in_ok-top.top in
    let p = place_some d.shape.rows d.shape.columns 1 c.args.column c.in_ok-top.top c.in_ok-top.ensures.place in
    c.from_residual-in_err-found.ensures ∙ scan_none d.shape.rows d.shape.columns f c.args.column c.args.first top p.0 p.1 c.saturating_sub.result c.saturating_sub.ensures c.in_err-found.ensures

pub returns : goal.returns
returns c =
    let d = c.args.self.now in
    let f = code_at (bits_of d.width) d.bytes.now in
    let top = c.in_ok-top.top in
    let p = place_some d.shape.rows d.shape.columns 1 c.args.column c.in_ok-top.top c.in_ok-top.ensures.place in
    scan_found d.shape.rows d.shape.columns f c.args.column c.args.first top p.0 p.1 c.saturating_sub.result c.saturating_sub.ensures c.in_ok-found.found c.in_ok-found.ensures
