-- The bytes that the shape takes are there exactly if its bits are, and empty bytes are a matrix of zeros.
use Rattle.std.proofs.Common.{◌≡◌, ◌*◌, length, take, drop, sym, refl, ap, ◌∙◌, arith, length-append, length-take, length-drop}
use Rattle.matrix.specs.Matrix.{blank}
use Rattle.matrix.specs.Terms.{left_by}
use Rattle.matrix.proofs.Layouts.{cleared}
use Rattle.stores.specs.Widths.{bits_of}
use Rattle.stores.specs.Packed.{bytes_for}
use Rattle.stores.specs.Dense.{matrix_of}
use Rattle.stores.proofs.Widths.{whole, bytes_hold}
use Rattle.stores.proofs.Begins.{begin_refused, begin_accepted, packed_blank, packed_count}
use Rattle.stores.proofs.dense.DenseStore.begin.Goals as goal

pub returns-then-wanted-self-clause-answer : goal.returns-then-wanted-self-clause-answer
returns-then-wanted-self-clause-answer c =
    let d = c.args.self.now in
    sym (begin_refused (bits_of d.width) (length d.bytes.now) c.args.rows c.args.columns (whole d.width) (omega (arith, c.bytes_of-wanted.ensures)))

pub returns-then-wanted-self-clause-after : goal.returns-then-wanted-self-clause-after
returns-then-wanted-self-clause-after c =
    let d = c.args.self.now in
    sym (ap (λ x. left_by x (blank c.args.rows c.args.columns) (matrix_of d.width d.shape d.bytes.now))
    (begin_refused (bits_of d.width) (length d.bytes.now) c.args.rows c.args.columns (whole d.width) (omega (arith, c.bytes_of-wanted.ensures))))

pub invariant_of-self : goal.invariant_of-self
invariant_of-self c =
    let d = c.args.self.now in
    let n = c.bytes_of-wanted.result in
    let long : length (take n d.bytes.now) ≡ n = omega (arith, length-take n d.bytes.now, c.if-wanted-self.false) in
    let empty = cleared c.fill.new.self (drop n d.bytes.now) n (bytes_for (bits_of d.width) (c.args.rows * c.args.columns)) (c.fill.ensures.len ∙ long) c.bytes_of-wanted.ensures (λ i k l. c.fill.ensures.clones i k (omega (arith, long)) refl) in
    record {
      fits = bytes_hold (bits_of d.width) (c.args.rows * c.args.columns) _ (whole d.width) (omega (arith, c.bytes_of-wanted.ensures, c.if-wanted-self.false, length-append c.fill.new.self (drop n d.bytes.now), c.fill.ensures.len, long, length-drop n d.bytes.now));
      counted = packed_count (bits_of d.width) c.args.rows c.args.columns _ (whole d.width) empty;
    }

pub returns-clause-answer : goal.returns-clause-answer
returns-clause-answer c =
    let d = c.args.self.now in
    sym (begin_accepted (bits_of d.width) (length d.bytes.now) c.args.rows c.args.columns (whole d.width) (omega (arith, c.bytes_of-wanted.ensures)))

pub returns-clause-after : goal.returns-clause-after
returns-clause-after c =
    let d = c.args.self.now in
    let n = c.bytes_of-wanted.result in
    let long : length (take n d.bytes.now) ≡ n = omega (arith, length-take n d.bytes.now, c.if-wanted-self.false) in
    let empty = cleared c.fill.new.self (drop n d.bytes.now) n (bytes_for (bits_of d.width) (c.args.rows * c.args.columns)) (c.fill.ensures.len ∙ long) c.bytes_of-wanted.ensures (λ i k l. c.fill.ensures.clones i k (omega (arith, long)) refl) in
    packed_blank (bits_of d.width) c.args.rows c.args.columns _ (whole d.width) empty
    ∙ sym (ap (λ x. left_by x (blank c.args.rows c.args.columns) (matrix_of d.width d.shape d.bytes.now))
    (begin_accepted (bits_of d.width) (length d.bytes.now) c.args.rows c.args.columns (whole d.width) (omega (arith, c.bytes_of-wanted.ensures))))
