-- A slice of the buffer is set.
use Rattle.std.proofs.Common.{◌≡◌, ◌-◌, ◌+◌, length, arith, rules}
use Rattle.text.proofs.Writing.{put_sets}
use Rattle.text.proofs.write.Writer.put.Goals as goal

pub returns : goal.returns
returns c =
    let bytes = c.args.bytes.now in
    let at = c.args.self.now.at in
    let k : at + length bytes - at ≡ length bytes = omega arith in
    record {
      same = search rules;
      after = rw c.copy_from_slice.ensures.after (put_sets c.args.self.now.out.now bytes at _ k c.requires);
      place = search rules;
    }
