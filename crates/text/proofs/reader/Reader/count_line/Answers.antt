-- Each part of the line was read where the one before ends.
use Rattle.text.proofs.Counting.{count_read}
use Rattle.text.proofs.reader.Reader.count_line.Goals as goal

pub returns : goal.returns
returns c =
    count_read c.args.self.now c.letter.new.self c.number.new.self c.line_end.new.self _ c.in_ok-letter.ensures c.in_ok-count.ensures c.in_ok-line_end.ensures
    c.new.result c.new.ensures
