-- One number more is read.
use Rattle.std.proofs.Common.{rules}
use Rattle.text.proofs.Lists.{fits_push, listing_more}
use Rattle.text.proofs.reader.Reader.list.Goals as goal

pub loop-value-preserved : goal.loop-value-preserved
loop-value-preserved c =
    listing_more c.in-Some-Number.value c.loop-value.invariant (search rules) (search rules) (fits_push c.loop-value.fits _ _ _ _ c.push-fits.ensures.answer)
