-- Shown in `Ascents`.
use Rattle.complex.proofs.Ascents.{listings_ascend_lem}
use Rattle.complex.proofs.theorems.listings_ascend.Goals as goal

pub returns : goal.returns
returns c = listings_ascend_lem
