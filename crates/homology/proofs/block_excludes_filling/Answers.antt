-- The theorem, as it is proved in `Separation`.
use Rattle.homology.proofs.block_excludes_filling.Goals as goal
use Rattle.homology.proofs.Separation.{block_excludes_filling_lem}

abbrev pub returns : goal.returns
returns c = block_excludes_filling_lem
