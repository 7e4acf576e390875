-- The theorem, as it is proved in `Unique`.
use Rattle.homology.proofs.one_separator.Goals as goal
use Rattle.homology.proofs.Unique.{only_separator}

abbrev pub returns : goal.returns
returns c = only_separator
