-- The theorem, as it is proved in `Certificates`.
use Rattle.homology.proofs.one_published.Goals as goal
use Rattle.homology.proofs.Certificates.{one_published_lem}

abbrev pub returns : goal.returns
returns c = one_published_lem
