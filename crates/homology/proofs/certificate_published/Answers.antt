-- The theorem, as it is proved in `Certificates`.
use Rattle.homology.proofs.certificate_published.Goals as goal
use Rattle.homology.proofs.Certificates.{certificate_published_lem}

abbrev pub returns : goal.returns
returns c = certificate_published_lem
