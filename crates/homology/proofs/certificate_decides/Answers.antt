-- The theorem, as it is proved in `Certificates`.
use Rattle.homology.proofs.certificate_decides.Goals as goal
use Rattle.homology.proofs.Certificates.{certificate_decides_lem}

abbrev pub returns : goal.returns
returns c = certificate_decides_lem
