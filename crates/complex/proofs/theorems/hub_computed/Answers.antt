-- The definitions compute.
use Rattle.std.proofs.Common.{refl, ap, ◌∙◌}
use Rattle.survey.specs.Surveys.{edges, triangles, everyone}
use Rattle.complex.specs.Boundaries.{listed_system}
use Rattle.complex.specs.Hub.{hub, nonzeros, HubEntries}
use Rattle.complex.specs.Systems.{starting_matrix}
use Rattle.complex.proofs.theorems.hub_computed.Goals as goal

entries : HubEntries
entries F m e = ap (λ minus. nonzeros (starting_matrix (listed_system minus (edges hub everyone) (triangles hub everyone) hub.fence))) e ∙ refl

pub returns : goal.returns
returns c = record { edges = refl; triangles = refl; entries = entries }
