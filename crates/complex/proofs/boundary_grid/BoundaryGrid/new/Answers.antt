-- The lists that were used are those of the definitions.
use Rattle.std.proofs.Common.{rules}
use Rattle.complex.proofs.Usable.{of_surveys}
use Rattle.complex.proofs.boundary_grid.BoundaryGrid.new.Goals as goal

pub returns-clause-survey : goal.returns-clause-survey
returns-clause-survey c = of_surveys _ _ _ _ _ (search rules)
