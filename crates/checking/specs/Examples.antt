-- Claims for the hub, checked by computation: four corners in a ring and a fifth sensor that is linked to each.
use Rattle.std.specs.Prelude.{◌≡◌, true, false, [], ◌∷◌}
use Rattle.refusal.specs.declared.Refusal.TheVariants.{TooShort, NotACode}
use Rattle.refusal.specs.Numbers.{number_of}
use Rattle.refusal.specs.Outcomes.{accepted, refused}
use Rattle.field.specs.Residues.{prime_field}
use Rattle.survey.specs.Surveys.{everyone}
use Rattle.homology.specs.Examples.{hub, corners}
use Rattle.homology.specs.declared.kind.Kind.TheVariants.{Filling, Block}
use Rattle.checking.specs.Claims.{checked}

pub record HubChecks : Type 0 where
  pub filling : checked hub everyone (prime_field 3) Filling (1 ∷ 2 ∷ 1 ∷ 1 ∷ []) ≡ accepted true
  pub sign_lost : checked hub everyone (prime_field 3) Filling (1 ∷ 1 ∷ 1 ∷ 1 ∷ []) ≡ accepted false
  pub zeros : checked hub everyone (prime_field 3) Filling (0 ∷ 0 ∷ 0 ∷ 0 ∷ []) ≡ accepted false
  pub short : checked hub everyone (prime_field 3) Filling (1 ∷ 2 ∷ 1 ∷ []) ≡ refused (number_of TooShort)
  pub outside : checked hub everyone (prime_field 3) Filling (1 ∷ 2 ∷ 1 ∷ 4 ∷ []) ≡ refused (number_of NotACode)
  pub beyond : checked hub everyone (prime_field 3) Filling (1 ∷ 2 ∷ 1 ∷ 1 ∷ 4 ∷ []) ≡ accepted true
  -- with the fifth off there are no triangles, and any value that is 1 round the fence is a block
  pub block : checked hub corners (prime_field 3) Block (0 ∷ 0 ∷ 0 ∷ 1 ∷ []) ≡ accepted true
  pub other_block : checked hub corners (prime_field 3) Block (2 ∷ 1 ∷ 0 ∷ 0 ∷ []) ≡ accepted true
  pub no_block : checked hub corners (prime_field 3) Block (1 ∷ 1 ∷ 0 ∷ 0 ∷ []) ≡ accepted false
  pub no_triangle : checked hub corners (prime_field 3) Filling [] ≡ accepted false
