-- By computation.
use Rattle.std.proofs.Common.{refl}
use Rattle.checking.proofs.hub_checked.Goals as goal

pub returns : goal.returns
returns c = record {
  filling = refl;
  sign_lost = refl;
  zeros = refl;
  short = refl;
  outside = refl;
  beyond = refl;
  block = refl;
  other_block = refl;
  no_block = refl;
  no_triangle = refl;
}
