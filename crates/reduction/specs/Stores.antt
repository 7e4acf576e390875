-- What no call changes of a store.
use Rattle.std.specs.Prelude.{◌≡◌}
use Rattle.matrix.specs.Terms.{Terms, Backing}

-- its terms, and the stores that it lies upon
pub record Stays {S : Type 0} (terms : S → Terms) (backing : S → Backing) (old new : S) : Type 0 where
  pub terms_stay : terms new ≡ terms old
  pub backing_stays : backing new ≡ backing old
