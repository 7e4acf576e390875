-- What an answer of the check says of fillings and blocks.
use Rattle.std.specs.Prelude.{◌≡◌, ℕ, ◌≤◌, true, false, List, length}
use Rattle.refusal.specs.Outcomes.{accepted}
use Rattle.field.specs.Arithmetic.{Arithmetic, FieldLaws}
use Rattle.survey.specs.Sets.{KeepsFence}
use Rattle.survey.specs.Surveys.{Survey, Sensors, Valid}
use Rattle.complex.specs.Boundaries.{system}
use Rattle.complex.specs.Systems.{Vector, System}
use Rattle.homology.specs.Certificate.{vector}
use Rattle.homology.specs.Linear.{Solution, Separator}
use Rattle.homology.specs.declared.kind.Kind.{Kind}
use Rattle.homology.specs.declared.kind.Kind.TheVariants.{Filling, Block}
use Rattle.checking.specs.Claims.{has_nonzero_of, size, claimed, checked}

-- what is claimed: a solution of the system, or a separator
abbrev pub Forms : Arithmetic → System → Kind → Vector → Type 0
Forms F S Filling x = Solution F S x
Forms F S Block y = Separator F S y

module _ (s : Survey) (on : Sensors) (F : Arithmetic) (claim : Kind) (codes : List ℕ) where
  -- the codes form the filling or the block that is claimed
  abbrev pub Formed : Type 0
  Formed = Forms F (system s on F) claim (vector (claimed (system s on F) claim codes))

  pub record Decided : Type 0 where
    pub yes : checked s on F claim codes ≡ accepted true → Formed
    -- a list of zeros is answered by no in any case
    pub no : checked s on F claim codes ≡ accepted false → has_nonzero_of (claimed (system s on F) claim codes) ≡ true → Formed → ⊥
    -- where the fence is on, zeros form nothing, and codes are answered by yes exactly if they form what is claimed
    pub no_fenced : Valid s → KeepsFence s on → checked s on F claim codes ≡ accepted false → Formed → ⊥
    pub all_fenced : Valid s → KeepsFence s on → size claim (system s on F).rows (system s on F).columns ≤ length codes → Formed
        → checked s on F claim codes ≡ accepted true

abbrev pub CheckDecides : Type 0
CheckDecides = (s : Survey) (on : Sensors) (F : Arithmetic) → FieldLaws F → (claim : Kind) (codes : List ℕ) → Decided s on F claim codes
