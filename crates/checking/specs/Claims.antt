-- What a check of claimed codes comes to.
use Rattle.std.specs.Prelude.{ℕ, Bool, cond, not, ◌&&◌, List, length, take, ◌==◌, nat_le, nat_lt}
use Rattle.std.specs.List.{list_any}
use Rattle.refusal.specs.declared.Refusal.TheVariants.{TooShort, NotACode}
use Rattle.refusal.specs.Numbers.{number_of}
use Rattle.refusal.specs.Outcomes.{Outcome, accepted, refused}
use Rattle.field.specs.Arithmetic.{Arithmetic}
use Rattle.survey.specs.Surveys.{Survey, Sensors}
use Rattle.complex.specs.Boundaries.{system}
use Rattle.complex.specs.Systems.{Vector, System}
use Rattle.homology.specs.Certificate.{vector}
use Rattle.homology.specs.declared.kind.Kind.{Kind}
use Rattle.homology.specs.declared.kind.Kind.TheVariants.{Filling, Block}
use Rattle.checking.specs.Equations.{solves, separates}

-- is one of them not below the field's order?
abbrev pub has_outside_of : Arithmetic → List ℕ → Bool
has_outside_of F = list_any (λ c. nat_le F.order c)

-- is one of them not 0?
abbrev pub has_nonzero_of : List ℕ → Bool
has_nonzero_of = list_any (λ c. not (c == 0))

-- how many codes a claim takes: one for each triangle, or one for each edge
abbrev pub size : Kind → ℕ → ℕ → ℕ
size Filling edges triangles = triangles
size Block edges triangles = edges

-- the codes that a claim takes from the front of a list
abbrev pub claimed : System → Kind → List ℕ → List ℕ
claimed S claim codes = take (size claim S.rows S.columns) codes

abbrev pub forms : Arithmetic → System → Kind → Vector → Bool
forms F S Filling x = solves F S x
forms F S Block y = separates F S y

-- Too few codes are refused, then one that is none. A list of zeros is answered by no. Places beyond the claim's are not looked at.
abbrev pub verdict : Arithmetic → System → Kind → List ℕ → Outcome Bool
verdict F S claim codes =
    let front = claimed S claim codes in
    cond (nat_lt (length codes) (size claim S.rows S.columns)) (refused (number_of TooShort))
    (cond (has_outside_of F front) (refused (number_of NotACode))
    (accepted (has_nonzero_of front && forms F S claim (vector front))))

-- for the sensors of a survey that are on
abbrev pub checked : Survey → Sensors → Arithmetic → Kind → List ℕ → Outcome Bool
checked s on F = verdict F (system s on F)
