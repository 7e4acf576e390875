-- The equations of a system, read off its starting matrix.
use Rattle.std.proofs.Common.{◌≡◌, ℕ, suc, ◌+◌, ◌≤◌, true, cond, ◌&&◌, eqb, ltb, List, length, take, refl, ap, ◌∙◌, ap₂, arith}
use Rattle.std.proofs.lemmas.Bool.{and_from, le-leb, cond-true}
use Rattle.refusal.specs.declared.Refusal.TheVariants.{TooShort, NotACode}
use Rattle.refusal.specs.Numbers.{number_of}
use Rattle.refusal.specs.Outcomes.{accepted, refused}
use Rattle.field.specs.Arithmetic.{Arithmetic, FieldLaws}
use Rattle.matrix.specs.Matrix.{Matrix}
use Rattle.survey.specs.declared.edge.Edge.{Edge}
use Rattle.survey.specs.declared.edge.Triangle.{Triangle}
use Rattle.survey.specs.Surveys.{Survey, Sensors, edges, triangles, everyone}
use Rattle.complex.specs.Boundaries.{listed_system, system}
use Rattle.complex.specs.Grids.{usable_edges_of, usable_triangles_of}
use Rattle.complex.specs.Orders.{ascends, edge_less}
use Rattle.complex.proofs.Ascents.{listings_ascend_lem}
use Rattle.complex.specs.Systems.{Vector, System, starting, starting_matrix}
use Rattle.homology.specs.Certificate.{vector}
use Rattle.homology.proofs.Columns.{starting_entry, starting_target}
use Rattle.homology.proofs.Totals.{total_same}
use Rattle.homology.specs.declared.kind.Kind.{Kind}
use Rattle.homology.specs.declared.kind.Kind.TheVariants.{Filling, Block}
use Rattle.checking.specs.Claims.{has_outside_of, has_nonzero_of, size, forms, verdict}
use Rattle.checking.specs.Equations.{solves, separates, system_in}
use Rattle.checking.proofs.Agreeing.{agree_same}
use Rattle.checking.proofs.Tables.{few_edges, few_triangles}

module _ (F : Arithmetic) (f : FieldLaws F) (S : System) where
  target_at : (r : ℕ) → 1 ≤ r → r ≤ S.rows → starting S r (S.columns + 1) ≡ S.target r
  target_at r l m = let next : S.columns + 1 ≡ suc S.columns = omega arith in ap (starting S r) next ∙ starting_target S r l m

  solves_starting : (x : Vector) → solves F (system_in S.rows S.columns (starting_matrix S)) x ≡ solves F S x
  solves_starting x =
      agree_same S.rows _ _ _ _ (λ r l m. total_same F f S.columns _ _ (λ t a b. ap (F.product (x t)) (starting_entry S r t l m a b))) target_at

  separates_starting : (y : Vector) → separates F (system_in S.rows S.columns (starting_matrix S)) y ≡ separates F S y
  separates_starting y =
      ap₂ ◌&&◌ (agree_same S.columns _ _ _ _ (λ t a b. total_same F f S.rows _ _ (λ r l m. ap (F.product (y r)) (starting_entry S r t l m a b))) (λ t a b. refl))
      (ap (λ n. eqb n 1) (total_same F f S.rows _ _ (λ r l m. ap (F.product (y r)) (target_at r l m))))

  forms_starting : (claim : Kind) (x : Vector) → forms F (system_in S.rows S.columns (starting_matrix S)) claim x ≡ forms F S claim x
  forms_starting Filling x = solves_starting x
  forms_starting Block y = separates_starting y

  pub verdict_starting : (claim : Kind) (codes : List ℕ) → verdict F (system_in S.rows S.columns (starting_matrix S)) claim codes ≡ verdict F S claim codes
  verdict_starting claim codes =
      let front = take (size claim S.rows S.columns) codes in
      ap (λ b. cond (ltb (length codes) (size claim S.rows S.columns)) (refused (number_of TooShort))
      (cond (has_outside_of F front) (refused (number_of NotACode)) (accepted (has_nonzero_of front && b))))
      (forms_starting claim (vector front))

-- a grid uses lists that ascend and are short enough
pub starting_usable : (minus code : ℕ) (es : List Edge) (ts : List Triangle) (fence : List ℕ) (m : Matrix)
    → length es ≤ 512 → length ts ≤ 1024 → ascends edge_less es ≡ true → code ≡ minus
    → m ≡ starting_matrix (listed_system code (usable_edges_of es) (usable_triangles_of ts) fence) → m ≡ starting_matrix (listed_system minus es ts fence)
starting_usable minus code es ts fence m short_edges short_triangles rising same holds =
    holds
    ∙ ap (λ k. starting_matrix (listed_system k (usable_edges_of es) (usable_triangles_of ts) fence)) same
    ∙ ap₂ (λ us vs. starting_matrix (listed_system minus us vs fence))
    (cond-true _ _ _ (and_from _ _ (le-leb _ _ short_edges) rising)) (cond-true _ _ _ (le-leb _ _ short_triangles))

-- a grid of a survey's lists holds its starting matrix
pub starting_surveyed : (s : Survey) (on : Sensors) (F : Arithmetic) → length (edges s everyone) ≤ 512 → length (triangles s everyone) ≤ 1024
    → (es : List Edge) (ts : List Triangle) (fence : List ℕ) (minus : ℕ) (m : Matrix)
    → es ≡ edges s on → ts ≡ triangles s on → fence ≡ s.fence → minus ≡ F.negative 1
    → m ≡ starting_matrix (listed_system minus (usable_edges_of es) (usable_triangles_of ts) fence) → m ≡ starting_matrix (system s on F)
starting_surveyed s on F links thirds es ts fence minus m e t f n holds =
    let of_survey : m ≡ starting_matrix (listed_system minus (usable_edges_of (edges s on)) (usable_triangles_of (triangles s on)) s.fence)
    = holds ∙ (λ i. starting_matrix (listed_system minus (usable_edges_of (e i)) (usable_triangles_of (t i)) (f i))) in
    starting_usable (F.negative 1) minus (edges s on) (triangles s on) s.fence m (few_edges s on links) (few_triangles s on thirds) (listings_ascend_lem s on).0 n of_survey
