-- A grid can use the lists of a survey: there are few enough, and they ascend.
use Rattle.std.proofs.Common.{◌≡◌, ℕ, List, length, refl, ap, ◌∙◌, arith}
use Rattle.std.proofs.lemmas.Bool.{and_from, le-leb, cond-true}
use Rattle.matrix.specs.Matrix.{Matrix}
use Rattle.survey.specs.declared.edge.Edge.{Edge}
use Rattle.survey.specs.declared.edge.Triangle.{Triangle}
use Rattle.survey.specs.Surveys.{Survey, Sensors, Valid, edges, triangles, everyone}
use Rattle.complex.specs.Boundaries.{listed_system}
use Rattle.complex.specs.Grids.{usable_edges_of, usable_triangles_of, OfSurveys}
use Rattle.complex.specs.Systems.{starting_matrix}
use Rattle.complex.proofs.Ascents.{listings_ascend_lem}
use Rattle.complex.proofs.Sublists.{length_sublist, monotone}

module _ (s : Survey) (on : Sensors) (valid : Valid s) where
  edges_usable : usable_edges_of (edges s on) ≡ edges s on
  edges_usable =
      let most = valid.few_links in
      let fewer = length_sublist _ _ (monotone s on everyone (λ x h. refl)).0 in
      cond-true _ _ _ (and_from _ _ (le-leb (length (edges s on)) 512 (omega arith)) (listings_ascend_lem s on).0)

  triangles_usable : usable_triangles_of (triangles s on) ≡ triangles s on
  triangles_usable =
      let most = valid.few_triangles in
      let fewer = length_sublist _ _ (monotone s on everyone (λ x h. refl)).1 in
      cond-true _ _ _ (le-leb (length (triangles s on)) 1024 (omega arith))

pub of_surveys : (es : List Edge) (ts : List Triangle) (fence : List ℕ) (minus : ℕ) (m : Matrix)
    → m ≡ starting_matrix (listed_system minus (usable_edges_of es) (usable_triangles_of ts) fence) → OfSurveys es ts fence minus m
of_surveys es ts fence minus m e s on F valid ee et ef em =
    e
    ∙ ap (λ l. starting_matrix (listed_system minus l (usable_triangles_of ts) fence)) (ap usable_edges_of ee ∙ edges_usable s on valid)
    ∙ ap (λ l. starting_matrix (listed_system minus (edges s on) l fence)) (ap usable_triangles_of et ∙ triangles_usable s on valid)
    ∙ ap (λ l. starting_matrix (listed_system minus (edges s on) (triangles s on) l)) ef
    ∙ ap (λ k. starting_matrix (listed_system k (edges s on) (triangles s on) s.fence)) em
