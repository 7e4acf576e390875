-- The edges and triangles of a survey, listed in tables that have room for all of them.
use Rattle.std.proofs.Common.{◌≡◌, ℕ, ◌≤◌, List, length, refl, ◌∙◌, arith}
use Rattle.std.proofs.lemmas.Bool.{cond-true, le-leb}
use Rattle.refusal.specs.Outcomes.{Outcome, accepted, refused}
use Rattle.refusal.proofs.Outcomes.{refused_accepted, same_from_accepted}
use Rattle.survey.specs.Surveys.{Survey, Sensors, edges, triangles, everyone}
use Rattle.complex.specs.Listings.{listing}
use Rattle.complex.proofs.Sublists.{length_sublist, monotone}

-- with fewer sensors on there are no more of them
module _ (s : Survey) (on : Sensors) where
  pub few_edges : length (edges s everyone) ≤ 512 → length (edges s on) ≤ 512
  few_edges h = let fewer = length_sublist _ _ (monotone s on everyone (λ x _. refl)).0 in omega arith

  pub few_triangles : length (triangles s everyone) ≤ 1024 → length (triangles s on) ≤ 1024
  few_triangles h = let fewer = length_sublist _ _ (monotone s on everyone (λ x _. refl)).1 in omega arith

-- a listing into a table that has room for all
module _ {X : Type 0} (all room : List X) (fits : length all ≤ length room) where
  pub never_refused : (k : ℕ) → ◌≡◌ {A = Outcome ℕ} (refused k) (listing all room) → ⊥
  never_refused k e = refused_accepted (e ∙ cond-true _ _ _ (le-leb _ _ fits))

  pub all_counted : (n : ℕ) → accepted n ≡ listing all room → n ≡ length all
  all_counted n e = same_from_accepted (e ∙ cond-true _ _ _ (le-leb _ _ fits))
