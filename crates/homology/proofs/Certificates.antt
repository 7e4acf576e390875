-- The certificate of a survey is published, decides whether there is a filling, and is the only published one.
use Rattle.std.proofs.Common.{◌≡◌, ℕ, ◌+◌, ◌-◌, Bool, true, false, cond, ◌&&◌, eqb, get_or, refl}
use Rattle.std.proofs.lemmas.Bool.{eqb-true, eqb-false, cond_both}
use Rattle.field.specs.Arithmetic.{Arithmetic, FieldLaws, Code}
use Rattle.field.proofs.Elements.{zero_code, one_code}
use Rattle.survey.specs.declared.edge.Edge.{Edge}
use Rattle.survey.specs.declared.edge.Triangle.{Triangle}
use Rattle.survey.specs.Surveys.{Survey, Sensors, edges, triangles, steps}
use Rattle.complex.specs.Systems.{System}
use Rattle.complex.specs.Boundaries.{has_step_of, no_edge, no_triangle, fence_entry, boundary_entry, system}
use Rattle.homology.specs.Linear.{Agree, CodedSystem, GivenSolution, GivenSeparator}
use Rattle.homology.specs.Reduction.{low, reduction}
use Rattle.homology.specs.Certificate.{certificate, Published, vector, filling_codes, block_codes}
use Rattle.homology.specs.Theorems.{Answered, CertificatePublished, CertificateDecides, OnePublished}
use Rattle.homology.proofs.Separation.{block_excludes_filling_lem}
use Rattle.homology.proofs.Unique.{only_solution, only_separator}
use Rattle.homology.proofs.ReadOff.{reduction_answers_lem}

-- every entry of a survey's system is 1, -1 or 0
module _ (F : Arithmetic) (f : FieldLaws F) where
  pub boundary_is_code : (t : Triangle) (e : Edge) → Code F (boundary_entry F t e)
  boundary_is_code t e =
      cond_both (eqb e.a t.b && eqb e.b t.c) 1 _ (Code F) (λ _. one_code F f)
      (λ _. cond_both (eqb e.a t.a && eqb e.b t.c) (F.negative 1) _ (Code F) (λ _. f.negative_code 1)
      (λ _. cond_both (eqb e.a t.a && eqb e.b t.b) 1 0 (Code F) (λ _. one_code F f) (λ _. zero_code F f)))

  pub fence_is_code : (s : Survey) (e : Edge) → Code F (fence_entry F s.fence e)
  fence_is_code s e =
      cond_both (has_step_of e.a e.b (steps s.fence)) 1 _ (Code F) (λ _. one_code F f)
      (λ _. cond_both (has_step_of e.b e.a (steps s.fence)) (F.negative 1) 0 (Code F) (λ _. f.negative_code 1) (λ _. zero_code F f))

  pub survey_coded : (s : Survey) (on : Sensors) → CodedSystem F (system s on F)
  survey_coded s on = record {
    entries = λ r t _ _ _ _. boundary_is_code (get_or (triangles s on) (t - 1) no_triangle) (get_or (edges s on) (r - 1) no_edge);
    aims = λ r _ _. fence_is_code s (get_or (edges s on) (r - 1) no_edge);
  }

module _ (s : Survey) (on : Sensors) (F : Arithmetic) (f : FieldLaws F) where
  abbrev S : System
  S = system s on F

  -- the low of the last column
  abbrev last : ℕ
  last = low S.rows (reduction F S).matrix (S.columns + 1)

  answered : Answered F S
  answered = reduction_answers_lem F f S (survey_coded F f s on)

  published : Published s on F (certificate s on F)
  published = go (eqb last 0) refl
    where
      go : (b : Bool) → eqb last 0 ≡ b
          → let codes = cond b (filling_codes F S.rows S.columns (reduction F S).matrix) (block_codes F S.rows S.columns (reduction F S).matrix) in
          cond b (GivenSolution F S (vector codes)) (GivenSeparator F S (vector codes))
      go true e = answered.filling (eqb-true last 0 e)
      go false e = answered.block (eqb-false last 0 e)

pub certificate_published_lem : CertificatePublished
certificate_published_lem s on F f = published s on F f

pub certificate_decides_lem : CertificateDecides
certificate_decides_lem s on F f = (
  (λ e. (_, ((answered s on F f).filling (eqb-true (last s on F f) 0 e)).solves)),
  λ e h. block_excludes_filling_lem F f (system s on F) h.0 _ h.1 ((answered s on F f).block (eqb-false (last s on F f) 0 e)).separates,
)

-- a filling and a block exclude each other, and there is one of each kind
pub one_published_lem : OnePublished
one_published_lem s on F f c e p q = go c.filled e.filled p q
  where
    go : (a b : Bool) → cond a (GivenSolution F (system s on F) (vector c.codes)) (GivenSeparator F (system s on F) (vector c.codes))
        → cond b (GivenSolution F (system s on F) (vector e.codes)) (GivenSeparator F (system s on F) (vector e.codes))
        → (a ≡ b) × Agree (cond a (system s on F).columns (system s on F).rows) (vector c.codes) (vector e.codes)
    go true true p q = (refl, only_solution F f (system s on F) (survey_coded F f s on) (vector c.codes) (vector e.codes) p q)
    go false false p q = (refl, only_separator F f (system s on F) (survey_coded F f s on) (vector c.codes) (vector e.codes) p q)
    go true false p q = absurd (block_excludes_filling_lem F f (system s on F) (vector c.codes) (vector e.codes) p.solves q.separates)
    go false true p q = absurd (block_excludes_filling_lem F f (system s on F) (vector e.codes) (vector c.codes) q.solves p.separates)
