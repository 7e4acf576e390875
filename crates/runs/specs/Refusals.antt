-- The refusals of off, on, certify and thin, in the order in which they are given.
use Rattle.std.specs.Prelude.{ℕ, ◌+◌, max, Bool, cond, not, ◌&&◌, List, [], ◌∷◌, length, Some, None, Option, nat_le}
use Rattle.refusal.specs.declared.Refusal.TheVariants.{ShapeNotTaken, StoreFull, TooShort, FieldTooLarge, NoSuchSensor, FenceSensor, AlreadySo}
use Rattle.refusal.specs.Numbers.{number_of}
use Rattle.refusal.specs.Outcomes.{Outcome, refused}
use Rattle.field.specs.Arithmetic.{Arithmetic}
use Rattle.matrix.specs.Terms.{Terms}
use Rattle.survey.specs.Lists.{gather}
use Rattle.survey.specs.Sets.{all_of, fenced}
use Rattle.survey.specs.Surveys.{Survey, Sensors, sensors, edges, triangles}
use Rattle.complex.specs.Boundaries.{system}
use Rattle.homology.specs.Reduction.{peak}

-- places in the lists that a call brings
pub record Room : Type 0 where
  pub edges : ℕ
  pub triangles : ℕ
  pub codes : ℕ
  pub drops : ℕ

-- the refusal, where there is one
abbrev pub unless : {A : Type 0} → Option ℕ → Outcome A → Outcome A
unless None o = o
unless (Some k) o = refused k

module _ (s : Survey) where
  -- those that thinning may drop: on, and not on the fence
  abbrev pub candidates : Sensors → Sensors
  candidates on x = on x && not (fenced s x)

  -- the sensors of the survey that are in a set, rising
  abbrev pub sensors_in : Sensors → List ℕ
  sensors_in p = gather (λ x. cond (p x) (x ∷ []) []) (sensors s)

  abbrev pub how_many : Sensors → ℕ
  how_many p = length (sensors_in p)

  -- the places that certify and thin need
  abbrev pub needed : Sensors → Room
  needed on =
      let E = length (edges s on) in let T = length (triangles s on) in
      record { edges = E; triangles = T; codes = max E T; drops = how_many (candidates on) }

  -- are there as many as certify needs?
  abbrev pub fits : Sensors → Room → Bool
  fits on L =
      let N = needed on in nat_le N.edges L.edges && nat_le N.triangles L.triangles && nat_le N.codes L.codes

  abbrev pub off_refusal : Sensors → ℕ → Option ℕ
  off_refusal on x =
      cond (all_of s x)
      (cond (fenced s x) (Some (number_of FenceSensor))
      (cond (on x) None (Some (number_of AlreadySo))))
      (Some (number_of NoSuchSensor))

  abbrev pub on_refusal : Sensors → ℕ → Option ℕ
  on_refusal on x =
      cond (all_of s x)
      (cond (on x) (Some (number_of AlreadySo)) None)
      (Some (number_of NoSuchSensor))

  module _ (F : Arithmetic) (K : Terms) where
    -- what a store with these terms refuses in a certify with the sensors `on`: the shape, or one of the puts
    abbrev pub store_refusal : Sensors → Option ℕ
    store_refusal on =
        let S = system s on F in
        let R = S.rows + S.columns in let C = S.columns + 1 in
        cond (K.takes R C)
        (cond (nat_le (peak F S) (K.limit R C)) None (Some (number_of StoreFull)))
        (Some (number_of ShapeNotTaken))

    abbrev pub certify_refusal : Sensors → Room → Option ℕ
    certify_refusal on L =
        cond (fits on L)
        (cond (nat_le F.order K.bound) (store_refusal on) (Some (number_of FieldTooLarge)))
        (Some (number_of TooShort))

    -- of thin, up to its first certify
    abbrev pub early_refusal : Sensors → Room → Option ℕ
    early_refusal on L = cond (nat_le (needed on).drops L.drops) (certify_refusal on L) (Some (number_of TooShort))
