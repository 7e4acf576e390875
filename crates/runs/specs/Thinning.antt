-- Thinning: each candidate in turn, as the order picks, is dropped exactly if a filling remains without it.
use Rattle.std.specs.Prelude.{◌≡◌, ℕ, zero, suc, cond, List, [], ◌∷◌, ◌++◌, Some, None}
use Rattle.refusal.specs.Outcomes.{Outcome, accepted, refused}
use Rattle.field.specs.Arithmetic.{Arithmetic}
use Rattle.matrix.specs.Terms.{Terms}
use Rattle.survey.specs.Sets.{leaving}
use Rattle.survey.specs.Surveys.{Survey, Sensors}
use Rattle.orders.specs.Orders.{Order}
use Rattle.homology.specs.Certificate.{HasFilling, certificate}
use Rattle.runs.specs.Refusals.{unless, how_many, store_refusal}

-- the sensors that were dropped, first to last, and those that are on then
pub record Dropping : Type 0 where
  pub dropped : List ℕ
  pub last : Sensors

-- those of the list were dropped before
abbrev pub dropping : List ℕ → Outcome Dropping → Outcome Dropping
dropping xs (accepted d) = accepted (record { dropped = xs ++ d.dropped; last = d.last })
dropping xs (refused k) = refused k

module _ (s : Survey) (F : Arithmetic) (K : Terms) (O : Order s) where
  -- From the sensors untried and those on: which are dropped, and which are on at the end. A trial is a certify, so the
  -- store may refuse it, and at the end certify works once more.
  pub data Thinning : Sensors → Sensors → List ℕ → Sensors → Type 0 where
    finished : (untried on : Sensors) → O.pick untried ≡ None → store_refusal s F K on ≡ None → Thinning untried on [] on
    drops : (untried on : Sensors) (x : ℕ) (more : List ℕ) (last : Sensors) → O.pick untried ≡ Some x
        → store_refusal s F K (leaving x on) ≡ None → HasFilling s (leaving x on) F
        → Thinning (leaving x untried) (leaving x on) more last → Thinning untried on (x ∷ more) last
    keeps : (untried on : Sensors) (x : ℕ) (more : List ℕ) (last : Sensors) → O.pick untried ≡ Some x
        → store_refusal s F K (leaving x on) ≡ None → (HasFilling s (leaving x on) F → ⊥)
        → Thinning (leaving x untried) on more last → Thinning untried on more last

  -- the store refuses a certify with k
  pub data Stopped (k : ℕ) : Sensors → Sensors → Type 0 where
    at_end : (untried on : Sensors) → O.pick untried ≡ None → store_refusal s F K on ≡ Some k → Stopped k untried on
    at_trial : (untried on : Sensors) (x : ℕ) → O.pick untried ≡ Some x → store_refusal s F K (leaving x on) ≡ Some k → Stopped k untried on
    past_drop : (untried on : Sensors) (x : ℕ) → O.pick untried ≡ Some x → store_refusal s F K (leaving x on) ≡ None
        → HasFilling s (leaving x on) F → Stopped k (leaving x untried) (leaving x on) → Stopped k untried on
    past_keep : (untried on : Sensors) (x : ℕ) → O.pick untried ≡ Some x → store_refusal s F K (leaving x on) ≡ None
        → (HasFilling s (leaving x on) F → ⊥) → Stopped k (leaving x untried) on → Stopped k untried on

-- The same, worked out: whether a filling remains is what the certificate says.
module _ (s : Survey) (F : Arithmetic) (K : Terms) where
  -- the certify at the end
  abbrev pub ending : Sensors → Outcome Dropping
  ending on = unless (store_refusal s F K on) (accepted (record { dropped = []; last = on }))

  -- the trial of x: what it comes to where x is dropped, and where it stays
  abbrev pub trial : Sensors → ℕ → Outcome Dropping → Outcome Dropping → Outcome Dropping
  trial on x without with =
      unless (store_refusal s F K (leaving x on))
      (cond (certificate s (leaving x on) F).filled (dropping (x ∷ []) without) with)

  module _ (O : Order s) where
    -- at most `fuel` of them
    abbrev pub trials : ℕ → Sensors → Sensors → Outcome Dropping
    trials zero untried on = ending on
    trials (suc fuel) untried on = elim (O.pick untried) [
      | None ↦ ending on
      | Some x ↦ trial on x (trials fuel (leaving x untried) (leaving x on)) (trials fuel (leaving x untried) on)
    ]

    -- as many as there are sensors untried
    abbrev pub thinning : Sensors → Sensors → Outcome Dropping
    thinning untried on = trials (how_many s untried) untried on
