-- What the trials come to is a thinning or a stop, and the only one.
use Rattle.std.proofs.Common.{◌≡◌, ℕ, zero, suc, Bool, true, false, cond, List, [], ◌∷◌, ◌++◌, Some, None, Option, sym, refl, ap, ◌∙◌, inl, inr, append_assoc, arith}
use Rattle.std.proofs.lemmas.Bool.{cases_Bool, cond-true, cond-false}
use Rattle.refusal.specs.Outcomes.{Outcome, accepted, refused}
use Rattle.field.specs.Arithmetic.{Arithmetic, FieldLaws}
use Rattle.matrix.specs.Terms.{Terms}
use Rattle.survey.specs.Sets.{leaving}
use Rattle.survey.specs.Surveys.{Survey, Sensors}
use Rattle.orders.specs.Orders.{Order}
use Rattle.homology.specs.Certificate.{HasFilling, certificate}
use Rattle.homology.proofs.Certificates.{certificate_decides_lem}
use Rattle.runs.specs.Refusals.{unless, how_many, store_refusal}
use Rattle.runs.specs.Thinning.{Dropping, dropping, Thinning, Stopped, ending, trial, trials, thinning}
use Rattle.runs.specs.Thinning.Thinning.{finished, drops, keeps}
use Rattle.runs.specs.Thinning.Stopped.{at_end, at_trial, past_drop, past_keep}
use Rattle.runs.proofs.Counts.{how_many_picked}
use Rattle.runs.proofs.Refusals.{unless_none, unless_some}

pub dropping_none : (o : Outcome Dropping) → dropping [] o ≡ o
dropping_none (accepted d) = refl
dropping_none (refused k) = refl

pub dropping_dropping : (xs ys : List ℕ) (o : Outcome Dropping) → dropping xs (dropping ys o) ≡ dropping (xs ++ ys) o
dropping_dropping xs ys (accepted d) = ap (λ zs. accepted (record { dropped = zs; last = d.last })) (sym (append_assoc xs ys d.dropped))
dropping_dropping xs ys (refused k) = refl

-- the certificate is one of a filling exactly where there is one
module _ (s : Survey) (on : Sensors) (F : Arithmetic) (laws : FieldLaws F) where
  pub filled_true : HasFilling s on F → (certificate s on F).filled ≡ true
  filled_true h = elim (cases_Bool (certificate s on F).filled) [ inl t ↦ t | inr f ↦ absurd ((certificate_decides_lem s on F laws).1 f h) ]

  pub filled_false : (HasFilling s on F → ⊥) → (certificate s on F).filled ≡ false
  filled_false n = elim (cases_Bool (certificate s on F).filled) [ inl t ↦ absurd (n ((certificate_decides_lem s on F laws).0 t)) | inr f ↦ f ]

module _ (s : Survey) (F : Arithmetic) (K : Terms) (O : Order s) where
  -- The trials one by one, for a loop that makes them.

  -- after a pick
  abbrev next : ℕ → Sensors → Sensors → Option ℕ → Outcome Dropping
  next fuel untried on r = elim r [
    | None ↦ ending s F K on
    | Some x ↦ trial s F K on x (trials s F K O fuel (leaving x untried) (leaving x on)) (trials s F K O fuel (leaving x untried) on)
  ]

  trials_none : (fuel : ℕ) (untried on : Sensors) → O.pick untried ≡ None → trials s F K O fuel untried on ≡ ending s F K on
  trials_none zero untried on e = refl
  trials_none (suc fuel) untried on e = ap (next fuel untried on) e

  pub thinning_none : (untried on : Sensors) → O.pick untried ≡ None → thinning s F K O untried on ≡ ending s F K on
  thinning_none untried on e = trials_none (how_many s untried) untried on e

  pub thinning_some : (untried on : Sensors) (x : ℕ) → O.pick untried ≡ Some x
      → thinning s F K O untried on ≡ trial s F K on x (thinning s F K O (leaving x untried) (leaving x on)) (thinning s F K O (leaving x untried) on)
  thinning_some untried on x e =
      ap (λ n. trials s F K O n untried on) (how_many_picked s O untried x e)
      ∙ ap (next (how_many s (leaving x untried)) untried on) e

  pub thinning_stopped : (untried on : Sensors) (x k : ℕ) → O.pick untried ≡ Some x → store_refusal s F K (leaving x on) ≡ Some k
      → thinning s F K O untried on ≡ refused k
  thinning_stopped untried on x k e r = thinning_some untried on x e ∙ unless_some _ _ k r

  thinning_tried : (untried on : Sensors) (x : ℕ) → O.pick untried ≡ Some x → store_refusal s F K (leaving x on) ≡ None
      → thinning s F K O untried on
      ≡ cond (certificate s (leaving x on) F).filled (dropping (x ∷ []) (thinning s F K O (leaving x untried) (leaving x on))) (thinning s F K O (leaving x untried) on)
  thinning_tried untried on x e r = thinning_some untried on x e ∙ unless_none _ _ r

  pub thinning_drops : (untried on : Sensors) (x : ℕ) → O.pick untried ≡ Some x → store_refusal s F K (leaving x on) ≡ None
      → (certificate s (leaving x on) F).filled ≡ true
      → thinning s F K O untried on ≡ dropping (x ∷ []) (thinning s F K O (leaving x untried) (leaving x on))
  thinning_drops untried on x e r t = thinning_tried untried on x e r ∙ cond-true _ _ _ t

  pub thinning_keeps : (untried on : Sensors) (x : ℕ) → O.pick untried ≡ Some x → store_refusal s F K (leaving x on) ≡ None
      → (certificate s (leaving x on) F).filled ≡ false
      → thinning s F K O untried on ≡ thinning s F K O (leaving x untried) on
  thinning_keeps untried on x e r f = thinning_tried untried on x e r ∙ cond-false _ _ _ f

  module _ (laws : FieldLaws F) where
    -- a thinning is what the trials come to, and so is a stop
    pub thinning_accepted : (untried on last : Sensors) (dropped : List ℕ) → Thinning s F K O untried on dropped last
        → thinning s F K O untried on ≡ accepted (record { dropped = dropped; last = last })
    thinning_accepted _ _ _ _ (finished untried on e r) = thinning_none untried on e ∙ unless_none _ _ r
    thinning_accepted _ _ _ _ (drops untried on x more last e r h rest) =
        thinning_drops untried on x e r (filled_true s _ F laws h) ∙ ap (dropping (x ∷ [])) (thinning_accepted _ _ _ _ rest)
    thinning_accepted _ _ _ _ (keeps untried on x more last e r n rest) =
        thinning_keeps untried on x e r (filled_false s _ F laws n) ∙ thinning_accepted _ _ _ _ rest

    pub thinning_refused : (k : ℕ) (untried on : Sensors) → Stopped s F K O k untried on → thinning s F K O untried on ≡ refused k
    thinning_refused k _ _ (at_end untried on e r) = thinning_none untried on e ∙ unless_some _ _ k r
    thinning_refused k _ _ (at_trial untried on x e r) = thinning_stopped untried on x k e r
    thinning_refused k _ _ (past_drop untried on x e r h rest) =
        thinning_drops untried on x e r (filled_true s _ F laws h) ∙ ap (dropping (x ∷ [])) (thinning_refused k _ _ rest)
    thinning_refused k _ _ (past_keep untried on x e r n rest) =
        thinning_keeps untried on x e r (filled_false s _ F laws n) ∙ thinning_refused k _ _ rest

    -- and the trials come to nothing else
    abbrev pub Comes : Sensors → Sensors → Outcome Dropping → Type 0
    Comes untried on (accepted d) = Thinning s F K O untried on d.dropped d.last
    Comes untried on (refused k) = Stopped s F K O k untried on

    comes_none : (untried on : Sensors) → O.pick untried ≡ None → Comes untried on (ending s F K on)
    comes_none untried on e = go (store_refusal s F K on) refl
      where
        go : (r : Option ℕ) → store_refusal s F K on ≡ r → Comes untried on (unless r (accepted (record { dropped = []; last = on })))
        go None q = finished untried on e q
        go (Some k) q = at_end untried on e q

    comes_some : (untried on : Sensors) (x : ℕ) → O.pick untried ≡ Some x → (without with : Outcome Dropping)
        → Comes (leaving x untried) (leaving x on) without → Comes (leaving x untried) on with
        → Comes untried on (trial s F K on x without with)
    comes_some untried on x e without with p q = go (store_refusal s F K (leaving x on)) (certificate s (leaving x on) F).filled refl refl
      where
        dropped : HasFilling s (leaving x on) F → store_refusal s F K (leaving x on) ≡ None → (o : Outcome Dropping)
            → Comes (leaving x untried) (leaving x on) o → Comes untried on (dropping (x ∷ []) o)
        dropped h r (accepted d) c = drops untried on x d.dropped d.last e r h c
        dropped h r (refused k) c = past_drop untried on x e r h c

        kept : (HasFilling s (leaving x on) F → ⊥) → store_refusal s F K (leaving x on) ≡ None → (o : Outcome Dropping)
            → Comes (leaving x untried) on o → Comes untried on o
        kept n r (accepted d) c = keeps untried on x d.dropped d.last e r n c
        kept n r (refused k) c = past_keep untried on x e r n c

        go : (r : Option ℕ) (b : Bool) → store_refusal s F K (leaving x on) ≡ r → (certificate s (leaving x on) F).filled ≡ b
            → Comes untried on (unless r (cond b (dropping (x ∷ []) without) with))
        go (Some k) b r f = at_trial untried on x e r
        go None true r f = dropped ((certificate_decides_lem s (leaving x on) F laws).0 f) r without p
        go None false r f = kept ((certificate_decides_lem s (leaving x on) F laws).1 f) r with q

    comes_next : (fuel : ℕ) (untried on : Sensors) → how_many s untried ≡ suc fuel
        → ((u o : Sensors) → how_many s u ≡ fuel → Comes u o (trials s F K O fuel u o))
        → (r : Option ℕ) → O.pick untried ≡ r → Comes untried on (next fuel untried on r)
    comes_next fuel untried on l rest None e = comes_none untried on e
    comes_next fuel untried on l rest (Some x) e =
        let fewer : how_many s (leaving x untried) ≡ fuel = omega (arith, how_many_picked s O untried x e) in
        comes_some untried on x e _ _ (rest (leaving x untried) (leaving x on) fewer) (rest (leaving x untried) on fewer)

    trials_come : (fuel : ℕ) (untried on : Sensors) → how_many s untried ≡ fuel → Comes untried on (trials s F K O fuel untried on)
    trials_come zero untried on l = go (O.pick untried) refl
      where
        go : (r : Option ℕ) → O.pick untried ≡ r → Comes untried on (ending s F K on)
        go None e = comes_none untried on e
        go (Some x) e = absurd (omega (arith, how_many_picked s O untried x e))
    trials_come (suc fuel) untried on l = comes_next fuel untried on l (λ u o m. trials_come fuel u o m) (O.pick untried) refl

    pub thinning_comes : (untried on : Sensors) → Comes untried on (thinning s F K O untried on)
    thinning_comes untried on = trials_come (how_many s untried) untried on refl
