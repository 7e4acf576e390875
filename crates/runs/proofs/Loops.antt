-- A loop that makes the trials by certifying comes to what thin does.
use Rattle.std.proofs.Common.{◌≡◌, ℕ, true, false, cond, leb, List, [], ◌∷◌, ◌++◌, Some, None, sym, ap, ◌∙◌, append-nil, arith}
use Rattle.std.proofs.lemmas.Bool.{and_parts, and_from, leb-true, le-leb, cond-true, cond-false}
use Rattle.refusal.specs.declared.Refusal.TheVariants.{TooShort, NoFilling}
use Rattle.refusal.specs.Numbers.{number_of}
use Rattle.refusal.specs.Outcomes.{Outcome, accepted, refused}
use Rattle.field.specs.Arithmetic.{Arithmetic}
use Rattle.matrix.specs.Terms.{Terms}
use Rattle.survey.specs.Sets.{leaving}
use Rattle.survey.specs.Surveys.{Survey, Sensors}
use Rattle.orders.specs.Orders.{Order}
use Rattle.homology.specs.Certificate.{Certificate, certificate}
use Rattle.runs.specs.Refusals.{Room, candidates, needed, fits, store_refusal, certify_refusal}
use Rattle.runs.specs.Thinning.{Dropping, dropping, thinning}
use Rattle.runs.specs.Calls.{certify_outcome, thin_outcome}
use Rattle.runs.proofs.Counts.{leaving_inside, needed_inside}
use Rattle.runs.proofs.Refusals.{unless_none, unless_some, unless_accepted, unless_refused, passed}
use Rattle.runs.proofs.Trials.{dropping_none, dropping_dropping, thinning_none, thinning_stopped, thinning_drops, thinning_keeps}

module _ (s : Survey) (F : Arithmetic) (K : Terms) where
  -- the lists and the store's codes are enough for a certify with these sensors
  pub record Ready (on : Sensors) (L : Room) : Type 0 where
    pub places : fits s on L ≡ true
    pub codes : leb F.order K.bound ≡ true

  fits_inside : (p q : Sensors) (L : Room) → ((x : ℕ) → p x ≡ true → q x ≡ true) → fits s q L ≡ true → fits s p L ≡ true
  fits_inside p q L h t =
      let n = needed_inside s p q h in
      let a = and_parts _ _ t in let b = and_parts _ _ a.0 in
      let e = leb-true (needed s q).edges L.edges b.0 in
      let f = leb-true (needed s q).triangles L.triangles b.1 in
      let g = leb-true (needed s q).codes L.codes a.1 in
      and_from _ _ (and_from _ _
      (le-leb (needed s p).edges L.edges (omega (arith, n.0)))
      (le-leb (needed s p).triangles L.triangles (omega (arith, n.1))))
      (le-leb (needed s p).codes L.codes (omega (arith, n.2)))

  -- and for a trial
  pub ready_leaving : (on : Sensors) (L : Room) (x : ℕ) → Ready on L → Ready (leaving x on) L
  ready_leaving on L x r = record { places = fits_inside (leaving x on) on L (leaving_inside on x) r.places; codes = r.codes }

  -- then only the store may refuse
  pub ready_refusal : (on : Sensors) (L : Room) → Ready on L → certify_refusal s F K on L ≡ store_refusal s F K on
  ready_refusal on L r = cond-true _ _ _ r.places ∙ cond-true _ _ _ r.codes

  pub ready_from : (on : Sensors) (L : Room) → certify_refusal s F K on L ≡ None → Ready on L
  ready_from on L e =
      let p = passed (fits s on L) _ _ e in
      record { places = p.0; codes = (passed (leb F.order K.bound) _ _ p.1).0 }

  module _ (O : Order s) (L : Room) where
    -- the whole comes to what the untried come to, after the drops so far
    abbrev pub Leads : Outcome Dropping → List ℕ → Sensors → Sensors → Type 0
    Leads whole dropped untried on = whole ≡ dropping dropped (thinning s F K O untried on)

    pub leads_none : (untried on : Sensors) → Leads (thinning s F K O untried on) [] untried on
    leads_none untried on = sym (dropping_none _)

    module _ (whole : Outcome Dropping) (dropped : List ℕ) (untried on : Sensors) (leads : Leads whole dropped untried on) (ready : Ready on L) where
      tried_accepted : (x : ℕ) (c : Certificate) → certify_outcome s F K (leaving x on) L ≡ accepted c
          → (store_refusal s F K (leaving x on) ≡ None) × (certificate s (leaving x on) F ≡ c)
      tried_accepted x c e =
          let u = unless_accepted _ _ _ e in
          (sym (ready_refusal (leaving x on) L (ready_leaving on L x ready)) ∙ u.0, u.1)

      pub leads_dropped : (x : ℕ) (c : Certificate) → O.pick untried ≡ Some x → certify_outcome s F K (leaving x on) L ≡ accepted c → c.filled ≡ true
          → Leads whole (dropped ++ x ∷ []) (leaving x untried) (leaving x on)
      leads_dropped x c p e t =
          let u = tried_accepted x c e in
          leads ∙ ap (dropping dropped) (thinning_drops s F K O untried on x p u.0 (ap (λ d. d.filled) u.1 ∙ t))
          ∙ dropping_dropping dropped (x ∷ []) _

      pub leads_kept : (x : ℕ) (c : Certificate) → O.pick untried ≡ Some x → certify_outcome s F K (leaving x on) L ≡ accepted c → c.filled ≡ false
          → Leads whole dropped (leaving x untried) on
      leads_kept x c p e f =
          let u = tried_accepted x c e in
          leads ∙ ap (dropping dropped) (thinning_keeps s F K O untried on x p u.0 (ap (λ d. d.filled) u.1 ∙ f))

      pub leads_stopped : (x k : ℕ) → O.pick untried ≡ Some x → certify_outcome s F K (leaving x on) L ≡ refused k → whole ≡ refused k
      leads_stopped x k p e =
          leads ∙ ap (dropping dropped) (thinning_stopped s F K O untried on x k p
          (sym (ready_refusal (leaving x on) L (ready_leaving on L x ready)) ∙ unless_refused _ _ k e))

      pub leads_ended : (c : Certificate) → O.pick untried ≡ None → certify_outcome s F K on L ≡ accepted c
          → (whole ≡ accepted (record { dropped = dropped; last = on })) × (c ≡ certificate s on F)
      leads_ended c p e =
          let u = unless_accepted _ _ _ e in (
            leads ∙ ap (dropping dropped) (thinning_none s F K O untried on p ∙ unless_none _ _ (sym (ready_refusal on L ready) ∙ u.0)) ∙ ap (λ xs. accepted (record { dropped = xs; last = on })) (append-nil dropped),
            sym u.1,
          )

      pub leads_refused : (k : ℕ) → O.pick untried ≡ None → certify_outcome s F K on L ≡ refused k → whole ≡ refused k
      leads_refused k p e =
          leads ∙ ap (dropping dropped) (thinning_none s F K O untried on p ∙ unless_some _ _ k (sym (ready_refusal on L ready) ∙ unless_refused _ _ k e))

    -- what thin comes to by the room for its drops and its first certify
    module _ (on : Sensors) where
      pub thin_short : leb (needed s on).drops L.drops ≡ false → thin_outcome s F K O on L ≡ refused (number_of TooShort)
      thin_short f = unless_some _ _ (number_of TooShort) (cond-false _ _ _ f)

      pub thin_refuses : (k : ℕ) → leb (needed s on).drops L.drops ≡ true → certify_outcome s F K on L ≡ refused k → thin_outcome s F K O on L ≡ refused k
      thin_refuses k t e = unless_some _ _ k (cond-true _ _ _ t ∙ unless_refused _ _ k e)

      module _ (c : Certificate) (room : leb (needed s on).drops L.drops ≡ true) (e : certify_outcome s F K on L ≡ accepted c) where
        certified_first : thin_outcome s F K O on L ≡ cond c.filled (thinning s F K O (candidates s on) on) (refused (number_of NoFilling))
        certified_first =
            let u = unless_accepted _ _ _ e in
            unless_none _ _ (cond-true _ _ _ room ∙ u.0) ∙ ap (λ d. cond d.filled (thinning s F K O (candidates s on) on) (refused (number_of NoFilling))) u.1

        pub thin_unfilled : c.filled ≡ false → thin_outcome s F K O on L ≡ refused (number_of NoFilling)
        thin_unfilled f = certified_first ∙ cond-false _ _ _ f

        pub thin_begins : c.filled ≡ true → Leads (thin_outcome s F K O on L) [] (candidates s on) on × Ready on L
        thin_begins t = (certified_first ∙ cond-true _ _ _ t ∙ leads_none (candidates s on) on, ready_from on L (unless_accepted _ _ _ e).0)
