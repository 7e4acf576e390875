-- Where the fence is on, its first step is an edge, on which the fence vector is not 0.
use Rattle.std.proofs.Common.{◌≡◌, ℕ, zero, suc, ◌+◌, ◌<◌, ◌≤◌, Bool, true, false, cond, T, ◌⊎◌, List, [], ◌∷◌, length, sym, refl, ap, ◌∙◌, subst, inl, inr, arith}
use Rattle.std.specs.List.{AllByRecursion}
use Rattle.std.proofs.lemmas.Bool.{cases_eq, cases_Bool, cases_order, both_ways, and_parts, and_from, or_left, or_right, eq-eqb, lt-ltb, cond-true, cond-false}
use Rattle.field.specs.Arithmetic.{Arithmetic, FieldLaws}
use Rattle.field.proofs.Elements.{one_code}
use Rattle.survey.specs.declared.edge.Edge.{Edge}
use Rattle.survey.specs.Lists.{numbers, gather, member}
use Rattle.survey.specs.Sets.{KeepsFence, fenced}
use Rattle.survey.specs.Surveys.{Survey, Sensors, Valid, edge, joined, edges_at, edges, steps, all_linked}
use Rattle.complex.specs.Boundaries.{has_step_of, fence_entry}
use Rattle.homology.proofs.Weighted.{all_split}

module _ (F : Arithmetic) (f : FieldLaws F) where
  minus_one : F.negative 1 ≡ 0 → ⊥
  minus_one e =
      let z : ◌≡◌ {A = ℕ} 1 0 = sym (f.sum_zero 1 (one_code F f)) ∙ ap (F.sum 1) (sym e) ∙ f.sum_negative 1 (one_code F f) in
      omega arith

  step_nonzero : (fence : List ℕ) (e : Edge) → (has_step_of e.a e.b (steps fence) ≡ true) ⊎ (has_step_of e.b e.a (steps fence) ≡ true) → fence_entry F fence e ≡ 0 → ⊥
  step_nonzero fence e way none = elim (cases_Bool (has_step_of e.a e.b (steps fence))) [
    | inl forth ↦ (let z : ◌≡◌ {A = ℕ} 1 0 = sym (cond-true _ _ _ forth) ∙ none in omega arith)
    | inr not-forth ↦ elim way [
      | inl forth ↦ both_ways _ not-forth forth
      | inr back ↦ minus_one (sym (cond-false _ _ _ not-forth ∙ cond-true _ _ _ back) ∙ none)
    ]
  ]

-- what holds of all that is gathered holds of what each number gives
all_at : {X : Type 0} (P : X → Type 0) (f : ℕ → List X) (k n x : ℕ) → k ≤ x → x < k + n → AllByRecursion P (gather f (numbers k n)) → AllByRecursion P (f x)
all_at P f k zero x l m h = absurd (omega arith)
all_at P f k (suc n) x l m h =
    let parts = all_split P (f k) (gather f (numbers (suc k) n)) h in
    elim (cases_eq k x) [
      | inl same ↦ subst (λ j. AllByRecursion P (f j)) same parts.0
      | inr apart ↦ all_at P f (suc k) n x (omega arith) (omega arith) parts.1
    ]

all_if_true : {X : Type 0} (P : X → Type 0) (b : Bool) (x : X) → b ≡ true → AllByRecursion P (cond b (x ∷ []) []) → P x
all_if_true P true x e h = h.0
all_if_true P false x e h = absurd (both_ways false refl e)

module _ (s : Survey) (valid : Valid s) (on : Sensors) where
  -- an edge between linked sensors that are on is listed
  at_edge : (P : Edge → Type 0) (a b : ℕ) → a < b → on a ≡ true → on b ≡ true → s.linked a b ≡ true → AllByRecursion P (edges s on) → P (edge a b)
  at_edge P a b lt x y linked h =
      let ends = valid.inside a b linked in
      let one : AllByRecursion P (edges_at s on a) = all_at P (edges_at s on) 1 s.count a ends.0 (omega (arith, ends.1)) h in
      all_if_true P (joined s on a b) (edge a b) (and_from _ _ (and_from _ _ (and_from _ _ (lt-ltb a b lt) x) y) linked)
      (all_at P _ 1 s.count b ends.2 (omega (arith, ends.3)) one)

  module _ (keeps : KeepsFence s on) where
    on_fence : (x : ℕ) → fenced s x ≡ true → on x ≡ true
    on_fence x e = true_from (on x) (keeps x (subst T (sym e) tt))
      where
        true_from : (b : Bool) → T b → b ≡ true
        true_from true t = refl
        true_from false t = absurd t

    -- the fence vector is 0 on every edge: impossible
    module _ (F : Arithmetic) (f : FieldLaws F) where
      first_step : (u v : ℕ) → s.linked u v ≡ true → has_step_of u v (steps s.fence) ≡ true → fenced s u ≡ true → fenced s v ≡ true
          → AllByRecursion (λ e. fence_entry F s.fence e ≡ 0) (edges s on) → ⊥
      first_step u v linked step m n h = elim (cases_order u v) [
        | inl same ↦ both_ways (s.linked u u) (valid.apart u) (ap (s.linked u) same ∙ linked)
        | inr way ↦ elim way [
          | inl up ↦ step_nonzero F f s.fence (edge u v) (inl step) (at_edge _ u v up (on_fence u m) (on_fence v n) linked h)
          | inr down ↦ step_nonzero F f s.fence (edge v u) (inr step) (at_edge _ v u down (on_fence v n) (on_fence u m) (valid.symmetric v u ∙ linked) h)
        ]
      ]

      pub fence_not_zero : AllByRecursion (λ e. fence_entry F s.fence e ≡ 0) (edges s on) → ⊥
      fence_not_zero h = from s.fence refl valid.long valid.closed
        where
          from : (fence : List ℕ) → s.fence ≡ fence → 3 ≤ length fence → all_linked s (steps fence) ≡ true → ⊥
          from [] e long closed = absurd (omega arith)
          from (u ∷ []) e long closed = absurd (omega arith)
          from (u ∷ (v ∷ ws)) e long closed =
              first_step u v (and_parts _ _ closed).0
              (ap (λ l. has_step_of u v (steps l)) e ∙ or_left _ _ (and_from _ _ (eq-eqb u u refl) (eq-eqb v v refl)))
              (ap (member u) e ∙ or_left _ _ (eq-eqb u u refl))
              (ap (member v) e ∙ or_right _ _ (or_left _ _ (eq-eqb v v refl)))
              h
