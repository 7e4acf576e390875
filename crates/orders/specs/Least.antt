-- The candidate with the least key, the lowest number among equals, and the proof that picking it is an order.
use Rattle.std.specs.Prelude.{◌≡◌, ℕ, zero, suc, ◌+◌, ◌<◌, ◌≤◌, Bool, true, false, cond, List, [], ◌∷◌, Some, None, Option, nat_le, refl}
use Rattle.std.proofs.Common.{◌∙◌, ap, ap₂, subst, inl, inr, arith}
use Rattle.std.proofs.lemmas.Bool.{cases_eq, cond_both, leb-true, leb-false, both_ways}
use Rattle.survey.specs.Lists.{numbers}
use Rattle.survey.specs.Sets.{Same}
use Rattle.survey.specs.Surveys.{Survey, Sensors, sensors}
use Rattle.orders.specs.Orders.{Order}

-- of two choices the one with the lesser key, and the first among equals
abbrev pub lesser : (ℕ → ℕ) → Option ℕ → Option ℕ → Option ℕ
lesser key None b = b
lesser key (Some x) None = Some x
lesser key (Some x) (Some y) = cond (nat_le (key x) (key y)) (Some x) (Some y)

-- the candidate with the least key, and the first of the list among equals
abbrev pub least_by : (ℕ → ℕ) → Sensors → List ℕ → Option ℕ
least_by key p [] = None
least_by key p (x ∷ xs) = lesser key (cond (p x) (Some x) None) (least_by key p xs)

-- what it is to be the one with the least key among k, k + 1, .., n of them, the lowest among equals; or that none is a candidate
abbrev pub Least : (ℕ → ℕ) → Sensors → ℕ → ℕ → Option ℕ → Type 0
Least key p k n None = (y : ℕ) → k ≤ y → y < k + n → p y ≡ false
Least key p k n (Some x) =
    (k ≤ x) × (x < k + n) × (p x ≡ true)
    × ((y : ℕ) → k ≤ y → y < k + n → p y ≡ true → (key x ≤ key y) × (key y ≡ key x → x ≤ y))

-- one number more at the front, which is lower than all others
least_more : (key : ℕ → ℕ) (p : Sensors) (k n : ℕ) (b : Bool) → p k ≡ b → (o : Option ℕ) → Least key p (suc k) n o
    → Least key p k (suc n) (lesser key (cond b (Some k) None) o)
least_more key p k n false e None h = λ y l m. elim (cases_eq y k) [
  | inl same ↦ ap p same ∙ e
  | inr apart ↦ h y (omega arith) (omega arith)
]
least_more key p k n false e (Some x) h = (
  omega (arith, h.0),
  omega (arith, h.1),
  h.2,
  λ y l m c. elim (cases_eq y k) [
    | inl same ↦ absurd (both_ways _ (ap p same ∙ e) c)
    | inr apart ↦ h.3 y (omega arith) (omega arith) c
  ],
)
least_more key p k n true e None h = (
  omega arith,
  omega arith,
  e,
  λ y l m c. elim (cases_eq y k) [
    | inl same ↦ (omega (arith, ap key same), λ _. omega arith)
    | inr apart ↦ absurd (both_ways _ (h y (omega arith) (omega arith)) c)
  ],
)
least_more key p k n true e (Some x) h =
    cond_both (nat_le (key k) (key x)) (Some k) (Some x) (Least key p k (suc n))
    (λ le. (
      omega arith,
      omega arith,
      e,
      λ y l m c. elim (cases_eq y k) [
        | inl same ↦ (omega (arith, ap key same), λ _. omega arith)
        | inr apart ↦ (omega (arith, leb-true (key k) (key x) le, (h.3 y (omega arith) (omega arith) c).0), λ _. omega arith)
      ],
    ))
    (λ gt. (
      omega (arith, h.0),
      omega (arith, h.1),
      h.2,
      λ y l m c. elim (cases_eq y k) [
        | inl same ↦ (omega (arith, ap key same, leb-false (key k) (key x) gt), λ q. absurd (omega (arith, ap key same, leb-false (key k) (key x) gt)))
        | inr apart ↦ h.3 y (omega arith) (omega arith) c
      ],
    ))

pub least : (key : ℕ → ℕ) (p : Sensors) (k n : ℕ) → Least key p k n (least_by key p (numbers k n))
least key p k zero = λ y l m. absurd (omega arith)
least key p k (suc n) = least_more key p k n (p k) refl (least_by key p (numbers (suc k) n)) (least key p (suc k) n)

pub least_same : (key : ℕ → ℕ) (p q : Sensors) (k n : ℕ) → ((x : ℕ) → k ≤ x → x < k + n → p x ≡ q x)
    → least_by key p (numbers k n) ≡ least_by key q (numbers k n)
least_same key p q k zero h = refl
least_same key p q k (suc n) h =
    ap₂ (λ b o. lesser key (cond b (Some k) None) o) (h k (omega arith) (omega arith)) (least_same key p q (suc k) n (λ x l m. h x (omega arith) (omega arith)))

-- among the sensors of a survey
module _ (s : Survey) (key : ℕ → ℕ) where
  pub least_respects : (p q : Sensors) → Same s.count p q → least_by key p (sensors s) ≡ least_by key q (sensors s)
  least_respects p q h = least_same key p q 1 s.count (λ x l m. h x l (omega arith))

  pub least_none : (p : Sensors) → least_by key p (sensors s) ≡ None → (x : ℕ) → 1 ≤ x → x ≤ s.count → p x ≡ false
  least_none p e x l m = subst (Least key p 1 s.count) e (least key p 1 s.count) x l (omega arith)

  pub least_among : (p : Sensors) (x : ℕ) → least_by key p (sensors s) ≡ Some x → (1 ≤ x) × (x ≤ s.count) × (p x ≡ true)
  least_among p x e =
      let h = subst (Least key p 1 s.count) e (least key p 1 s.count) in
      (h.0, omega (arith, h.1), h.2)

abbrev pub least_order : (s : Survey) → (ℕ → ℕ) → Order s
least_order s key = record {
  pick = λ p. least_by key p (sensors s);
  respects = least_respects s key;
  none = least_none s key;
  among = least_among s key;
}
