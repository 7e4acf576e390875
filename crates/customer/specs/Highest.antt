-- The order that picks the highest number, with the proof that it is one.
use Rattle.std.specs.Prelude.{◌≡◌, ℕ, zero, suc, ◌≤◌, true, false, cond, Some, None, Option, refl}
use Rattle.std.proofs.Common.{sym, ◌∙◌, ap, ap₂, inl, inr, arith}
use Rattle.std.proofs.lemmas.Bool.{cases_Bool, cases_eq, cond-true, cond-false}
use Rattle.survey.specs.Sets.{Same}
use Rattle.survey.specs.Surveys.{Survey, Sensors}
use Rattle.orders.specs.Orders.{Order}

-- the highest candidate of 1 to n
abbrev pub highest : Sensors → ℕ → Option ℕ
highest p zero = None
highest p (suc n) = cond (p (suc n)) (Some (suc n)) (highest p n)

pub highest_same : (p q : Sensors) (n : ℕ) → Same n p q → highest p n ≡ highest q n
highest_same p q zero h = refl
highest_same p q (suc n) h =
    ap₂ (λ b o. cond b (Some (suc n)) o) (h (suc n) (omega arith) (omega arith)) (highest_same p q n (λ x l m. h x l (omega arith)))

pub highest_none : (p : Sensors) (n : ℕ) → highest p n ≡ None → (x : ℕ) → 1 ≤ x → x ≤ n → p x ≡ false
highest_none p zero e x l m = absurd (omega arith)
highest_none p (suc n) e x l m = elim (cases_Bool (p (suc n))) [
  | inl on ↦ absurd (let some : Some (suc n) ≡ None = sym (cond-true _ _ _ on) ∙ e in let z : ◌≡◌ {A = ℕ} 0 1 = cc in omega arith)
  | inr off ↦ elim (cases_eq x (suc n)) [
    | inl same ↦ ap p same ∙ off
    | inr apart ↦ highest_none p n (sym (cond-false _ _ _ off) ∙ e) x l (omega arith)
  ]
]

pub highest_among : (p : Sensors) (n x : ℕ) → highest p n ≡ Some x → (1 ≤ x) × (x ≤ n) × (p x ≡ true)
highest_among p zero x e = absurd (let z : ◌≡◌ {A = ℕ} 0 1 = cc in omega arith)
highest_among p (suc n) x e = elim (cases_Bool (p (suc n))) [
  | inl on ↦
      let some : Some (suc n) ≡ Some x = sym (cond-true _ _ _ on) ∙ e in
      let same : suc n ≡ x = cc in
      (omega arith, omega arith, ap p (sym same) ∙ on)
  | inr off ↦
      let h = highest_among p n x (sym (cond-false _ _ _ off) ∙ e) in
      (h.0, omega (arith, h.1), h.2)
]

abbrev pub highest_order : (s : Survey) → Order s
highest_order s = record {
  pick = λ p. highest p s.count;
  respects = λ p q h. highest_same p q s.count h;
  none = λ p e. highest_none p s.count e;
  among = λ p x e. highest_among p s.count x e;
}
