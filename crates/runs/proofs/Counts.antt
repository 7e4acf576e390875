-- Sets of a survey's sensors with one sensor more or less, and how many sensors they have.
use Rattle.std.proofs.Common.{◌≡◌, ℕ, zero, suc, ◌+◌, ◌<◌, ◌≤◌, true, false, cond, not, ◌&&◌, List, [], ◌∷◌, ◌++◌, length, Some, None, Option, sym, refl, ap, ◌∙◌, ap₂, inl, inr, arith}
use Rattle.std.proofs.lemmas.Bool.{cases_eq, both_ways, and_parts, ne_eqb, eq-eqb}
use Rattle.survey.specs.Lists.{numbers, gather}
use Rattle.survey.specs.Sets.{leaving, members}
use Rattle.survey.specs.Surveys.{Survey, Sensors, sensors}
use Rattle.survey.proofs.Lists.{length_gather, length_cond, sum, sum_ap, sum_more}
use Rattle.complex.proofs.Sublists.{length_sublist, monotone}
use Rattle.orders.specs.Orders.{Order}
use Rattle.runs.specs.Refusals.{sensors_in, how_many, needed}

pub leaving_other : (p : Sensors) (x y : ℕ) → ¬ (y ≡ x) → leaving x p y ≡ p y
leaving_other p x y n = ap (λ b. not b && p y) (ne_eqb y x n)

pub leaving_self : (p : Sensors) (x : ℕ) → leaving x p x ≡ false
leaving_self p x = ap (λ b. not b && p x) (eq-eqb x x refl)

pub leaving_inside : (p : Sensors) (x y : ℕ) → leaving x p y ≡ true → p y ≡ true
leaving_inside p x y t = (and_parts _ _ t).1

-- nothing is gathered beyond the first m numbers
gather_short : {B : Type 0} (f : ℕ → List B) (k m n : ℕ) → m ≤ n → ((x : ℕ) → k + m ≤ x → f x ≡ []) → gather f (numbers k n) ≡ gather f (numbers k m)
gather_short f k zero zero l h = refl
gather_short f k zero (suc n) l h = ap₂ ◌++◌ (h k (omega arith)) (gather_short f (suc k) zero n (omega arith) (λ x m. h x (omega arith)))
gather_short f k (suc m) zero l h = absurd (omega arith)
gather_short f k (suc m) (suc n) l h = ap (λ r. f k ++ r) (gather_short f (suc k) m n (omega arith) (λ x j. h x (omega arith)))

module _ (s : Survey) where
  -- where none is above the survey's last sensor, its members are the survey's sensors in it
  pub members_in : (p : Sensors) → s.count ≤ 64 → ((x : ℕ) → s.count < x → p x ≡ false) → members p ≡ sensors_in s p
  unfolding members
  members_in p l h = gather_short _ 1 s.count 64 l (λ x m. ap (λ b. cond b (x ∷ []) []) (h x (omega arith)))

  pub length_members : (p : Sensors) → s.count ≤ 64 → ((x : ℕ) → s.count < x → p x ≡ false) → length (members p) ≡ how_many s p
  length_members p l h = ap length (members_in p l h)

  how_many_sum : (p : Sensors) → how_many s p ≡ sum (λ x. cond (p x) 1 0) (sensors s)
  how_many_sum p = length_gather _ (sensors s) ∙ sum_ap _ _ (sensors s) (λ x. length_cond (p x) x)

  -- one fewer without x
  pub how_many_leaving : (p : Sensors) (x : ℕ) → 1 ≤ x → x ≤ s.count → p x ≡ true → how_many s p ≡ suc (how_many s (leaving x p))
  how_many_leaving p x l m t =
      how_many_sum p
      ∙ sum_more _ _ x 1 s.count l (omega arith)
      (ap (λ b. cond b 1 0) t ∙ ap (λ b. suc (cond b 1 0)) (sym (leaving_self p x)))
      (λ y n. ap (λ b. cond b 1 0) (sym (leaving_other p x y n)))
      ∙ ap suc (sym (how_many_sum (leaving x p)))

  -- one fewer without the sensor that an order picks
  pub how_many_picked : (O : Order s) (p : Sensors) (x : ℕ) → O.pick p ≡ Some x → how_many s p ≡ suc (how_many s (leaving x p))
  how_many_picked O p x e = let a = O.among p x e in how_many_leaving p x a.0 a.1 a.2

  how_many_some : (p : Sensors) (x : ℕ) → 1 ≤ x → x ≤ s.count → p x ≡ true → 1 ≤ how_many s p
  how_many_some p x l m t = omega (arith, how_many_leaving p x l m t)

  -- where there is no candidate an order picks none, and where there is one it picks that
  pub pick_none : (O : Order s) (p : Sensors) → how_many s p ≡ 0 → O.pick p ≡ None
  pick_none O p e = go (O.pick p) refl
    where
      go : (r : Option ℕ) → O.pick p ≡ r → O.pick p ≡ None
      go None h = h
      go (Some x) h = absurd (omega (arith, how_many_picked O p x h))

  pub pick_one : (O : Order s) (p : Sensors) (x : ℕ) → 1 ≤ x → x ≤ s.count → p x ≡ true → how_many s p ≡ 1 → O.pick p ≡ Some x
  pick_one O p x l m t e = go (O.pick p) refl
    where
      go : (r : Option ℕ) → O.pick p ≡ r → O.pick p ≡ Some x
      go None h = absurd (both_ways _ (O.none p h x l m) t)
      go (Some y) h = elim (cases_eq x y) [
        | inl q ↦ h ∙ ap Some (sym q)
        | inr n ↦ absurd (omega (arith, how_many_picked O p y h, how_many_some (leaving y p) x l m (leaving_other p y x n ∙ t)))
      ]

  -- a set inside another needs no more places
  pub needed_inside : (p q : Sensors) → ((x : ℕ) → p x ≡ true → q x ≡ true)
      → let N = needed s p in let M = needed s q in
      (N.edges ≤ M.edges) × (N.triangles ≤ M.triangles) × (N.codes ≤ M.codes)
  needed_inside p q h =
      let m = monotone s p q h in
      let e = length_sublist _ _ m.0 in let t = length_sublist _ _ m.1 in
      (e, t, omega arith)
