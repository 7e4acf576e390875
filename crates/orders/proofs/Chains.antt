-- What a chain over the sensors' numbers finds, counts and picks.
use denote.Param.Members.{Mut}
use Rattle.std.proofs.Common.{◌≡◌, ℕ, zero, suc, Bool, true, false, cond, List, [], ◌∷◌, ◌++◌, length, Some, None, Option, Ordering, Less, Equal, Greater, Bor, sym, refl, ap, ap₂, ◌∙◌, subst, arith}
use Rattle.std.proofs.lemmas.Bool.{cond-true, cond-false, le-leb, lt-leb}
use Rattle.std.proofs.lemmas.Bool.Decides.{nat_tests}
use Rattle.std.proofs.lemmas.Iterator.{YieldsList, items_from_drains}
use Rattle.std.proofs.lemmas.List.{map-id}
use Rattle.std.specs.Fn.{CalledAt}
use Rattle.std.specs.Iterator.{PicksMinByKey, KeyTurn}
use Rattle.std.specs.List.{FoldsTo, filter, find}
use Rattle.std.specs.Ordering.{nat_cmp, min_by_ordering}
use Rattle.survey.specs.Lists.{numbers, gather}
use Rattle.survey.specs.Surveys.{Sensors, everyone}
use Rattle.orders.specs.Least.{lesser, least_by, Least, least}
use Rattle.orders.proofs.Picks.{lesser_assoc}

-- by number the first that is met is the least
pub find_least : (p : Sensors) (k n : ℕ) → find p (numbers k n) ≡ least_by (λ x. x) p (numbers k n)
find_least p k zero = refl
find_least p k (suc n) = go (p k) (find_least p (suc k) n) (least (λ x. x) p (suc k) n)
  where
    go : (b : Bool) {o : Option ℕ} → find p (numbers (suc k) n) ≡ o → Least (λ x. x) p (suc k) n o → cond b (Some k) (find p (numbers (suc k) n)) ≡ lesser (λ x. x) (cond b (Some k) None) o
    go false e h = e
    go true {o = None} e h = refl
    go true {o = Some x} e h = sym (cond-true _ _ _ (le-leb k x (omega (arith, h.0))))

-- ---- the least key

module _ (key : ℕ → ℕ) where
  -- what is not a candidate may as well not come
  pub least_filtered : (p : Sensors) (xs : List ℕ) → least_by key everyone (filter p xs) ≡ least_by key p xs
  least_filtered p [] = refl
  least_filtered p (x ∷ xs) = go (p x) (least_filtered p xs)
    where
      go : (b : Bool) → least_by key everyone (filter p xs) ≡ least_by key p xs
          → least_by key everyone (cond b (x ∷ filter p xs) (filter p xs)) ≡ lesser key (cond b (Some x) None) (least_by key p xs)
      go true e = ap (lesser key (Some x)) e
      go false e = e

  -- the one kept of two, and its key
  lesser_kept : (x z : ℕ) (o : Ordering) → nat_cmp (key x) (key z) ≡ o → (Some (min_by_ordering o x z) ≡ lesser key (Some x) (Some z)) × (min_by_ordering o (key x) (key z) ≡ key (min_by_ordering o x z))
  lesser_kept x z Less e = (sym (cond-true _ _ _ (le-leb (key x) (key z) (grind (arith, nat_tests)))), refl)
  lesser_kept x z Equal e = (sym (cond-true _ _ _ (le-leb (key x) (key z) (grind (arith, nat_tests)))), refl)
  lesser_kept x z Greater e = (sym (cond-false _ _ _ (lt-leb (key x) (key z) (grind (arith, nat_tests)))), refl)

  module _ {F : Type 0} (g : Mut F (Bor ℕ × Unit {0}) ℕ) (f : F) (closure : (x k : ℕ) (q : F) → CalledAt g f x k q → (q ≡ f) × (k ≡ key x)) where
    least_folded : (xs : List ℕ) (h : F) (k x : ℕ) (q : F × ℕ) (y : ℕ) → h ≡ f → k ≡ key x
        → FoldsTo {P = (F × ℕ) × ℕ} (KeyTurn min_by_ordering min_by_ordering g nat_cmp) ((h, k), x) xs (q, y) → Some y ≡ least_by key everyone (x ∷ xs)
    least_folded [] h k x q y i e t = sym (ap (λ (p : (F × ℕ) × ℕ). Some p.1) t)
    least_folded (z ∷ xs) h k x q y i e t =
        let new = t.0 in
        let turn = t.1 in
        let call = closure z turn.0 new.0.0 (subst (λ u. CalledAt g u z turn.0 new.0.0) i turn.2) in
        let kept = lesser_kept x z turn.1 (sym (ap₂ nat_cmp e call.1) ∙ turn.3) in
        let rest = least_by key everyone xs in
        least_folded xs new.0.0 new.0.1 new.1 q y call.0 (turn.4 ∙ ap₂ (min_by_ordering turn.1) e call.1 ∙ kept.1 ∙ sym (ap key turn.5)) t.2
        ∙ ap (λ b. lesser key (Some b) rest) turn.5 ∙ ap (λ o. lesser key o rest) kept.0 ∙ lesser_assoc key (Some x) (Some z) rest

    -- `min_by_key` picks the first of the least key
    pub least_from_min_by_key : {S : Type 0} {steps : S → Option ℕ → S → Type 0} {s : S} {all : List ℕ} (r : Option ℕ) → PicksMinByKey steps g nat_cmp s f r → YieldsList steps (λ x. x) s all
        → r ≡ least_by key everyone all
    least_from_min_by_key None picks road = ap (least_by key everyone) (items_from_drains [] (picks.1.0, picks.1.1, λ _. (picks.0, picks.1.2)) road)
    least_from_min_by_key (Some y) picks road =
        let call = closure picks.0 picks.2 picks.3 picks.6 in
        let ends = picks.5 in
        least_folded picks.1 picks.3 picks.2 picks.0 picks.4 y call.0 call.1 picks.7
        ∙ ap (least_by key everyone) (sym (map-id (picks.0 ∷ picks.1)) ∙ items_from_drains (picks.0 ∷ picks.1) (ends.1.0, ends.1.1, λ _. (ends.0, ends.1.2)) road)
