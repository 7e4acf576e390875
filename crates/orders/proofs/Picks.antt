-- What a pick by the least key is.
use Rattle.std.proofs.Common.{◌≡◌, ℕ, ◌≤◌, Bool, true, false, cond, leb, Some, None, Option, sym, refl, ◌∙◌, subst, arith}
use Rattle.std.proofs.lemmas.Bool.{cond-true, cond-false, le-leb, lt-leb, leb-true, leb-false}
use Rattle.survey.specs.Surveys.{Survey, Sensors}
use Rattle.orders.specs.Least.{lesser, Least, least, least_order}

-- no candidate of the survey has a lesser key, and none with the same key a lower number
pub least_picked : (s : Survey) (key : ℕ → ℕ) (p : Sensors) (x y : ℕ) → (least_order s key).pick p ≡ Some x → 1 ≤ y → y ≤ s.count → p y ≡ true
    → (key x ≤ key y) × (key y ≡ key x → x ≤ y)
least_picked s key p x y e l m c = (subst (Least key p 1 s.count) e (least key p 1 s.count)).3 y l (omega arith) c

module _ (key : ℕ → ℕ) where
  pub lesser_none : (a : Option ℕ) → lesser key a None ≡ a
  lesser_none None = refl
  lesser_none (Some x) = refl

  pub lesser_assoc : (a b c : Option ℕ) → lesser key (lesser key a b) c ≡ lesser key a (lesser key b c)
  lesser_assoc None b c = refl
  lesser_assoc (Some x) None c = refl
  lesser_assoc (Some x) (Some y) None = lesser_none (lesser key (Some x) (Some y))
  lesser_assoc (Some x) (Some y) (Some z) = go (leb (key x) (key y)) (leb (key y) (key z)) refl refl
    where
      go : (t u : Bool) → leb (key x) (key y) ≡ t → leb (key y) (key z) ≡ u
          → lesser key (cond t (Some x) (Some y)) (Some z) ≡ lesser key (Some x) (cond u (Some y) (Some z))
      go true true e f =
          cond-true _ _ _ (le-leb (key x) (key z) (omega (arith, leb-true (key x) (key y) e, leb-true (key y) (key z) f))) ∙ sym (cond-true _ _ _ e)
      go true false e f = refl
      go false true e f = cond-true _ _ _ f ∙ sym (cond-false _ _ _ e)
      go false false e f =
          cond-false _ _ _ f ∙ sym (cond-false _ _ _ (lt-leb (key x) (key z) (omega (arith, leb-false (key x) (key y) e, leb-false (key y) (key z) f))))
