-- The numbers 1 to n as a range of so many.
use Rattle.std.proofs.Common.{◌≡◌, ℕ, zero, suc, ◌+◌, List, ◌∷◌, refl, ap, ◌∙◌, arith}
use Rattle.std.specs.List.{range_with_len}
use Rattle.survey.specs.Lists.{numbers}

pub numbers_range : (a n : ℕ) → numbers a n ≡ range_with_len a n
numbers_range a zero = refl
numbers_range a (suc n) = let next : suc a ≡ a + 1 = omega arith in ap {B = List ℕ} (λ l. a ∷ l) (numbers_range (suc a) n ∙ ap (λ k. range_with_len k n) next)
