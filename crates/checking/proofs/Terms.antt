-- Sums of weighted entries, one term at a time.
use Rattle.std.proofs.Common.{◌≡◌, ℕ, suc, ◌+◌, List, get_or, sym, ap, ◌∙◌, ap₂, arith}
use Rattle.field.specs.Arithmetic.{Arithmetic}
use Rattle.complex.specs.Systems.{Vector}
use Rattle.homology.specs.Certificate.{vector}
use Rattle.checking.specs.Equations.{weighted}

-- the code at the place i weighs the entry i + 1
pub weighted_more : (F : Arithmetic) (codes : List ℕ) (d : Vector) (i old e p new : ℕ)
    → old ≡ weighted F i (vector codes) d → e ≡ d (i + 1) → p ≡ F.product (get_or codes i 0) e → new ≡ F.sum old p → new ≡ weighted F (i + 1) (vector codes) d
weighted_more F codes d i old e p new o a b n =
    let next : i + 1 ≡ suc i = omega arith in
    n ∙ ap₂ F.sum o (b ∙ ap (F.product (get_or codes i 0)) (a ∙ ap d next)) ∙ ap (λ k. weighted F k (vector codes) d) (sym next)
