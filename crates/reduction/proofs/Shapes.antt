-- A shape tells one number of edges and one of triangles.
use Rattle.std.proofs.Common.{◌≡◌, ℕ, ◌+◌, subst, arith}

-- what is shown of one pair is shown of every pair
pub of_shape : (P : ℕ → ℕ → Type 0) (rows columns E T : ℕ) → rows ≡ E + T → columns ≡ T + 1 → P E T
    → (E' T' : ℕ) → rows ≡ E' + T' → columns ≡ T' + 1 → P E' T'
of_shape P rows columns E T a b p E' T' c d =
    let t : T ≡ T' = omega arith in
    let e : E ≡ E' = omega arith in
    subst (λ x. P x T') e (subst (λ y. P E y) t p)
