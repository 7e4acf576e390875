-- What a row plus a multiple of another holds at each place.
use Rattle.std.proofs.Common.{◌≡◌, ℕ, zero, suc, ◌<◌, ◌≤◌, List, [], ◌∷◌, length, get_or, sym, refl, ap, ◌∙◌, ⊎_elim, arith, ext_get_or}
use Rattle.std.proofs.lemmas.Bool.{cases_lt}
use Rattle.field.specs.Arithmetic.{Arithmetic}
use Rattle.field.specs.Rows.{plus_multiple}

module _ (F : Arithmetic) (k : ℕ) where
  pub length_plus_multiple : (xs ys : List ℕ) → length (plus_multiple F k xs ys) ≡ length xs
  length_plus_multiple [] ys = refl
  length_plus_multiple (x ∷ xs) [] = refl
  length_plus_multiple (x ∷ xs) (y ∷ ys) = ap suc (length_plus_multiple xs ys)

  pub getD_plus_multiple : (xs ys : List ℕ) (i : ℕ) → i < length xs → i < length ys → get_or (plus_multiple F k xs ys) i 0 ≡ F.sum (get_or xs i 0) (F.product k (get_or ys i 0))
  getD_plus_multiple [] ys i h l = absurd (omega arith)
  getD_plus_multiple (x ∷ xs) [] i h l = absurd (omega arith)
  getD_plus_multiple (x ∷ xs) (y ∷ ys) zero h l = refl
  getD_plus_multiple (x ∷ xs) (y ∷ ys) (suc i) h l = getD_plus_multiple xs ys i (omega arith) (omega arith)

  pub get_d_beyond : (xs ys : List ℕ) (i : ℕ) → length ys ≤ i → get_or (plus_multiple F k xs ys) i 0 ≡ get_or xs i 0
  get_d_beyond [] ys i h = refl
  get_d_beyond (x ∷ xs) [] i h = refl
  get_d_beyond (x ∷ xs) (y ∷ ys) zero h = absurd (omega arith)
  get_d_beyond (x ∷ xs) (y ∷ ys) (suc i) h = get_d_beyond xs ys i (omega arith)

  -- a row is known by its places
  pub plus_multiple_is : (xs ys zs : List ℕ) → length zs ≡ length xs
      → ((i : ℕ) → i < length xs → i < length ys → get_or zs i 0 ≡ F.sum (get_or xs i 0) (F.product k (get_or ys i 0)))
      → ((i : ℕ) → length ys ≤ i → get_or zs i 0 ≡ get_or xs i 0)
      → zs ≡ plus_multiple F k xs ys
  plus_multiple_is xs ys zs e within beyond =
      ext_get_or 0 zs (plus_multiple F k xs ys) (e ∙ sym (length_plus_multiple xs ys)) (λ i h.
      ⊎_elim (λ l. within i (omega arith) l ∙ sym (getD_plus_multiple xs ys i (omega arith) l))
      (λ l. beyond i l ∙ sym (get_d_beyond xs ys i l)) (cases_lt i (length ys)))
