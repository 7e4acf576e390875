-- A vector listed and read again.
use Rattle.std.proofs.Common.{◌≡◌, ℕ, zero, suc, ◌<◌, ◌≤◌, List, [], ◌∷◌, ◌++◌, length, get_or, sym, refl, ap, ◌∙◌, inl, inr, arith, length-append}
use Rattle.std.proofs.lemmas.Bool.{cases_eq}
use Rattle.complex.specs.Systems.{Vector}
use Rattle.homology.specs.Certificate.{listed, vector}

get_d_front : (xs ys : List ℕ) (i : ℕ) → i < length xs → get_or (xs ++ ys) i 0 ≡ get_or xs i 0
get_d_front [] ys i l = absurd (omega arith)
get_d_front (x ∷ xs) ys zero l = refl
get_d_front (x ∷ xs) ys (suc i) l = get_d_front xs ys i (omega arith)

getD_end : (xs : List ℕ) (y : ℕ) → get_or (xs ++ (y ∷ [])) (length xs) 0 ≡ y
getD_end [] y = refl
getD_end (x ∷ xs) y = getD_end xs y

pub length_listed : (n : ℕ) (v : Vector) → length (listed n v) ≡ n
length_listed zero v = refl
length_listed (suc n) v = simp length-append (omega (arith, length_listed n v))

getD_listed : (n : ℕ) (v : Vector) (i : ℕ) → i < n → get_or (listed n v) i 0 ≡ v (suc i)
getD_listed zero v i l = absurd (omega arith)
getD_listed (suc n) v i l = elim (cases_eq i n) [
  | inl e ↦ ap (λ j. get_or (listed n v ++ (v (suc n) ∷ [])) j 0) (e ∙ sym (length_listed n v)) ∙ getD_end (listed n v) (v (suc n)) ∙ ap (λ j. v (suc j)) (sym e)
  | inr d ↦ get_d_front (listed n v) (v (suc n) ∷ []) i (omega (arith, length_listed n v)) ∙ getD_listed n v i (omega arith)
]

pub vector_listed : (n : ℕ) (v : Vector) (t : ℕ) → 1 ≤ t → t ≤ n → vector (listed n v) t ≡ v t
vector_listed n v zero l m = absurd (omega arith)
vector_listed n v (suc i) l m = getD_listed n v i (omega arith)

-- what holds of 0 and of every entry of v
module _ (P : ℕ → Type 0) (at_zero : P 0) where
  push_each : (xs : List ℕ) (y : ℕ) → ((i : ℕ) → P (get_or xs i 0)) → P y → (i : ℕ) → P (get_or (xs ++ (y ∷ [])) i 0)
  push_each [] y h p zero = p
  push_each [] y h p (suc i) = at_zero
  push_each (x ∷ xs) y h p zero = h 0
  push_each (x ∷ xs) y h p (suc i) = push_each xs y (λ i. h (suc i)) p i

  listed_each : (n : ℕ) (v : Vector) → ((t : ℕ) → P (v t)) → (i : ℕ) → P (get_or (listed n v) i 0)
  listed_each zero v h i = at_zero
  listed_each (suc n) v h i = push_each (listed n v) (v (suc n)) (listed_each n v h) (h (suc n)) i

  pub vector_each : (n : ℕ) (v : Vector) → ((t : ℕ) → P (v t)) → (i : ℕ) → P (vector (listed n v) i)
  vector_each n v h zero = at_zero
  vector_each n v h (suc i) = listed_each n v h i
