-- Runs of numbers, what is gathered along a list, and lists that fit.
use Rattle.std.specs.Prelude.{ℕ, zero, suc, ◌+◌, Bool, false, cond, ◌||◌, List, [], ◌∷◌, ◌++◌, length, Some, None, Option, ◌==◌, nat_le, nat_lt, slice_index}

-- k, k + 1, .., n of them
abbrev pub numbers : ℕ → ℕ → List ℕ
numbers k zero = []
numbers k (suc n) = k ∷ numbers (suc k) n

-- what f gives at each element, one after the other
abbrev pub gather : {A B : Type 0} → (A → List B) → List A → List B
gather f [] = []
gather f (x ∷ xs) = f x ++ gather f xs

abbrev pub member : ℕ → List ℕ → Bool
member x [] = false
member x (y ∷ ys) = x == y || member x ys

-- does f hold of some element?
abbrev pub any : {A : Type 0} → (A → Bool) → List A → Bool
any f [] = false
any f (x ∷ xs) = f x || any f xs

-- what stands after the place i, round the list; 0 if it is empty
abbrev pub after : List ℕ → ℕ → ℕ
after xs i = cond (nat_lt (i + 1) (length xs)) (slice_index xs (i + 1)) (slice_index xs 0)

-- at most as many numbers as there can be sensors
abbrev pub fitting : List ℕ → Option (List ℕ)
fitting xs = cond (nat_le (length xs) 64) (Some xs) None

-- one number more at the end, if it fits
abbrev pub with_number : List ℕ → ℕ → Option (List ℕ)
with_number xs v = fitting (xs ++ v ∷ [])
