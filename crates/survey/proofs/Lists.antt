-- Sums, gatherings and members along lists and runs of numbers, and lists that fit.
use Rattle.std.proofs.Common.{◌≡◌, ℕ, zero, suc, ◌+◌, ◌<◌, ◌≤◌, Bool, true, false, cond, ◌&&◌, ◌||◌, eqb, List, [], ◌∷◌, ◌++◌, length, None, sym, refl, ap, ◌∙◌, ap₂, inl, inr, arith, length-append}
use Rattle.std.proofs.lemmas.Bool.{cases_eq, eq-eqb, eqb-true, or_left, or_right, or_from, or_parts, or_cases, and_right, both_ways}
use Rattle.std.proofs.lemmas.Bool.Decides.{nat_tests}
use Rattle.survey.specs.Lists.{numbers, gather, member, any, fitting}

pub false_from : (t : Bool) → (t ≡ true → ⊥) → t ≡ false
false_from true h = absurd (h refl)
false_from false h = refl

-- a list that does not fit
pub none_fits : (list : List ℕ) → None ≡ fitting list → 64 < length list
none_fits list e = grind (arith, nat_tests)

-- runs of numbers

pub length_numbers : (k n : ℕ) → length (numbers k n) ≡ n
length_numbers k zero = refl
length_numbers k (suc n) = ap suc (length_numbers (suc k) n)

pub member_numbers : (x k n : ℕ) → k ≤ x → x < k + n → member x (numbers k n) ≡ true
member_numbers x k zero l m = absurd (omega arith)
member_numbers x k (suc n) l m = elim (cases_eq x k) [
  | inl e ↦ or_left _ _ (eq-eqb x k e)
  | inr d ↦ or_right _ _ (member_numbers x (suc k) n (omega arith) (omega arith))
]

-- gatherings

pub gather_same : {B : Type 0} (f g : ℕ → List B) (k n : ℕ) → ((x : ℕ) → k ≤ x → x < k + n → f x ≡ g x) → gather f (numbers k n) ≡ gather g (numbers k n)
gather_same f g k zero h = refl
gather_same f g k (suc n) h =
    ap₂ ◌++◌ (h k (omega arith) (omega arith)) (gather_same f g (suc k) n (λ x l m. h x (omega arith) (omega arith)))

-- the elements of which f holds
abbrev pub sift : (ℕ → Bool) → List ℕ → List ℕ
sift f = gather (λ x. cond (f x) (x ∷ []) [])

-- one element more at the end
pub member_push : (b y : ℕ) (xs : List ℕ) → member b (xs ++ y ∷ []) ≡ (eqb b y || member b xs)
member_push b y [] = refl
member_push b y (x ∷ xs) = ap (λ t. eqb b x || t) (member_push b y xs) ∙ swap (eqb b x) (eqb b y) (member b xs)
  where
    swap : (p q r : Bool) → (p || (q || r)) ≡ (q || (p || r))
    swap true true r = refl
    swap true false r = refl
    swap false q r = refl

pub member_sift : (f : ℕ → Bool) (y : ℕ) (xs : List ℕ) → member y (sift f xs) ≡ (member y xs && f y)
member_sift f y [] = refl
member_sift f y (x ∷ xs) = go (f x) (eqb y x) refl refl (member_sift f y xs)
  where
    go : (t u : Bool) → f x ≡ t → eqb y x ≡ u → member y (sift f xs) ≡ (member y xs && f y) → member y (cond t (x ∷ []) [] ++ sift f xs) ≡ ((u || member y xs) && f y)
    go true true p q h = or_left _ _ q ∙ sym (ap f (eqb-true y x q) ∙ p)
    go true false p q h = ap (λ b. b || member y (sift f xs)) q ∙ h
    go false true p q h = let none = ap f (eqb-true y x q) ∙ p in h ∙ and_right _ _ none ∙ sym none
    go false false p q h = h

-- does f hold of some element?

pub any_false : {A : Type 0} (f : A → Bool) (xs : List A) → ((x : A) → f x ≡ false) → any f xs ≡ false
any_false f [] h = refl
any_false f (x ∷ xs) h = or_from _ _ (h x) (any_false f xs h)

pub any_none : (f : ℕ → Bool) (xs : List ℕ) (x : ℕ) → any f xs ≡ false → member x xs ≡ true → f x ≡ false
any_none f [] x h m = absurd (both_ways _ refl m)
any_none f (y ∷ ys) x h m =
    let p = or_parts _ _ h in
    elim (or_cases _ _ m) [
      | inl e ↦ ap f (eqb-true x y e) ∙ p.0
      | inr e ↦ any_none f ys x p.1 e
    ]

-- sums

-- of what f gives at each element
abbrev pub sum : {A : Type 0} → (A → ℕ) → List A → ℕ
sum f [] = 0
sum f (x ∷ xs) = f x + sum f xs

pub length_gather : {A B : Type 0} (f : A → List B) (xs : List A) → length (gather f xs) ≡ sum (λ x. length (f x)) xs
length_gather f [] = refl
length_gather f (x ∷ xs) = omega (arith, length-append (f x) (gather f xs), length_gather f xs)

pub sum_ap : {A : Type 0} (f g : A → ℕ) (xs : List A) → ((x : A) → f x ≡ g x) → sum f xs ≡ sum g xs
sum_ap f g [] h = refl
sum_ap f g (x ∷ xs) h = ap₂ ◌+◌ (h x) (sum_ap f g xs h)

pub length_cond : {A : Type 0} (t : Bool) (x : A) → length (cond t (x ∷ []) []) ≡ cond t 1 0
length_cond true x = refl
length_cond false x = refl

pub sum_zero : {A : Type 0} (xs : List A) → sum (λ x. 0) xs ≡ 0
sum_zero [] = refl
sum_zero (x ∷ xs) = omega (arith, sum_zero xs)

pub sum_add : {A : Type 0} (f g : A → ℕ) (xs : List A) → sum (λ x. f x + g x) xs ≡ sum f xs + sum g xs
sum_add f g [] = refl
sum_add f g (x ∷ xs) = omega (arith, sum_add f g xs)

pub sum_swap : {A B : Type 0} (f : A → B → ℕ) (xs : List A) (ys : List B) → sum (λ x. sum (λ y. f x y) ys) xs ≡ sum (λ y. sum (λ x. f x y) xs) ys
sum_swap f [] ys = sym (sum_zero ys)
sum_swap f (x ∷ xs) ys = ap (λ m. sum (f x) ys + m) (sum_swap f xs ys) ∙ sym (sum_add (f x) (λ y. sum (λ x. f x y) xs) ys)

pub sum_same : (f g : ℕ → ℕ) (k n : ℕ) → ((x : ℕ) → k ≤ x → x < k + n → f x ≡ g x) → sum f (numbers k n) ≡ sum g (numbers k n)
sum_same f g k zero h = refl
sum_same f g k (suc n) h =
    ap₂ ◌+◌ (h k (omega arith) (omega arith)) (sum_same f g (suc k) n (λ x l m. h x (omega arith) (omega arith)))

pub sum_one : (k n : ℕ) → sum (λ x. 1) (numbers k n) ≡ n
sum_one k zero = refl
sum_one k (suc n) = omega (arith, sum_one (suc k) n)

-- f is one more than g at x, and equal to it elsewhere
pub sum_more : (f g : ℕ → ℕ) (x k n : ℕ) → k ≤ x → x < k + n → f x ≡ suc (g x) → ((y : ℕ) → ¬ (y ≡ x) → f y ≡ g y)
    → sum f (numbers k n) ≡ suc (sum g (numbers k n))
sum_more f g x k zero l m e h = absurd (omega arith)
sum_more f g x k (suc n) l m e h = elim (cases_eq k x) [
  | inl q ↦
      let here : f k ≡ suc (g k) = ap f q ∙ e ∙ ap (λ y. suc (g y)) (sym q) in
      omega (arith, sum_same f g (suc k) n (λ y a b. h y (omega arith)))
  | inr d ↦ omega (arith, h k d, sum_more f g x (suc k) n (omega arith) (omega arith) e h)
]
