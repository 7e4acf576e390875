-- A rising list ascends and is short; it is what a run of numbers has of its members, and what a test keeps of a run rises.
use Rattle.std.proofs.Common.{◌≡◌, ℕ, zero, suc, ◌+◌, ◌-◌, ◌<◌, ◌≤◌, Bool, true, false, cond, ◌||◌, List, [], ◌∷◌, ◌++◌, length, get_or, sym, refl, ap, ◌∙◌, subst, ap₂, inl, inr, arith}
use Rattle.std.specs.List.{AllByRecursion}
use Rattle.std.proofs.lemmas.Bool.{cases_eq, eq-eqb, ne_eqb, eqb-true, eqb-false, leb-true, ltb-true, lt-ltb, le-leb, cond-true, cond-false, and_parts, and_from, or_left, or_cases, both_ways, not-true, not_from_false}
use Rattle.survey.specs.Lists.{numbers, member}
use Rattle.survey.proofs.Lists.{false_from, sift, gather_same}
use Rattle.text.specs.Reading.{rising}

-- y may follow `before` in the line of sensor x
pub record Follows (n x before y : ℕ) : Type 0 where
  pub above : before < y
  pub most : y ≤ n
  pub other : ¬ (y ≡ x)

rising_parts : (n x before y : ℕ) (ys : List ℕ) → rising n x before (y ∷ ys) ≡ true → Follows n x before y × (rising n x y ys ≡ true)
rising_parts n x before y ys e =
    let p = and_parts _ _ e in let q = and_parts _ _ p.0 in let r = and_parts _ _ q.0 in
    (record { above = ltb-true _ _ r.0; most = leb-true _ _ r.1; other = eqb-false _ _ (not-true _ q.1) }, p.1)

rising_from : (n x before y : ℕ) (ys : List ℕ) → Follows n x before y → rising n x y ys ≡ true → rising n x before (y ∷ ys) ≡ true
rising_from n x before y ys f e =
    and_from _ _ (and_from _ _ (and_from _ _ (lt-ltb _ _ f.above) (le-leb _ _ f.most)) (not_from_false _ (ne_eqb _ _ f.other))) e

-- a rising list is short
length_rising : (n x before : ℕ) (row : List ℕ) → rising n x before row ≡ true → length row ≤ n - before
length_rising n x before [] e = omega arith
length_rising n x before (y ∷ ys) e =
    let p = rising_parts n x before y ys e in
    omega (arith, p.0.above, p.0.most, length_rising n x y ys p.1)

pub rising_long : (n x : ℕ) (row : List ℕ) → n < length row → rising n x 0 row ≡ false
rising_long n x row l = false_from _ (λ t. omega (arith, length_rising n x 0 row t))

-- each is above the one before it
abbrev pub Ascends : List ℕ → Type 0
Ascends row = (k : ℕ) → k + 1 < length row → get_or row k 0 < get_or row (k + 1) 0

rising_ascends : (n x before : ℕ) (row : List ℕ) → rising n x before row ≡ true → Ascends row
rising_ascends n x before [] e k l = absurd (omega arith)
rising_ascends n x before (y ∷ []) e k l = absurd (omega arith)
rising_ascends n x before (y ∷ (z ∷ zs)) e zero l = (rising_parts n x y z zs (rising_parts n x before y (z ∷ zs) e).1).0.above
rising_ascends n x before (y ∷ (z ∷ zs)) e (suc k) l =
    let next : suc k + 1 ≡ suc (k + 1) = omega arith in
    rw next (rising_ascends n x y (z ∷ zs) (rising_parts n x before y (z ∷ zs) e).1 k (omega arith))

-- where a number is not above the one before it, the list does not rise
pub rising_unsorted : (n x : ℕ) (row : List ℕ) (k : ℕ) → k + 1 < length row → get_or row (k + 1) 0 ≤ get_or row k 0 → rising n x 0 row ≡ false
rising_unsorted n x row k l h = false_from _ (λ t. omega (arith, rising_ascends n x 0 row t k l))

pub member_rising : (n x before : ℕ) (row : List ℕ) (y : ℕ) → rising n x before row ≡ true → member y row ≡ true → Follows n x before y
member_rising n x before [] y e m = absurd (both_ways _ refl m)
member_rising n x before (z ∷ zs) y e m =
    let p = rising_parts n x before z zs e in
    elim (or_cases _ _ m) [
      | inl q ↦ subst (Follows n x before) (sym (eqb-true y z q)) p.0
      | inr q ↦
          let f = member_rising n x z zs y p.1 q in
          record { above = omega (arith, p.0.above, f.above); most = f.most; other = f.other }
    ]

-- what may not follow is no member
pub member_rising_false : (n x before : ℕ) (row : List ℕ) (y : ℕ) → rising n x before row ≡ true → ¬ Follows n x before y → member y row ≡ false
member_rising_false n x before row y e never = false_from _ (λ m. never (member_rising n x before row y e m))

pub all_rising : (n x before : ℕ) (row : List ℕ) (most : ℕ) → rising n x before row ≡ true → n < most → AllByRecursion (λ v. v < most) row
all_rising n x before [] most e l = tt
all_rising n x before (y ∷ ys) most e l =
    let p = rising_parts n x before y ys e in (omega (arith, p.0.most), all_rising n x y ys most p.1 l)

-- the head of a rising list is no concern of the numbers above it
sift_tail : (y k m : ℕ) (ys : List ℕ) → y < k → sift (λ z. member z (y ∷ ys)) (numbers k m) ≡ sift (λ z. member z ys) (numbers k m)
sift_tail y k m ys l = gather_same _ _ k m (λ z a b. ap (λ t. cond (t || member z ys) (z ∷ []) []) (ne_eqb z y (omega arith)))

-- a rising list whose head is above `before` rises from there too
rising_raise : (n x b before y : ℕ) (ys : List ℕ) → rising n x b (y ∷ ys) ≡ true → before < y → rising n x before (y ∷ ys) ≡ true
rising_raise n x b before y ys e l =
    let p = rising_parts n x b y ys e in
    rising_from n x before y ys (record { above = l; most = p.0.most; other = p.0.other }) p.1

-- walk along the run: its first number is the head of the list, or no member
pub sift_member : (n x k b : ℕ) (row : List ℕ) → b + k ≡ n → rising n x b row ≡ true → sift (λ y. member y row) (numbers (suc b) k) ≡ row
sift_member n x zero b [] s e = refl
sift_member n x zero b (y ∷ ys) s e = let p = rising_parts n x b y ys e in absurd (omega (arith, p.0.above, p.0.most))
sift_member n x (suc k) b [] s e = sift_member n x k (suc b) [] (omega arith) refl
sift_member n x (suc k) b (y ∷ ys) s e =
    let p = rising_parts n x b y ys e in
    let above : b < y = p.0.above in
    elim (cases_eq y (suc b)) [
      | inl q ↦
          let here = cond-true _ _ _ (or_left _ _ (eq-eqb (suc b) y (sym q))) ∙ ap (λ w. w ∷ []) (sym q) in
          let tail = subst (λ w. rising n x w ys ≡ true) q p.1 in
          ap₂ ◌++◌ here (sift_tail y (suc (suc b)) k ys (omega arith) ∙ sift_member n x k (suc b) ys (omega arith) tail)
      | inr d ↦
          let still = rising_raise n x b (suc b) y ys e (omega arith) in
          let none = member_rising_false n x (suc b) (y ∷ ys) (suc b) still (λ f. omega (arith, f.above)) in
          ap₂ ◌++◌ (cond-false _ _ _ none) (sift_member n x k (suc b) (y ∷ ys) (omega arith) still)
    ]

-- take the next number of the run or pass it by: what follows is above it, or above the one before
pub rising_sift : (f : ℕ → Bool) (n x : ℕ) → f x ≡ false → (m k b : ℕ) → b < k → k + m ≡ suc n → rising n x b (sift f (numbers k m)) ≡ true
rising_sift f n x e zero k b l s = refl
rising_sift f n x e (suc m) k b l s =
    go (f k) refl (rising_sift f n x e m (suc k) k (omega arith) (omega arith)) (rising_sift f n x e m (suc k) b (omega arith) (omega arith))
  where
    go : (t : Bool) → f k ≡ t → rising n x k (sift f (numbers (suc k) m)) ≡ true → rising n x b (sift f (numbers (suc k) m)) ≡ true
        → rising n x b (cond t (k ∷ []) [] ++ sift f (numbers (suc k) m)) ≡ true
    go true q taken left = rising_from n x b k _ (record { above = l; most = omega arith; other = λ o. both_ways _ e (sym (ap f o) ∙ q) }) taken
    go false q taken left = left
