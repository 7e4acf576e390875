-- What is still to come at each turn of a loop over the numbers below an end.
use Rattle.std.proofs.Common.{◌≡◌, ℕ, zero, suc, ◌+◌, ◌-◌, ◌<◌, ◌≤◌, Bool, true, false, cond, ◌||◌, List, [], ◌∷◌, ◌++◌, length, sym, refl, ap, ◌∙◌, arith, length-append}
use Rattle.survey.specs.Lists.{numbers, gather, any}
use Rattle.survey.proofs.Lists.{length_cond}

-- k, k + 1, .. below the end
abbrev pub below : ℕ → ℕ → List ℕ
below end k = numbers k (end - k)

pub below_more : (end k : ℕ) → k < end → below end k ≡ k ∷ below end (k + 1)
below_more end k h =
    let e : end - k ≡ suc (end - (k + 1)) = omega arith in
    let s : suc k ≡ k + 1 = omega arith in
    ap (numbers k) e ∙ ap (λ j. k ∷ numbers j (end - (k + 1))) s

pub below_none : (end k : ℕ) → end ≤ k → below end k ≡ []
below_none end k h = let e : end - k ≡ 0 = omega arith in ap (numbers k) e

pub below_one : (n : ℕ) → below (n + 1) 1 ≡ numbers 1 n
below_one n = let e : n + 1 - 1 ≡ n = omega arith in ap (numbers 1) e

-- how much is still to be gathered
abbrev pub ahead : {B : Type 0} → (ℕ → List B) → ℕ → ℕ → ℕ
ahead f end k = length (gather f (below end k))

pub ahead_more : {B : Type 0} (f : ℕ → List B) (end k : ℕ) → k < end → ahead f end k ≡ length (f k) + ahead f end (k + 1)
ahead_more f end k h = ap (λ l. length (gather f l)) (below_more end k h) ∙ length-append (f k) (gather f (below end (k + 1)))

pub ahead_none : {B : Type 0} (f : ℕ → List B) (end k : ℕ) → end ≤ k → ahead f end k ≡ 0
ahead_none f end k h = ap (λ l. length (gather f l)) (below_none end k h)

pub ahead_one : {B : Type 0} (f : ℕ → List B) (n : ℕ) → ahead f (n + 1) 1 ≡ length (gather f (numbers 1 n))
ahead_one f n = ap (λ l. length (gather f l)) (below_one n)

pub gather_none : {B : Type 0} (f : ℕ → List B) (k n : ℕ) → ((x : ℕ) → f x ≡ []) → gather f (numbers k n) ≡ []
gather_none f k zero h = refl
gather_none f k (suc n) h = ap (λ l. l ++ gather f (numbers (suc k) n)) (h k) ∙ gather_none f (suc k) n h

-- a step that gathers one where the test holds
pub ahead_if : {B : Type 0} (test : ℕ → Bool) (x : ℕ → B) (end k : ℕ) (b : Bool) → k < end → b ≡ test k
    → ahead (λ j. cond (test j) (x j ∷ []) []) end k ≡ cond b 1 0 + ahead (λ j. cond (test j) (x j ∷ []) []) end (k + 1)
ahead_if test x end k b h t =
    ahead_more _ end k h ∙ ap (λ n. n + ahead (λ j. cond (test j) (x j ∷ []) []) end (k + 1)) (length_cond (test k) (x k) ∙ ap (λ c. cond c 1 0) (sym t))

-- a search that stops where the test holds
pub any_here : (f : ℕ → Bool) (end k : ℕ) → k < end → true ≡ f k → any f (below end k) ≡ true
any_here f end k h t = ap (any f) (below_more end k h) ∙ ap (λ b. b || any f (below end (k + 1))) (sym t)

pub any_more : (f : ℕ → Bool) (end k : ℕ) → k < end → false ≡ f k → any f (below end k) ≡ any f (below end (k + 1))
any_more f end k h t = ap (any f) (below_more end k h) ∙ ap (λ b. b || any f (below end (k + 1))) (sym t)
