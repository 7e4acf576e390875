-- Distinct sensors are from 1 to n and at most n; loops that test a fence.
use Rattle.std.proofs.Common.{◌≡◌, ℕ, suc, ◌+◌, ◌<◌, ◌≤◌, Bool, true, false, cond, not, ◌&&◌, ◌||◌, leb, List, [], ◌∷◌, length, get_or, drop, sym, refl, ap, ◌∙◌, ap₂, inl, inr, arith}
use Rattle.std.specs.List.{AllByRecursion}
use Rattle.std.proofs.lemmas.Bool.{and_parts, leb-true, not-true, eq-eqb, ne_eqb, or_left, cond-true, cond-false, cases_lt, lt-ltb, le-ltb}
use Rattle.std.proofs.ByRecursion.{All-get_or}
use mathlib.Core.Path.{fun_ext}
use Rattle.std.proofs.lemmas.Bool.Decides.{nat_tests}
use Rattle.survey.specs.Sets.{joining}
use Rattle.survey.specs.Lists.{numbers, after}
use Rattle.std.proofs.lemmas.List.{at_drop_more, at_drop_all}
use Rattle.survey.specs.declared.edge.Edge.{Edge}
use Rattle.survey.specs.Surveys.{Survey, Sensors, edge, meeting, distinct, nobody, all_linked, steps, steps_from}
use Rattle.survey.proofs.Lists.{sum, sum_one, sum_more}

-- x is a sensor's number
abbrev pub Within : ℕ → ℕ → Type 0
Within n x = (1 ≤ x) × (x ≤ n)

-- what the test of a list says of its first element, and of the others
pub record First (n : ℕ) (met : Sensors) (x : ℕ) (xs : List ℕ) : Type 0 where
  pub within : Within n x
  pub new : met x ≡ false
  pub others : distinct n (meeting x met) xs ≡ true

pub distinct_first : (n : ℕ) (met : Sensors) (x : ℕ) (xs : List ℕ) → distinct n met (x ∷ xs) ≡ true → First n met x xs
distinct_first n met x xs e =
    let p = and_parts _ _ e in let q = and_parts _ _ p.0 in let r = and_parts _ _ q.0 in
    record { within = (leb-true 1 x r.0, leb-true x n r.1); new = not-true _ q.1; others = p.1 }

pub distinct_within : (n : ℕ) (met : Sensors) (xs : List ℕ) → distinct n met xs ≡ true → AllByRecursion (Within n) xs
distinct_within n met [] e = tt
distinct_within n met (x ∷ xs) e =
    let first = distinct_first n met x xs e in (first.within, distinct_within n (meeting x met) xs first.others)

pub getD_within : (n : ℕ) (met : Sensors) (xs : List ℕ) (i : ℕ) → distinct n met xs ≡ true → i < length xs → Within n (get_or xs i 0)
getD_within n met xs i e l = All-get_or (Within n) xs i 0 l (distinct_within n met xs e)

-- how many of 1 to n are not met
abbrev unmet : ℕ → Sensors → ℕ
unmet n met = sum (λ y. cond (met y) 0 1) (numbers 1 n)

unmet_meeting : (n : ℕ) (met : Sensors) (x : ℕ) → Within n x → met x ≡ false → unmet n met ≡ suc (unmet n (meeting x met))
unmet_meeting n met x w e =
    sum_more _ _ x 1 n w.0 (omega arith)
    (cond-false _ 0 1 e ∙ ap suc (sym (cond-true _ 0 1 (or_left _ (met x) (eq-eqb x x refl)))))
    (λ y d. ap (λ b. cond (b || met y) 0 1) (sym (ne_eqb y x d)))

-- each element meets one more, so there are at most as many elements as were not met
length_unmet : (n : ℕ) (met : Sensors) (xs : List ℕ) → distinct n met xs ≡ true → length xs ≤ unmet n met
length_unmet n met [] e = omega arith
length_unmet n met (x ∷ xs) e =
    let first = distinct_first n met x xs e in
    omega (arith, unmet_meeting n met x first.within first.new, length_unmet n (meeting x met) xs first.others)

pub length_distinct : (n : ℕ) (xs : List ℕ) → distinct n nobody xs ≡ true → length xs ≤ n
length_distinct n xs e = omega (arith, length_unmet n nobody xs e, sum_one 1 n)

-- a loop over the list: one more is met, or it stops at one that is no sensor or was met
pub distinct_met : (n : ℕ) (met : Sensors) (xs : List ℕ) (i : ℕ) (b : Bool) → i < length xs
    → b ≡ (leb 1 (get_or xs i 0) && leb (get_or xs i 0) n && not (met (get_or xs i 0)))
    → distinct n met (drop i xs) ≡ (b && distinct n (meeting (get_or xs i 0) met) (drop (i + 1) xs))
distinct_met n met xs i b l t =
    at_drop_more (distinct n met) xs i 0 l ∙ ap (λ a. a && distinct n (meeting (get_or xs i 0) met) (drop (i + 1) xs)) (sym t)

-- a sensor that is new joins a set of sensors like any other set
pub joining_sensor : (n x : ℕ) (met : Sensors) → (leb 1 x && leb x n && not (met x)) ≡ true → n ≤ 64 → joining x met ≡ meeting x met
joining_sensor n x met new few = fun_ext (λ y. grind (arith, nat_tests))

-- a loop round the fence: the step from the place i, and those after it
pub steps_more : (xs : List ℕ) (i : ℕ) → i < length xs
    → steps_from (get_or xs 0 0) (drop i xs) ≡ edge (get_or xs i 0) (after xs i) ∷ steps_from (get_or xs 0 0) (drop (i + 1) xs)
steps_more xs i l = elim (cases_lt (i + 1) (length xs)) [
  | inl more ↦
      at_drop_more F xs i 0 l
      ∙ at_drop_more (λ ys. F (get_or xs i 0 ∷ ys)) xs (i + 1) 0 more
      ∙ ap₂ ◌∷◌ (ap (edge (get_or xs i 0)) (sym (cond-true _ (get_or xs (i + 1) 0) (get_or xs 0 0) (lt-ltb _ _ more)))) (sym (at_drop_more F xs (i + 1) 0 more))
  | inr end ↦
      at_drop_more F xs i 0 l
      ∙ at_drop_all (λ ys. F (get_or xs i 0 ∷ ys)) xs (i + 1) end
      ∙ ap₂ ◌∷◌ (ap (edge (get_or xs i 0)) (sym (cond-false _ (get_or xs (i + 1) 0) (get_or xs 0 0) (le-ltb _ _ end)))) (sym (at_drop_all F xs (i + 1) end))
]
  where
    F : List ℕ → List Edge
    F ys = steps_from (get_or xs 0 0) ys

-- the step has a link, or there is none and the fence is not closed
pub linked_step : (s : Survey) (xs : List ℕ) (i : ℕ) (b : Bool) → i < length xs
    → b ≡ s.linked (get_or xs i 0) (after xs i)
    → all_linked s (steps_from (get_or xs 0 0) (drop i xs)) ≡ (b && all_linked s (steps_from (get_or xs 0 0) (drop (i + 1) xs)))
linked_step s xs i b l t =
    ap (all_linked s) (steps_more xs i l) ∙ ap (λ a. a && all_linked s (steps_from (get_or xs 0 0) (drop (i + 1) xs))) (sym t)

pub steps_whole : (xs : List ℕ) → steps_from (get_or xs 0 0) xs ≡ steps xs
steps_whole [] = refl
steps_whole (x ∷ xs) = refl
