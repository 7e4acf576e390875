-- Four bytes say a number exactly if they are its column.
use Rattle.std.proofs.Common.{◌≡◌, ℕ, ◌/◌, ◌<◌, [], ◌∷◌, Some, None, Option, refl, ap, ◌∙◌, arith}
use Rattle.std.proofs.lemmas.Bool.Decides.{nat_tests}
use Rattle.std.proofs.lemmas.Option.{none-some}
use Rattle.text.specs.Columns.{digit_of, lead_of, column, lead, last, and_next, number}

pub and_next_some : {A B : Type 0} (o : Option A) (f : A → Option B) (x : A) → o ≡ Some x → and_next o f ≡ f x
and_next_some o f x e = ap (λ o. and_next o f) e

-- what both steps came to
pub and_next_parts : {A B : Type 0} (o : Option A) (f : A → Option B) (y : B) → and_next o f ≡ Some y → (x : A) × (o ≡ Some x) × (f x ≡ Some y)
and_next_parts None f y e = absurd (none-some _ e)
and_next_parts (Some x) f y e = (x, refl, e)

lead_parts : (before b v : ℕ) → lead before b ≡ Some v → (v / 10 ≡ before) × (b ≡ lead_of v)
lead_parts before b v e = (grind (arith, nat_tests), grind (arith, nat_tests))

last_parts : (before b v : ℕ) → last before b ≡ Some v → (v / 10 ≡ before) × (b ≡ digit_of v)
last_parts before b v e = (grind (arith, nat_tests), grind (arith, nat_tests))

lead_lead_of : (before v : ℕ) → v / 10 ≡ before → lead before (lead_of v) ≡ Some v
lead_lead_of before v e = grind (arith, nat_tests)

last_digit_of : (v : ℕ) → last (v / 10) (digit_of v) ≡ Some v
last_digit_of v = grind (arith, nat_tests)

-- the places of a number are those of its tenth, and its last digit
pub number_column_of : (a b c d v : ℕ) → number a b c d ≡ Some v → a ∷ (b ∷ (c ∷ (d ∷ []))) ≡ column v
number_column_of a b c d v e =
    let one = and_next_parts (lead 0 a) _ v e in
    let two = and_next_parts (lead one.0 b) _ v one.2 in
    let three = and_next_parts (lead two.0 c) _ v two.2 in
    let p = lead_parts 0 a one.0 one.1 in
    let q = lead_parts one.0 b two.0 two.1 in
    let r = lead_parts two.0 c three.0 three.1 in
    let s = last_parts three.0 d v three.2 in
    let tens : three.0 ≡ v / 10 = omega arith in
    let hundreds : two.0 ≡ v / 100 = omega arith in
    let thousands : one.0 ≡ v / 1000 = omega arith in
    cc

pub number_of_column : (v : ℕ) → v < 10000 → number (lead_of (v / 1000)) (lead_of (v / 100)) (lead_of (v / 10)) (digit_of v) ≡ Some v
number_of_column v l =
    and_next_some _ _ _ (lead_lead_of 0 (v / 1000) (omega arith))
    ∙ and_next_some _ _ _ (lead_lead_of (v / 1000) (v / 100) (omega arith))
    ∙ and_next_some _ _ _ (lead_lead_of (v / 100) (v / 10) (omega arith))
    ∙ last_digit_of v
