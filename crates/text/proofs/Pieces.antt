-- A byte, a number or a list that is read is the text of what was got, and its text is read back.
use Rattle.std.proofs.Common.{◌≡◌, ℕ, ◌/◌, ◌<◌, Bool, true, false, cond, eqb, List, [], ◌∷◌, ◌++◌, Some, None, Option, refl, ap, ◌∙◌, ap₂, append_assoc, arith}
use Rattle.std.specs.List.{AllByRecursion}
use Rattle.std.proofs.lemmas.Bool.{eqb-true, and_parts, cond-false, cond_both}
use Rattle.std.proofs.lemmas.Bool.Decides.{nat_tests}
use Rattle.refusal.specs.Outcomes.{accepted}
use Rattle.refusal.proofs.Outcomes.{refused_accepted}
use Rattle.survey.specs.Lists.{gather}
use Rattle.survey.specs.Surveys.{Survey, sensors}
use Rattle.text.specs.Columns.{lead_of, column, and_next, number}
use Rattle.text.specs.Text.{list_end, sensor_line_of, text}
use Rattle.text.specs.Reading.{Read, byte, a_number, led_by, ended, a_list, formed}
use Rattle.std.proofs.lemmas.Option.{none-some}
use Rattle.text.proofs.Columns.{and_next_some, and_next_parts, number_column_of, number_of_column}

pub formed_some : {A : Type 0} (o : Option A) (x : A) → formed o ≡ accepted x → o ≡ Some x
formed_some None x e = absurd (refused_accepted e)
formed_some (Some y) x e = cc

-- a test without which there is nothing
some_parts : {A : Type 0} (t : Bool) (x y : A) → cond t (Some x) None ≡ Some y → (t ≡ true) × (x ≡ y)
some_parts true x y e = (refl, cc)
some_parts false x y e = absurd (none-some _ e)

led_by_parts : (v : ℕ) (o : Option (Read (List ℕ))) (r : Read (List ℕ)) → led_by v o ≡ Some r
    → (q : Read (List ℕ)) × (o ≡ Some q) × (◌≡◌ {A = Read (List ℕ)} (record { got = v ∷ q.got; rest = q.rest }) r)
led_by_parts v None r e = absurd (none-some _ e)
led_by_parts v (Some q) r e = (q, refl, cc)

-- bytes

pub byte_text : (x : ℕ) (bytes rest : List ℕ) → byte x bytes ≡ Some rest → bytes ≡ x ∷ rest
byte_text x [] rest e = cc
byte_text x (a ∷ more) rest e = let p = some_parts _ more rest e in ap₂ ◌∷◌ (eqb-true a x p.0) p.1

-- numbers

abbrev number_text : Read ℕ → List ℕ
number_text r = column r.got ++ r.rest

pub a_number_text : (bytes : List ℕ) (r : Read ℕ) → a_number bytes ≡ Some r → bytes ≡ number_text r
a_number_text [] r e = cc
a_number_text (a ∷ []) r e = cc
a_number_text (a ∷ (b ∷ [])) r e = cc
a_number_text (a ∷ (b ∷ (c ∷ []))) r e = cc
a_number_text (a ∷ (b ∷ (c ∷ (d ∷ rest)))) r e =
    let p = and_next_parts (number a b c d) _ r e in
    let same : ◌≡◌ {A = Read ℕ} (record { got = p.0; rest = rest }) r = cc in
    ap (λ l. l ++ rest) (number_column_of a b c d p.0 p.1) ∙ ap number_text same

pub a_number_back : (v : ℕ) (rest : List ℕ) → v < 10000 → a_number (column v ++ rest) ≡ Some (record { got = v; rest = rest })
a_number_back v rest l = and_next_some _ _ _ (number_of_column v l)

-- lists

abbrev list_text : Read (List ℕ) → List ℕ
list_text r = gather column r.got ++ (list_end ++ r.rest)

ended_text : (a b : ℕ) (rest : List ℕ) (r : Read (List ℕ)) → ended a b rest ≡ Some r → a ∷ (b ∷ rest) ≡ list_text r
ended_text a b rest r e =
    let p = some_parts _ _ r e in let q = and_parts _ _ p.0 in
    ap₂ (λ x y. x ∷ (y ∷ rest)) (eqb-true a 59 q.0) (eqb-true b 10 q.1) ∙ ap list_text p.1

led_text : (a b c d : ℕ) (rest : List ℕ) (r : Read (List ℕ)) → ((q : Read (List ℕ)) → a_list rest ≡ Some q → rest ≡ list_text q)
    → and_next (number a b c d) (λ v. led_by v (a_list rest)) ≡ Some r → a ∷ (b ∷ (c ∷ (d ∷ rest))) ≡ list_text r
led_text a b c d rest r more e =
    let p = and_next_parts (number a b c d) _ r e in
    let q = led_by_parts p.0 (a_list rest) r p.2 in
    ap₂ ◌++◌ (number_column_of a b c d p.0 p.1) (more q.0 q.1) ∙ ap list_text q.2

pub a_list_text : (bytes : List ℕ) (r : Read (List ℕ)) → a_list bytes ≡ Some r → bytes ≡ list_text r
a_list_text [] r e = cc
a_list_text (a ∷ []) r e = cc
a_list_text (a ∷ (b ∷ [])) r e = ended_text a b [] r e
a_list_text (a ∷ (b ∷ (c ∷ []))) r e = ended_text a b (c ∷ []) r e
a_list_text (a ∷ (b ∷ (c ∷ (d ∷ rest)))) r e =
    cond_both (eqb a 59) _ _ (λ o. o ≡ Some r → a ∷ (b ∷ (c ∷ (d ∷ rest))) ≡ list_text r)
    (λ t. ended_text a b (c ∷ (d ∷ rest)) r)
    (λ t. led_text a b c d rest r (λ q. a_list_text rest q))
    e

list_end_back : (rest : List ℕ) → a_list (list_end ++ rest) ≡ Some (record { got = []; rest = rest })
list_end_back [] = refl
list_end_back (a ∷ []) = refl
list_end_back (a ∷ (b ∷ rest)) = refl

-- no column begins with the end mark
lead_of_mark : (v : ℕ) → eqb (lead_of v) 59 ≡ false
lead_of_mark v = grind (arith, nat_tests)

pub a_list_back : (vs : List ℕ) (rest : List ℕ) → AllByRecursion (λ v. v < 10000) vs → a_list (gather column vs ++ (list_end ++ rest)) ≡ Some (record { got = vs; rest = rest })
a_list_back [] rest h = list_end_back rest
a_list_back (v ∷ vs) rest h =
    cond-false _ _ _ (lead_of_mark (v / 1000)) ∙ and_next_some _ _ _ (number_of_column v h.0) ∙ ap (led_by v) (a_list_back vs rest h.1)

-- the whole

-- a text and the bytes behind it, bracketed to the right
pub text_append : (s : Survey) (rest : List ℕ) → text s ++ rest
    ≡ 83 ∷ (column s.count ++ (10 ∷ (gather (sensor_line_of s) (sensors s) ++ (70 ∷ (gather column s.fence ++ (list_end ++ rest))))))
text_append s rest = simp append_assoc
