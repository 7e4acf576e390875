-- A list of numbers, column by column.
use Rattle.std.proofs.Common.{◌≡◌, ℕ, Bool, true, false, cond, ◌&&◌, eqb, nat_le, List, [], ◌∷◌, ◌++◌, length, drop, Some, None, Option, sym, refl, ap, ◌∙◌, append_assoc, arith, length-append}
use Rattle.std.specs.Bool.{then_some}
use Rattle.std.specs.Option.{option_and_then}
use Rattle.std.proofs.lemmas.Bool.{cond-false}
use Rattle.std.proofs.lemmas.Bool.Decides.{nat_tests}
use Rattle.refusal.specs.Outcomes.{Outcome, accepted, refused}
use Rattle.refusal.proofs.Outcomes.{refused_accepted, same_from_accepted}
use Rattle.survey.specs.Lists.{fitting, with_number}
use Rattle.text.specs.Lines.{fitted}
use Rattle.text.specs.Columns.{number as column_number, and_next, lead}
use Rattle.text.specs.Reading.{Read, a_number, number_first, led_by, a_list}
use Rattle.text.proofs.Columns.{and_next_parts}
use Rattle.text.specs.Tokens.{number, part_first}

abbrev number_then : List ℕ → ℕ → Option (Read ℕ)
number_then rest v = Some (record { got = v; rest = rest })

-- four bytes that begin a number column do not begin with the end mark
number_no_end : (a b c d v : ℕ) → column_number a b c d ≡ Some v → eqb a 59 ≡ false
number_no_end a b c d v e = let first = and_next_parts (lead 0 a) _ v e in let h = first.1 in grind (arith, nat_tests)

number_is : (a b c d v : ℕ) (rest : List ℕ) → Some v ≡ number_first (a ∷ (b ∷ (c ∷ (d ∷ rest)))) → column_number a b c d ≡ Some v
number_is a b c d v rest e =
    let p = and_next_parts (a_number (a ∷ (b ∷ (c ∷ (d ∷ rest))))) _ v (sym e) in
    let q = and_next_parts (column_number a b c d) _ p.0 p.1 in
    let at = q.1 in let same = q.2 in let got = p.2 in
    let w : q.0 ≡ p.0.got = cc in let v-is : p.0.got ≡ v = cc in
    at ∙ ap Some (w ∙ v-is)

pub a_number_first : (s : List ℕ) (v : ℕ) → Some v ≡ number_first s → a_number s ≡ Some (record { got = v; rest = drop 4 s })
a_number_first [] v e = cc
a_number_first (a ∷ []) v e = cc
a_number_first (a ∷ (b ∷ [])) v e = cc
a_number_first (a ∷ (b ∷ (c ∷ []))) v e = cc
a_number_first (a ∷ (b ∷ (c ∷ (d ∷ rest)))) v e = ap (λ o. and_next o (number_then rest)) (number_is a b c d v rest e)

-- a list that begins with a number
pub a_list_number : (s : List ℕ) (v : ℕ) → Some v ≡ number_first s → a_list s ≡ led_by v (a_list (drop 4 s))
a_list_number [] v e = cc
a_list_number (a ∷ []) v e = cc
a_list_number (a ∷ (b ∷ [])) v e = cc
a_list_number (a ∷ (b ∷ (c ∷ []))) v e = cc
a_list_number (a ∷ (b ∷ (c ∷ (d ∷ rest)))) v e =
    let n = number_is a b c d v rest e in
    cond-false _ _ _ (number_no_end a b c d v n) ∙ ap (λ o. and_next o (λ v. led_by v (a_list rest))) n

-- the same, by the token that stands first
a_list_part : (s : List ℕ) (v : ℕ) → Some (number v) ≡ part_first s → a_list s ≡ led_by v (a_list (drop 4 s))
a_list_part [] v e = cc
a_list_part (a ∷ []) v e = grind (arith, nat_tests)
a_list_part (a ∷ (b ∷ [])) v e = grind (arith, nat_tests)
a_list_part (a ∷ (b ∷ (c ∷ []))) v e = grind (arith, nat_tests)
a_list_part (a ∷ (b ∷ (c ∷ (d ∷ rest)))) v e = grind (arith, nat_tests)

-- numbers that were read before a list
abbrev pub led_all : List ℕ → Option (Read (List ℕ)) → Option (Read (List ℕ))
led_all before None = None
led_all before (Some r) = Some (record { got = before ++ r.got; rest = r.rest })

led_all_more : (before : List ℕ) (v : ℕ) (o : Option (Read (List ℕ))) → led_all before (led_by v o) ≡ led_all (before ++ v ∷ []) o
led_all_more before v None = refl
led_all_more before v (Some r) = ap (λ xs. Some (record { got = xs; rest = r.rest })) (sym (append_assoc before (v ∷ []) r.got))

-- a list that fits, and one number more
with_fitting : (before : List ℕ) (v : ℕ) → option_and_then (λ xs. with_number xs v) (fitting before) ≡ fitting (before ++ v ∷ [])
with_fitting before v = go (nat_le (length before) 64) refl
  where
    go : (t : Bool) → nat_le (length before) 64 ≡ t → option_and_then (λ xs. with_number xs v) (cond t (Some before) None) ≡ fitting (before ++ v ∷ [])
    go true e = refl
    go false e =
        let long : nat_le (length (before ++ v ∷ [])) 64 ≡ false = grind (arith, nat_tests, length-append before (v ∷ [])) in
        sym (cond-false _ _ _ long)

-- a number is added: it has a place or has none, and if one before it had none, the list fits no more
pub fits_push : (fits place : Bool) (numbers next : List ℕ) (v : ℕ) → then_some place next ≡ with_number numbers v
    → then_some (fits && place) next ≡ option_and_then (λ xs. with_number xs v) (then_some fits numbers)
fits_push true place numbers next v e = e
fits_push false place numbers next v e = refl

-- a list is being read: `all` is the whole, `numbers` those read so far if they fit, and `rest` is still to be read
pub record Listing (all : Option (Read (List ℕ))) (numbers : Option (List ℕ)) (rest : List ℕ) : Type 0 where
  pub before : List ℕ
  pub whole : all ≡ led_all before (a_list rest)
  pub kept : numbers ≡ fitting before

pub listing_more : {all : Option (Read (List ℕ))} {numbers next : Option (List ℕ)} {s new : List ℕ} (v : ℕ) → Listing all numbers s
    → Some (number v) ≡ part_first s → new ≡ drop 4 s → next ≡ option_and_then (λ xs. with_number xs v) numbers → Listing all next new
listing_more {s = s} v l part e n = record {
  before = l.before ++ v ∷ [];
  whole =
      l.whole ∙ ap (led_all l.before) (a_list_part s v part) ∙ led_all_more l.before v (a_list (drop 4 s))
      ∙ ap (λ rest. led_all (l.before ++ v ∷ []) (a_list rest)) (sym e);
  kept = n ∙ ap (option_and_then (λ xs. with_number xs v)) l.kept ∙ with_fitting l.before v;
}

-- a list that was read, and whether it fits
pub fitted_accepted : (o : Outcome (Read (List ℕ))) (f : Option (List ℕ)) (rest : List ℕ) → accepted (record { got = f; rest = rest }) ≡ fitted o
    → (list : List ℕ) × (o ≡ accepted (record { got = list; rest = rest })) × (f ≡ fitting list)
fitted_accepted (accepted r) f rest e =
    let same : ◌≡◌ {A = Read (Option (List ℕ))} (record { got = f; rest = rest }) (record { got = fitting r.got; rest = r.rest }) = same_from_accepted e in
    (r.got, ap (λ t. accepted (record { got = r.got; rest = t })) (sym (ap (λ q. q.rest) same)), ap (λ q. q.got) same)
fitted_accepted (refused k) f rest e = absurd (refused_accepted (sym e))

pub fitted_refused : (o : Outcome (Read (List ℕ))) (k : ℕ) → refused k ≡ fitted o → o ≡ refused k
fitted_refused (accepted r) k e = absurd (refused_accepted e)
fitted_refused (refused m) k e = cc

pub some_fits : (xs list : List ℕ) → Some xs ≡ fitting list → xs ≡ list
some_fits xs list e = grind (arith, nat_tests)
