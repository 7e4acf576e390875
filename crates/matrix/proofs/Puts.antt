-- Puts one after another, and the room that they need.
use Rattle.std.proofs.Common.{◌≡◌, ℕ, zero, suc, ◌+◌, ◌*◌, ◌<◌, ◌≤◌, max, Bool, true, false, cond, not, ◌&&◌, eqb, ltb, leb, List, [], ◌∷◌, ◌++◌, Ok, Err, Result, sym, refl, ap, ◌∙◌, ⊎_elim, arith}
use Rattle.std.proofs.ByRecursion.{All-weaker}
use Rattle.std.proofs.lemmas.Bool.{cond-true, cond-false, lt-ltb, lt-leb, le-leb, cases_lt}
use Rattle.std.proofs.lemmas.Bool.Decides.{nat_tests}
use Rattle.refusal.specs.declared.Refusal.{Refusal}
use Rattle.refusal.specs.declared.Refusal.TheVariants.{StoreFull}
use Rattle.refusal.specs.Numbers.{number_of}
use Rattle.refusal.specs.Outcomes.{Outcome, accepted, refused, and_then}
use Rattle.matrix.specs.declared.put.Put.{Put}
use Rattle.matrix.specs.Matrix.{Matrix, within, count, one_if_not_zero, put_into, played, highest}
use Rattle.matrix.specs.Terms.{Terms, limit_of, told, left_by, put_outcome, put_after, puts_outcome, puts_after}
use Rattle.matrix.specs.Theorems.{HighestSplits, Fits, HighestTells, FirstPastLimit, AcceptedPlayed}
use Rattle.matrix.proofs.Counts.{count_put, count_le}

pub played-++ : (m : Matrix) (ps qs : List Put) → played m (ps ++ qs) ≡ played (played m ps) qs
played-++ m [] qs = refl
played-++ m (p ∷ ps) qs = played-++ (put_into m p) ps qs

pub highest_first : (m : Matrix) (ps : List Put) → count m ≤ highest m ps
highest_first m [] = omega arith
highest_first m (p ∷ ps) = omega arith

pub highest_last : (m : Matrix) (ps : List Put) → count (played m ps) ≤ highest m ps
highest_last m [] = omega arith
highest_last m (p ∷ ps) = omega (arith, highest_last (put_into m p) ps)

pub highest-++ : HighestSplits
highest-++ m [] qs = omega (arith, highest_first m qs)
highest-++ m (p ∷ ps) qs = omega (arith, highest-++ (put_into m p) ps qs)

-- the shape stays
pub played_rows : (m : Matrix) (ps : List Put) → (played m ps).rows ≡ m.rows
played_rows m [] = refl
played_rows m (p ∷ ps) = played_rows (put_into m p) ps

pub played_columns : (m : Matrix) (ps : List Put) → (played m ps).columns ≡ m.columns
played_columns m [] = refl
played_columns m (p ∷ ps) = played_columns (put_into m p) ps

pub limit_played : (t : Terms) (m : Matrix) (ps : List Put) → limit_of t (played m ps) ≡ limit_of t m
limit_played t m ps = ap (λ r. t.limit r (played m ps).columns) (played_rows m ps) ∙ ap (t.limit m.rows) (played_columns m ps)

-- puts in turn split where a list does
outcome_split : (o a b c : Outcome (Unit {0})) → a ≡ and_then b (λ _. c) → and_then o (λ _. a) ≡ and_then (and_then o (λ _. b)) (λ _. c)
outcome_split (accepted _) a b c e = e
outcome_split (refused k) a b c e = refl

after_split : (o b : Outcome (Unit {0})) (x y z old : Matrix) → x ≡ left_by b y z → left_by o x old ≡ left_by (and_then o (λ _. b)) y (left_by o z old)
after_split (accepted _) b x y z old e = e
after_split (refused k) b x y z old e = refl

pub puts_outcome-++ : (t : Terms) (m : Matrix) (ps qs : List Put) → puts_outcome t m (ps ++ qs) ≡ and_then (puts_outcome t m ps) (λ _. puts_outcome t (played m ps) qs)
puts_outcome-++ t m [] qs = refl
puts_outcome-++ t m (p ∷ ps) qs = outcome_split (put_outcome t m p) _ _ _ (puts_outcome-++ t (put_into m p) ps qs)

pub puts_after-++ : (t : Terms) (m : Matrix) (ps qs : List Put) → puts_after t m (ps ++ qs) ≡ left_by (puts_outcome t m ps) (puts_after t (played m ps) qs) (puts_after t m ps)
puts_after-++ t m [] qs = refl
puts_after-++ t m (p ∷ ps) qs = after_split (put_outcome t m p) (puts_outcome t (put_into m p) ps) _ _ _ _ (puts_after-++ t (put_into m p) ps qs)

all_accepted : (o a : Outcome (Unit {0})) (x y old : Matrix) → and_then o (λ _. a) ≡ accepted tt → (a ≡ accepted tt → x ≡ y) → left_by o x old ≡ y
all_accepted (accepted _) a x y old e h = h e
all_accepted (refused k) a x y old e h = let z : ◌≡◌ {A = ℕ} 0 1 = cc in absurd (omega arith)

pub accepted_played : AcceptedPlayed
accepted_played t m [] h = refl
accepted_played t m (p ∷ ps) h = all_accepted (put_outcome t m p) (puts_outcome t (put_into m p) ps) _ _ _ h (accepted_played t (put_into m p) ps)

-- whether a put is refused for want of room is whether the count passes the limit
full_ways : (old v limit n n' : ℕ) → n ≤ limit → n' + one_if_not_zero old ≡ n + one_if_not_zero v
    → (eqb old 0 && (not (eqb v 0) && leb limit n)) ≡ not (leb n' limit)
full_ways zero zero limit n n' h e = grind (arith, nat_tests)
full_ways zero (suc v) limit n n' h e = grind (arith, nat_tests)
full_ways (suc old) zero limit n n' h e = grind (arith, nat_tests)
full_ways (suc old) (suc v) limit n n' h e = grind (arith, nat_tests)

cond_not : {A : Type 0} (b : Bool) (x y : A) → cond (not b) x y ≡ cond b y x
cond_not true x y = refl
cond_not false x y = refl

pub put_outcome_by : (t : Terms) (m : Matrix) (p : Put) → Fits t m p → count m ≤ limit_of t m
    → put_outcome t m p ≡ cond (leb (count (put_into m p)) (limit_of t m)) (accepted tt) (refused (number_of StoreFull))
put_outcome_by t m p h room =
    cond-true (within m p.row p.column) _ _ h.place ∙ cond-true (ltb p.code t.bound) _ _ (lt-ltb _ _ h.code)
    ∙ ap (λ b. cond b (refused (number_of StoreFull)) (accepted tt)) (full_ways (m.at p.row p.column) p.code (limit_of t m) (count m) (count (put_into m p)) room (count_put m p h.place))
    ∙ cond_not (leb (count (put_into m p)) (limit_of t m)) _ _

-- a put leaves the shape, so what fits still fits
fits_after : (t : Terms) (m : Matrix) (p q : Put) → Fits t m q → Fits t (put_into m p) q
fits_after t m p q h = record { place = h.place; code = h.code }

pub fits_played : (t : Terms) (m : Matrix) (ps : List Put) (q : Put) → Fits t m q → Fits t (played m ps) q
fits_played t m [] q h = h
fits_played t m (p ∷ ps) q h = fits_played t (put_into m p) ps q (fits_after t m p q h)

-- where the first put leaves room, the others decide
max_ways : (c h limit : ℕ) → c ≤ limit → leb h limit ≡ leb (max c h) limit
max_ways c h limit l = ⊎_elim
    (λ (p : limit < h). lt-leb h limit p ∙ sym (lt-leb (max c h) limit (omega arith)))
    (λ (p : h ≤ limit). le-leb h limit p ∙ sym (le-leb (max c h) limit (omega arith)))
    (cases_lt limit h)

pub highest_tells : HighestTells
highest_tells t m [] fit room = sym (cond-true (leb (count m) (limit_of t m)) _ _ (le-leb _ _ room))
highest_tells t m (p ∷ ps) fit room =
    let by = put_outcome_by t m p fit.0 room in
    let rest = puts_outcome t (put_into m p) ps in
    ⊎_elim
    (λ (over : limit_of t m < count (put_into m p)).
    ap (λ o. and_then o (λ _. rest)) (by ∙ cond-false (leb (count (put_into m p)) (limit_of t m)) _ _ (lt-leb _ _ over))
    ∙ sym (cond-false (leb (highest m (p ∷ ps)) (limit_of t m)) _ _ (lt-leb _ _ (omega (arith, highest_first (put_into m p) ps)))))
    (λ (under : count (put_into m p) ≤ limit_of t m).
    ap (λ o. and_then o (λ _. rest)) (by ∙ cond-true (leb (count (put_into m p)) (limit_of t m)) _ _ (le-leb _ _ under))
    ∙ highest_tells t (put_into m p) ps (All-weaker (Fits t m) (Fits t (put_into m p)) (fits_after t m p) ps fit.1) under
    ∙ ap (λ b. cond b (accepted tt) (refused (number_of StoreFull))) (max_ways (count m) (highest (put_into m p) ps) (limit_of t m) room))
    (cases_lt (limit_of t m) (count (put_into m p)))

pub first_past_limit : FirstPastLimit
first_past_limit t m ps p qs fit fits room over =
    let n = played m ps in
    let same : limit_of t n ≡ limit_of t m = limit_played t m ps in
    let before : puts_outcome t m ps ≡ accepted tt =
    highest_tells t m ps fit (omega (arith, highest_first m ps)) ∙ cond-true (leb (highest m ps) (limit_of t m)) _ _ (le-leb _ _ room) in
    let here : put_outcome t n p ≡ refused (number_of StoreFull) =
    put_outcome_by t n p (fits_played t m ps p fits) (omega (arith, highest_last m ps)) ∙ cond-false (leb (count (put_into n p)) (limit_of t n)) _ _ (lt-leb _ _ (omega arith)) in (
      puts_outcome-++ t m ps (p ∷ qs) ∙ ap (λ o. and_then o (λ _. puts_outcome t n (p ∷ qs))) before ∙ ap (λ o. and_then o (λ _. puts_outcome t (put_into n p) qs)) here,
      puts_after-++ t m ps (p ∷ qs) ∙ ap (λ o. left_by o (puts_after t n (p ∷ qs)) (puts_after t m ps)) before ∙ ap (λ o. left_by o (puts_after t (put_into n p) qs) n) here,
    )

-- Puts that were made, and those still to come: from m by ps is from n by qs.
pub record Leads (t : Terms) (m : Matrix) (ps : List Put) (n : Matrix) (qs : List Put) : Type 0 where
  pub outcomes : puts_outcome t m ps ≡ puts_outcome t n qs
  pub afters : puts_after t m ps ≡ puts_after t n qs

-- what the puts come to, as code answers it
pub record Comes (t : Terms) (m : Matrix) (ps : List Put) (r : Result (Unit {0}) Refusal) (n : Matrix) : Type 0 where
  pub answer : told r ≡ puts_outcome t m ps
  pub after : n ≡ puts_after t m ps

pub leads_start : (t : Terms) (m : Matrix) (ps qs : List Put) → ps ≡ qs → Leads t m ps m qs
leads_start t m ps qs e = record { outcomes = ap (puts_outcome t m) e; afters = ap (puts_after t m) e }

pub leads_by : (t : Terms) (m n : Matrix) (ps qs rs : List Put) → qs ≡ rs → Leads t m ps n qs → Leads t m ps n rs
leads_by t m n ps qs rs e h = record { outcomes = h.outcomes ∙ ap (puts_outcome t n) e; afters = h.afters ∙ ap (puts_after t n) e }

pub leads_put : (t : Terms) (m n n' : Matrix) (ps : List Put) (p : Put) (qs : List Put) (r : Result (Unit {0}) Refusal) (u : Unit {0})
    → Leads t m ps n (p ∷ qs) → told r ≡ put_outcome t n p → n' ≡ put_after t n p → r ≡ Ok u → Leads t m ps n' qs
leads_put t m n n' ps p qs r u h answer after was =
    let o : put_outcome t n p ≡ accepted u = sym answer ∙ ap told was in
    let is : put_into n p ≡ n' = sym (after ∙ ap (λ x. left_by x (put_into n p) n) o) in
    record {
      outcomes = h.outcomes ∙ ap (λ x. and_then x (λ _. puts_outcome t (put_into n p) qs)) o ∙ ap (λ k. puts_outcome t k qs) is;
      afters = h.afters ∙ ap (λ x. left_by x (puts_after t (put_into n p) qs) n) o ∙ ap (λ k. puts_after t k qs) is;
    }

pub leads_refused : (t : Terms) (m n n' : Matrix) (ps : List Put) (p : Put) (qs : List Put) (r s : Result (Unit {0}) Refusal) (e x : Refusal)
    → Leads t m ps n (p ∷ qs) → told r ≡ put_outcome t n p → n' ≡ put_after t n p → r ≡ Err e → s ≡ Err x → x ≡ e → Comes t m ps s n'
leads_refused t m n n' ps p qs r s e x h answer after was is same =
    let o : put_outcome t n p ≡ refused (number_of e) = sym answer ∙ ap told was in
    record {
      answer = ap told (is ∙ ap Err same) ∙ sym (h.outcomes ∙ ap (λ x. and_then x (λ _. puts_outcome t (put_into n p) qs)) o);
      after = after ∙ ap (λ x. left_by x (put_into n p) n) o ∙ sym (h.afters ∙ ap (λ x. left_by x (puts_after t (put_into n p) qs) n) o);
    }

pub leads_end : (t : Terms) (m n : Matrix) (ps qs : List Put) → Leads t m ps n qs → qs ≡ [] → Comes t m ps (Ok tt) n
leads_end t m n ps qs h e = record { answer = sym (h.outcomes ∙ ap (puts_outcome t n) e); after = sym (h.afters ∙ ap (puts_after t n) e) }

-- a store with room for every entry of its shape refuses no put that fits
pub roomy_put : (t : Terms) (m : Matrix) (p : Put) → limit_of t m ≡ m.rows * m.columns → Fits t m p → put_outcome t m p ≡ accepted tt
roomy_put t m p limit fits =
    put_outcome_by t m p fits (omega (arith, limit, count_le m)) ∙ cond-true (leb (count (put_into m p)) (limit_of t m)) _ _ (le-leb _ _ (omega (arith, limit, count_le (put_into m p))))

-- what code shows of a put that it accepts
pub put_done : (t : Terms) (m n : Matrix) (p : Put) → put_outcome t m p ≡ accepted tt → n ≡ put_into m p → n ≡ put_after t m p
put_done t m n p o e = e ∙ sym (ap (λ x. left_by x (put_into m p) m) o)
