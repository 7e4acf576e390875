-- An N line from its parts, and all of them one after another.
use Rattle.std.proofs.Common.{◌≡◌, ℕ, zero, suc, ◌+◌, ◌-◌, ◌<◌, ◌≤◌, Bool, true, false, cond, ◌&&◌, ◌||◌, eqb, List, [], ◌∷◌, ◌++◌, length, get_or, Some, None, Ok, Err, Option, Result, sym, refl, ap, ◌∙◌, subst, append_assoc, append-nil, arith, length-append}
use mathlib.Core.Bool.{or-false}
use Rattle.std.proofs.lemmas.Bool.{eq-eqb, ne_eqb, cond-true, cond-false}
use Rattle.std.proofs.lemmas.Bool.Decides.{nat_tests}
use Rattle.refusal.specs.declared.Refusal.{Refusal}
use Rattle.refusal.specs.Outcomes.{Outcome, accepted, refused, and_then}
use Rattle.survey.specs.declared.neighbours.Neighbours.{Neighbours}
use Rattle.survey.specs.Lists.{member, fitting}
use Rattle.survey.specs.Tables.{at}
use Rattle.survey.proofs.Lists.{none_fits}
use Rattle.text.specs.Reading.{Read, byte, formed, a_number, a_list, rising, a_sensor_line, row_before, sensor_lines_of, names}
use Rattle.text.proofs.Lists.{fitted_accepted, fitted_refused, some_fits}
use Rattle.text.proofs.Rising.{rising_long}
use Rattle.text.specs.Lines.{fitted, NamesAll, Neighboured, LineRead, LinesRead}

-- the values of a line, once its form is read
abbrev valued : ℕ → ℕ → ℕ → Read (List ℕ) → Outcome (Read (List ℕ))
valued n x v list = cond (eqb v x) (cond (rising n x 0 list.got) (accepted list) (refused 4)) (refused 3)

-- the form of the line of x is read: a sensor v, and a list that is kept if it fits
pub record Formed (bytes : List ℕ) (old : Neighbours) (x v : ℕ) (f : Option (List ℕ)) (rest : List ℕ) : Type 0 where
  pub list : List ℕ
  pub line : a_sensor_line old.count x bytes ≡ valued old.count x v (record { got = list; rest = rest })
  pub fits : f ≡ fitting list

module _ (bytes a b : List ℕ) (old : Neighbours) (x v : ℕ)
    (letter : accepted a ≡ formed (byte 78 bytes))
    (number : accepted (record { got = v; rest = b }) ≡ formed (a_number a)) where
  line_listed : a_sensor_line old.count x bytes ≡ and_then (formed (a_list b)) (valued old.count x v)
  line_listed =
      ap (λ o. and_then o (λ after. and_then (formed (a_number after)) (λ sensor. and_then (formed (a_list sensor.rest)) (valued old.count x sensor.got)))) (sym letter)
      ∙ ap (λ o. and_then o (λ sensor. and_then (formed (a_list sensor.rest)) (valued old.count x sensor.got))) (sym number)

  pub line_malformed : (k : ℕ) → refused k ≡ fitted (formed (a_list b)) → a_sensor_line old.count x bytes ≡ refused k
  line_malformed k e = line_listed ∙ ap (λ o. and_then o (valued old.count x v)) (fitted_refused (formed (a_list b)) k e)

  pub line_formed : (f : Option (List ℕ)) (rest : List ℕ) → accepted (record { got = f; rest = rest }) ≡ fitted (formed (a_list b)) → Formed bytes old x v f rest
  line_formed f rest list =
      let p = fitted_accepted (formed (a_list b)) f rest list in
      record { list = p.0; line = line_listed ∙ ap (λ o. and_then o (valued old.count x v)) p.1; fits = p.2 }

module _ {bytes : List ℕ} {old : Neighbours} {x v : ℕ} {f : Option (List ℕ)} {rest : List ℕ} (form : Formed bytes old x v f rest) where
  pub line_out_of_turn : ¬ (v ≡ x) → a_sensor_line old.count x bytes ≡ refused 3
  line_out_of_turn d = form.line ∙ cond-false _ _ _ (ne_eqb v x d)

  pub line_rising : (t : Bool) → v ≡ x → rising old.count x 0 form.list ≡ t → a_sensor_line old.count x bytes ≡ cond t (accepted (record { got = form.list; rest = rest })) (refused 4)
  line_rising t e q = form.line ∙ cond-true _ _ _ (eq-eqb v x e) ∙ ap (λ t. cond t (accepted (record { got = form.list; rest = rest })) (refused 4)) q

  -- more numbers than there can be sensors do not rise
  pub line_long : v ≡ x → f ≡ None → a_sensor_line old.count x bytes ≡ refused 4
  line_long e none =
      let few : old.count ≤ 64 = old.most in
      let long = none_fits form.list (sym none ∙ form.fits) in
      line_rising false e (rising_long old.count x form.list (omega (arith, few, long)))

  pub line_read : (xs : List ℕ) (r : Result (Unit {0}) Refusal) (new : Neighbours) → v ≡ x → f ≡ Some xs → Neighboured old x xs r new → LineRead bytes old x r rest new
  line_read xs (Ok _) new e some h =
      let same = some_fits xs form.list (sym some ∙ form.fits) in
      (form.list, line_rising true e (ap (rising old.count x 0) (sym same) ∙ h.0), subst (λ (l : List ℕ). NamesAll old x l new) same h.1)
  line_read xs (Err k) new e some h =
      let same = some_fits xs form.list (sym some ∙ form.fits) in
      line_rising false e (ap (rising old.count x 0) (sym same) ∙ h.0) ∙ ap refused (sym h.1)

-- rows read before the others
abbrev rows_before : List (List ℕ) → Read (List (List ℕ)) → Outcome (Read (List (List ℕ)))
rows_before rows r = accepted (record { got = rows ++ r.got; rest = r.rest })

rows_before_none : (o : Outcome (Read (List (List ℕ)))) → and_then o (rows_before []) ≡ o
rows_before_none (accepted r) = refl
rows_before_none (refused k) = refl

rows_before_more : (rows : List (List ℕ)) (row : List ℕ) (o : Outcome (Read (List (List ℕ))))
    → and_then (and_then o (row_before row)) (rows_before rows) ≡ and_then o (rows_before (rows ++ row ∷ []))
rows_before_more rows row (accepted r) = ap (λ all. accepted (record { got = all; rest = r.rest })) (sym (append_assoc rows (row ∷ []) r.got))
rows_before_more rows row (refused k) = refl

eqb_suc : (m n : ℕ) → eqb (suc m) (suc n) ≡ eqb m n
eqb_suc m n = grind (arith, nat_tests)

get_d_push : (rows : List (List ℕ)) (row : List ℕ) (i b : ℕ)
    → member b (get_or (rows ++ row ∷ []) i []) ≡ ((eqb i (length rows) && member b row) || member b (get_or rows i []))
get_d_push [] row zero b = sym (or-false (member b row))
get_d_push [] row (suc i) b = ap (λ t. (t && member b row) || false) (sym (ne_eqb (suc i) 0 (omega arith)))
get_d_push (r ∷ rs) row zero b = ap (λ t. (t && member b row) || member b r) (sym (ne_eqb 0 (suc (length rs)) (omega arith)))
get_d_push (r ∷ rs) row (suc i) b = get_d_push rs row i b ∙ ap (λ t. (t && member b row) || member b (get_or rs i [])) (sym (eqb_suc i (length rs)))

-- one sensor's names more
names_push : (rows : List (List ℕ)) (row : List ℕ) (x a b : ℕ) → length rows + 1 ≡ x → names (rows ++ row ∷ []) a b ≡ ((eqb a x && member b row) || names rows a b)
names_push rows row x zero b e = ap (λ t. (t && member b row) || false) (sym (ne_eqb 0 x (omega arith)))
names_push rows row x (suc i) b e =
    let s : suc (length rows) ≡ x = omega arith in
    get_d_push rows row i b ∙ ap (λ t. (t && member b row) || member b (get_or rows i [])) (sym (ap (eqb (suc i)) (sym s) ∙ eqb_suc i (length rows)))

-- a loop over the N lines is at the line of x: the rows before it are read, and the names in them stand
pub record LinesOn (bytes : List ℕ) (old now : Neighbours) (here : List ℕ) (x : ℕ) : Type 0 where
  pub rows : List (List ℕ)
  pub long : length rows + 1 ≡ x
  pub read : and_then (sensor_lines_of old.count (old.count + 1 - x) x here) (rows_before rows) ≡ sensor_lines_of old.count old.count 1 bytes
  pub same : now.count ≡ old.count
  pub named : (a b : ℕ) → at now.rows a b ≡ names rows a b

pub lines_on_none : (bytes : List ℕ) (old : Neighbours) → ((x y : ℕ) → at old.rows x y ≡ false) → LinesOn bytes old old bytes 1
lines_on_none bytes old none = record {
  rows = [];
  long = omega arith;
  read = let m : old.count + 1 - 1 ≡ old.count = omega arith in rows_before_none _ ∙ ap (λ k. sensor_lines_of old.count k 1 bytes) m;
  same = refl;
  named = λ a b. none a b ∙ sym (nobody a b);
}
  where
    nobody : (a b : ℕ) → names [] a b ≡ false
    nobody zero b = refl
    nobody (suc a) b = refl

module _ (bytes : List ℕ) (old now : Neighbours) (here : List ℕ) (x : ℕ) (on : LinesOn bytes old now here x) where
  abbrev n : ℕ
  n = old.count

  -- the lines from that of x on, by the outcome of that line
  abbrev from_line : Outcome (Read (List ℕ)) → Outcome (Read (List (List ℕ)))
  from_line o = and_then (and_then o (λ row. and_then (sensor_lines_of n (n + 1 - (x + 1)) (x + 1) row.rest) (row_before row.got))) (rows_before on.rows)

  next_line : x < n + 1 → sensor_lines_of n n 1 bytes ≡ from_line (a_sensor_line now.count x here)
  next_line l =
      let m : n + 1 - x ≡ suc (n + 1 - (x + 1)) = omega arith in
      let s : suc x ≡ x + 1 = omega arith in
      sym on.read ∙ ap (λ k. and_then (sensor_lines_of n k x here) (rows_before on.rows)) m
      ∙ ap (λ y. and_then (and_then (a_sensor_line n x here) (λ row. and_then (sensor_lines_of n (n + 1 - (x + 1)) y row.rest) (row_before row.got))) (rows_before on.rows)) s
      ∙ ap (λ m. from_line (a_sensor_line m x here)) (sym on.same)

  pub lines_on_refused : (k : ℕ) → x < n + 1 → a_sensor_line now.count x here ≡ refused k → sensor_lines_of n n 1 bytes ≡ refused k
  lines_on_refused k l e = next_line l ∙ ap from_line e

  pub lines_on_more : (rest : List ℕ) (new : Neighbours) → x < n + 1 → LineRead here now x (Ok tt) rest new → LinesOn bytes old new rest (x + 1)
  lines_on_more rest new l h =
      let row = h.0 in
      record {
        rows = on.rows ++ row ∷ [];
        long = omega (arith, on.long, length-append on.rows (row ∷ []));
        read = sym (next_line l ∙ ap from_line h.1 ∙ rows_before_more on.rows row (sensor_lines_of n (n + 1 - (x + 1)) (x + 1) rest));
        same = h.2.count ∙ on.same;
        named = λ a b. h.2.rows a b ∙ ap (λ t. (eqb a x && member b row) || t) (on.named a b) ∙ sym (names_push on.rows row x a b on.long);
      }

  pub lines_on_all : n + 1 ≤ x → LinesRead bytes old (Ok tt) here now
  lines_on_all l =
      let m : n + 1 - x ≡ 0 = omega arith in (
        on.rows,
        sym on.read ∙ ap (λ k. and_then (sensor_lines_of n k x here) (rows_before on.rows)) m ∙ ap (λ rows. accepted (record { got = rows; rest = here })) (append-nil on.rows),
        on.same,
        on.named,
      )
