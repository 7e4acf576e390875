-- One addition of a reduction in a store: made if it is due, refused with the whole, and the end where none is due.
use Rattle.std.proofs.Common.{◌≡◌, ℕ, zero, suc, ◌+◌, ◌-◌, ◌<◌, Some, None, Ok, Err, Result, sym, refl, ap, ◌∙◌, subst, inl, inr, arith}
use Rattle.std.proofs.lemmas.Bool.{cases_lt}
use Rattle.refusal.specs.declared.Refusal.{Refusal}
use Rattle.refusal.specs.Numbers.{number_of}
use Rattle.refusal.specs.Outcomes.{Outcome, accepted, refused, and_then}
use Rattle.field.specs.Arithmetic.{Arithmetic, FieldLaws}
use Rattle.matrix.specs.Matrix.{Matrix, Entries, Outside, over, played}
use Rattle.matrix.specs.Terms.{Terms, told, puts_outcome, puts_after}
use Rattle.matrix.proofs.Puts.{puts_outcome-++, accepted_played}
use Rattle.matrix.proofs.Multiples.{adding_adds_lem}
use Rattle.homology.specs.Reduction.{Addition, Course, due, factor, added, addition_puts, before, still, course, enough}
use Rattle.homology.proofs.Lows.{some_not_none}
use Rattle.homology.proofs.Additions.{turn, added_codes}
use Rattle.reduction.specs.Progress.{left, left_outcome, Ready, Onward, Stops}

module _ (F : Arithmetic) (f : FieldLaws F) (E T : ℕ) where
  pub course_none : (fuel : ℕ) (M : Entries) → due E T M ≡ None → course F E T fuel M ≡ still M
  course_none zero M e = refl
  course_none (suc fuel) M e = ap (turn F E T fuel M) e

  -- where an addition is due, fewer than enough are done
  pub due_few : (m : Matrix) (k : ℕ) (a : Addition) → Ready F E T m k → due E T m.at ≡ Some a → k < enough T
  due_few m k a h e = elim (cases_lt k (enough T)) [
    | inl l ↦ l
    | inr l ↦
        let z : enough T - k ≡ 0 = omega arith in
        let here : (left F E T k m.at).matrix ≡ m.at = ap (λ n. (course F E T n m.at).matrix) z in
        absurd (some_not_none a (sym e ∙ ap (due E T) (sym here) ∙ h.ends))
  ]

  -- the addition that is due comes first in what is left
  pub left_due : (M : Entries) (k : ℕ) (a : Addition) → k < enough T → due E T M ≡ Some a
      → left F E T k M ≡ before 1 (addition_puts F (E + T) M a) (left F E T (k + 1) (added F M a))
  left_due M k a l e =
      let n : enough T - k ≡ suc (enough T - (k + 1)) = omega arith in
      ap (λ n. course F E T n M) n ∙ ap (turn F E T (enough T - (k + 1)) M) e

  pub onward_none : (t : Terms) (m : Matrix) (k : ℕ) → Ready F E T m k → Onward F E T t m k m k
  onward_none t m k h = record { ready = h; puts = refl; matrix = refl; additions = refl }

  pub onward_join : (t : Terms) (m n l : Matrix) (k j i : ℕ) → Onward F E T t m k n j → Onward F E T t n j l i → Onward F E T t m k l i
  onward_join t m n l k j i g h = record {
    ready = h.ready;
    puts = g.puts ∙ h.puts;
    matrix = g.matrix ∙ h.matrix;
    additions = g.additions ∙ h.additions;
  }

  pub onward_stops : (t : Terms) (m n : Matrix) (k j : ℕ) (e : Refusal) → Onward F E T t m k n j → Stops F E T t n j e → Stops F E T t m k e
  onward_stops t m n k j e g h = g.puts ∙ h

  -- what a store makes of the addition that is due
  module _ (t : Terms) (m n : Matrix) (k : ℕ) (a : Addition) (r : Result (Unit {0}) Refusal)
      (ready : Ready F E T m k) (out : Outside m) (is_due : due E T m.at ≡ Some a)
      (answer : told r ≡ puts_outcome t m (addition_puts F m.rows m.at a))
      (after : n ≡ puts_after t m (addition_puts F m.rows m.at a)) where
    abbrev next : Course
    next = left F E T (k + 1) (added F m.at a)

    puts_are : addition_puts F m.rows m.at a ≡ addition_puts F (E + T) m.at a
    puts_are = ap (λ R. addition_puts F R m.at a) ready.rows

    here : left F E T k m.at ≡ before 1 (addition_puts F (E + T) m.at a) next
    here = left_due m.at k a (due_few m k a ready is_due) is_due

    outcome_here : (o : Outcome (Unit {0})) → told r ≡ o → left_outcome F E T t m k ≡ and_then o (λ _. puts_outcome t (played m (addition_puts F (E + T) m.at a)) next.puts)
    outcome_here o e =
        ap (λ c. puts_outcome t m c.puts) here
        ∙ puts_outcome-++ t m (addition_puts F (E + T) m.at a) next.puts
        ∙ ap (λ o. and_then o (λ _. puts_outcome t (played m (addition_puts F (E + T) m.at a)) next.puts)) (ap (puts_outcome t m) (sym puts_are) ∙ sym answer ∙ e)

    made : (u : Unit {0}) → r ≡ Ok u → n ≡ over m (added F m.at a)
    made u e =
        after ∙ accepted_played t m (addition_puts F m.rows m.at a) (sym answer ∙ ap told e) ∙ adding_adds_lem F (factor F m.at a) a.from a.to m out

    pub onward_entries : (u : Unit {0}) → r ≡ Ok u → n.at ≡ added F m.at a
    onward_entries u e = ap (λ k. k.at) (made u e)

    pub onward_add : (u : Unit {0}) → r ≡ Ok u → Onward F E T t m k n (k + 1)
    onward_add u e =
        let is = made u e in
        let same : (left F E T k m.at).matrix ≡ (left F E T (k + 1) n.at).matrix = ap (λ c. c.matrix) here ∙ ap (λ M. (left F E T (k + 1) M).matrix) (sym (onward_entries u e)) in
        let moved : played m (addition_puts F (E + T) m.at a) ≡ n
        = ap (played m) (sym puts_are) ∙ adding_adds_lem F (factor F m.at a) a.from a.to m out ∙ sym is in
        record {
          ready = record {
            rows = ap (λ k. k.rows) is ∙ ready.rows;
            columns = ap (λ k. k.columns) is ∙ ready.columns;
            codes = subst (λ M. (r c : ℕ) → M r c < F.order) (sym (onward_entries u e)) (added_codes F f m.at ready.codes a);
            few = omega (arith, due_few m k a ready is_due);
            ends = ap (due E T) (sym same) ∙ ready.ends;
          };
          puts = outcome_here (accepted tt) (ap told e) ∙ (λ i. puts_outcome t (moved i) (left F E T (k + 1) (sym (onward_entries u e) i)).puts);
          matrix = same;
          additions = counted u e;
        }
      where
        counted : (u : Unit {0}) → r ≡ Ok u → k + (left F E T k m.at).additions ≡ k + 1 + (left F E T (k + 1) n.at).additions
        counted u e =
            let p : (left F E T k m.at).additions ≡ 1 + (left F E T (k + 1) n.at).additions = ap (λ c. c.additions) here ∙ ap (λ M. 1 + (left F E T (k + 1) M).additions) (sym (onward_entries u e)) in
            omega arith

    pub stops_add : (e : Refusal) → r ≡ Err e → Stops F E T t m k e
    stops_add e is = outcome_here (refused (number_of e)) (ap told is)

  -- where none is due, the whole is done
  module _ (t : Terms) (m n : Matrix) (j : ℕ) (h : Onward F E T t m 0 n j) (none : due E T n.at ≡ None) where
    ended : left F E T j n.at ≡ still n.at
    ended = course_none (enough T - j) n.at none

    pub ended_matrix : n.at ≡ (left F E T 0 m.at).matrix
    ended_matrix = sym (h.matrix ∙ ap (λ c. c.matrix) ended)

    pub ended_additions : j ≡ (left F E T 0 m.at).additions
    ended_additions = let p : (left F E T j n.at).additions ≡ 0 = ap (λ c. c.additions) ended in omega (arith, h.additions)

    pub ended_puts : left_outcome F E T t m 0 ≡ accepted tt
    ended_puts = h.puts ∙ ap (λ c. puts_outcome t n c.puts) ended
