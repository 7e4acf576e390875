-- The loops over the columns: what holds while one is worked at, from column to column, and along the last.
use Rattle.std.proofs.Common.{◌≡◌, ℕ, ◌+◌, ◌-◌, ◌*◌, ◌<◌, ◌≤◌, ◌≢◌, List, get_or, set, Some, None, Option, Ok, Err, Result, suc, sym, refl, ap, ◌∙◌, subst, inl, inr, mul-le-mul, arith}
use Rattle.refusal.specs.declared.Refusal.{Refusal}
use Rattle.field.specs.Arithmetic.{Arithmetic, FieldLaws}
use Rattle.matrix.specs.Matrix.{Matrix, Outside}
use Rattle.matrix.specs.Terms.{Terms, told, puts_outcome, puts_after}
use Rattle.matrix.specs.Nonzero.{last_nonzero_of}
use Rattle.homology.specs.Reduction.{Addition, low, due, addition_puts, enough}
use Rattle.homology.proofs.Due.{what_is_due_lem}
use Rattle.homology.proofs.Lows.{low_above}
use Rattle.reduction.specs.declared.columns.Settled.{Settled}
use Rattle.reduction.specs.Pivots.{Table, unless_zero}
use Rattle.reduction.specs.Progress.{Ready, Onward, Stops, ColumnSettled, Settles, AllSettled, Cleared}
use Rattle.reduction.proofs.Steps.{due_few, onward_none, onward_join, onward_stops, onward_add, onward_entries, stops_add}
use Rattle.reduction.proofs.Walks.{low_last}
use Rattle.reduction.proofs.Tables.{told_some, told_not, told_none, table_same, table_owned, low_inside, column_due, table_dead, table_more, others_stay, low_falls}
use Rattle.reduction.proofs.Targets.{QuietFrom, target_due, quiet_more, target_table, quiet_added}

-- so many additions are few enough to be counted
pub enough_small : (T : ℕ) → T ≤ 1024 → enough T ≤ 524800
enough_small T l = let h : T * (T + 1) ≤ 1024 * 1025 = mul-le-mul {n₁ = T} {m₁ = T + 1} {n₂ = 1024} {m₂ = 1025} l (omega arith) in omega arith

-- what a store answers to the addition `a`, and what it then holds
pub record Asked (F : Arithmetic) (t : Terms) (n new : Matrix) (a : Addition) (r : Result (Unit {0}) Refusal) : Type 0 where
  pub outside : Outside n
  pub answer : told r ≡ puts_outcome t n (addition_puts F n.rows n.at a)
  pub after : new ≡ puts_after t n (addition_puts F n.rows n.at a)

pub asked_of : {F : Arithmetic} {t u : Terms} {n new : Matrix} {r : Result (Unit {0}) Refusal} (a : Addition) → u ≡ t → Outside n
    → told r ≡ puts_outcome u n (addition_puts F n.rows n.at a) → new ≡ puts_after u n (addition_puts F n.rows n.at a) → Asked F t n new a r
asked_of {F = F} {n = n} a same outside answer after = record {
  outside = outside;
  answer = answer ∙ ap (λ t. puts_outcome t n (addition_puts F n.rows n.at a)) same;
  after = after ∙ ap (λ t. puts_after t n (addition_puts F n.rows n.at a)) same;
}

module _ (F : Arithmetic) (f : FieldLaws F) (E T : ℕ) (t : Terms) (m : Matrix) where
  -- Column c is worked at, and has come to a low.
  pub record InColumn (k c : ℕ) (table : List ℕ) (n : Matrix) (i : ℕ) (found : Option ℕ) : Type 0 where
    pub onward : Onward F E T t m k n i
    pub pivots : Table E n.at (c - 1) table
    pub is_low : found ≡ unless_zero (low E n.at c)

  -- The columns before c are reduced.
  pub record InColumns (c : ℕ) (table : List ℕ) (n : Matrix) (k : ℕ) : Type 0 where
    pub onward : Onward F E T t m 0 n k
    pub pivots : Table E n.at (c - 1) table

  -- The last column: the rows behind r are quiet.
  pub record InTarget (k : ℕ) (table : List ℕ) (n : Matrix) (i r : ℕ) : Type 0 where
    pub onward : Onward F E T t m k n i
    pub pivots : Table E n.at T table
    pub quiet : QuietFrom E T n.at r

module _ {F : Arithmetic} {f : FieldLaws F} {E T : ℕ} {t : Terms} {m : Matrix} where
  pub in_column_none : {k c : ℕ} {table : List ℕ} {found : Option ℕ} → Ready F E T m k → Table E m.at (c - 1) table → found ≡ last_nonzero_of (λ y. m.at y c) E → InColumn F f E T t m k c table m k found
  in_column_none {k = k} {c = c} ready pivots is_last = record { onward = onward_none F f E T t m k ready; pivots = pivots; is_low = is_last ∙ low_last m.at c E }

  module _ {k c : ℕ} {table : List ℕ} {n : Matrix} {i : ℕ} {found : Option ℕ} (h : InColumn F f E T t m k c table n i found) where
    -- there is no low
    pub in_column_dead : found ≡ None → ColumnSettled F E T t m k c table n (record { low = found; additions = i })
    in_column_dead none = record {
      onward = h.onward;
      pivots = h.pivots;
      is_low = h.is_low;
      free = ap (λ e. get_or table e 0) (told_none (low E n.at c) (sym none ∙ h.is_low)) ∙ h.pivots.none;
    }

    module _ {e : ℕ} (is : found ≡ Some e) where
      told_low : Some e ≡ unless_zero (low E n.at c)
      told_low = sym is ∙ h.is_low

      here : e ≡ low E n.at c
      here = told_some (low E n.at c) e told_low

      pub in_column_row : 1 ≤ e
      in_column_row = omega (arith, told_not (low E n.at c) e told_low)

      -- its low is nobody's
      pub in_column_free : None ≡ unless_zero (get_or table e 0) → ColumnSettled F E T t m k c table n (record { low = found; additions = i })
      in_column_free none = record {
        onward = h.onward;
        pivots = h.pivots;
        is_low = h.is_low;
        free = ap (λ e. get_or table e 0) (sym here) ∙ told_none (get_or table e 0) none;
      }

      module _ (within : (1 ≤ c) × (c ≤ T)) where
        at : c ≡ suc (c - 1)
        at = omega (arith, within.0)

        pub in_column_inside : e ≤ E
        in_column_inside = low_inside E T n.at (c - 1) c at table h.pivots e here

        -- its low has the owner o
        module _ {o : ℕ} (told_owner : Some o ≡ unless_zero (get_or table e 0)) where
          is_owner : o ≡ get_or table e 0
          is_owner = told_some (get_or table e 0) o told_owner

          owned : o ≢ 0
          owned = told_not (get_or table e 0) o told_owner

          is_due : due E T n.at ≡ Some (record { from = o; to = c; row = e })
          is_due = column_due E T n.at (c - 1) c at table h.pivots e here o (omega (arith, within.1)) is_owner owned

          pub in_column_few : i < enough T
          in_column_few = due_few F f E T n i _ h.onward.ready is_due

          module _ {new : Matrix} {r : Result (Unit {0}) Refusal} (asked : Asked F t n new (record { from = o; to = c; row = e }) r) where
            pub in_column_stops : {s : Refusal} → r ≡ Err s → Stops F E T t m k s
            in_column_stops {s = s} stops =
                onward_stops F f E T t m n k i s h.onward
                (stops_add F f E T t n new i (record { from = o; to = c; row = e }) r h.onward.ready asked.outside is_due asked.answer asked.after s stops)

            pub in_column_more : {u : Unit {0}} → r ≡ Ok u → {next : Option ℕ} → next ≡ last_nonzero_of (λ y. new.at y c) (e - 1) → InColumn F f E T t m k c table new (i + 1) next
            in_column_more {u = u} ok is_last =
                let a : Addition = record { from = o; to = c; row = e } in
                let one = onward_add F f E T t n new i a r h.onward.ready asked.outside is_due asked.answer asked.after u ok in
                let entries = onward_entries F f E T t n new i a r h.onward.ready asked.outside is_due asked.answer asked.after u ok in
                let codes = h.onward.ready.codes in
                let own = table_owned E n.at (c - 1) table e o h.pivots in_column_row in_column_inside is_owner owned in
                record {
                  onward = onward_join F f E T t m n new k i (i + 1) h.onward one;
                  pivots = table_same E n.at new.at (c - 1) table (λ y d l. others_stay F f E n.at new.at o c e codes entries y d (λ q. omega (arith, within.0))) h.pivots;
                  is_low = is_last ∙ low_last new.at c (e - 1)
                      ∙ ap unless_zero (sym (low_falls F f E n.at new.at o c e codes entries in_column_row in_column_inside own.low_is (λ y a b. low_above n.at E c y (omega (arith, here)) b)));
                }

  pub in_columns_none : {table : List ℕ} → Ready F E T m 0 → Table E m.at 0 table → InColumns F f E T t m 1 table m 0
  in_columns_none ready pivots = record { onward = onward_none F f E T t m 0 ready; pivots = pivots }

  module _ {c : ℕ} {table : List ℕ} {n : Matrix} {k : ℕ} (h : InColumns F f E T t m c table n k) where
    pub in_columns_all : c ≡ T + 1 → AllSettled F E T t m table n k
    in_columns_all is = record { onward = h.onward; pivots = let all : c - 1 ≡ T = omega (arith, is) in subst (λ j. Table E n.at j table) all h.pivots }

    pub in_columns_stops : (new : Matrix) {r : Result Settled Refusal} {s : Refusal} → Settles F E T t n k c table new r → r ≡ Err s → Stops F E T t m 0 s
    in_columns_stops new {s = s} settles is = onward_stops F f E T t m n 0 k s h.onward (subst (Settles F E T t n k c table new) is settles)

    module _ {new : Matrix} (least : 1 ≤ c) {s : Settled} (settled : ColumnSettled F E T t n k c table new s) where
      at_column : c ≡ suc (c - 1)
      at_column = omega (arith, least)

      next : c ≡ c + 1 - 1
      next = omega arith

      onward_more : Onward F E T t m 0 new s.additions
      onward_more = onward_join F f E T t m n new 0 k s.additions h.onward settled.onward

      pub in_columns_dead : s.low ≡ None → InColumns F f E T t m (c + 1) table new s.additions
      in_columns_dead none = record {
        onward = onward_more;
        pivots = subst (λ j. Table E new.at j table) next
            (table_dead E T new.at (c - 1) c at_column table settled.pivots (low E new.at c) refl (told_none (low E new.at c) (sym none ∙ settled.is_low)));
      }

      module _ {r : ℕ} (is : s.low ≡ Some r) where
        settled_low : r ≡ low E new.at c
        settled_low = told_some (low E new.at c) r (sym is ∙ settled.is_low)

        pub settled_inside : r ≤ E
        settled_inside = low_inside E T new.at (c - 1) c at_column table settled.pivots r settled_low

        pub in_columns_more : InColumns F f E T t m (c + 1) (set table r c) new s.additions
        in_columns_more = record {
          onward = onward_more;
          pivots = subst (λ j. Table E new.at j (set table r c)) next
              (table_more E T new.at (c - 1) c at_column table settled.pivots r settled_low (told_not (low E new.at c) r (sym is ∙ settled.is_low)) (ap (λ e. get_or table e 0) settled_low ∙ settled.free));
        }

  pub in_target_none : {k : ℕ} {table : List ℕ} → Ready F E T m k → Table E m.at T table → InTarget F f E T t m k table m k E
  in_target_none {k = k} ready pivots = record { onward = onward_none F f E T t m k ready; pivots = pivots; quiet = λ q l m. absurd (omega arith) }

  module _ {k : ℕ} {table : List ℕ} {n : Matrix} {i r : ℕ} (h : InTarget F f E T t m k table n i r) where
    pub in_target_all : r ≡ 0 → Cleared F E T t m k table n i
    in_target_all z = record {
      onward = h.onward;
      pivots = h.pivots;
      none = (what_is_due_lem E T n.at).none h.pivots.apart (λ q l b. h.quiet q (omega arith) b);
    }

    module _ (within : (1 ≤ r) × (r ≤ E)) where
      -- the row is nobody's, or it is 0 in the last column
      pub in_target_free : None ≡ unless_zero (get_or table r 0) → InTarget F f E T t m k table n i (r - 1)
      in_target_free none = record { onward = h.onward; pivots = h.pivots; quiet = quiet_more E T n.at table h.pivots r 0 within.0 within.1 (sym (told_none (get_or table r 0) none)) h.quiet (inl refl) }

      module _ {o : ℕ} (told_owner : Some o ≡ unless_zero (get_or table r 0)) where
        owner_is : o ≡ get_or table r 0
        owner_is = told_some (get_or table r 0) o told_owner

        has_owner : o ≢ 0
        has_owner = told_not (get_or table r 0) o told_owner

        pub in_target_skip : n.at r (T + 1) ≡ 0 → InTarget F f E T t m k table n i (r - 1)
        in_target_skip z = record { onward = h.onward; pivots = h.pivots; quiet = quiet_more E T n.at table h.pivots r o within.0 within.1 owner_is h.quiet (inr z) }

        module _ (there : n.at r (T + 1) ≢ 0) where
          last_due : due E T n.at ≡ Some (record { from = o; to = T + 1; row = r })
          last_due = target_due E T n.at table h.pivots r o within.0 within.1 owner_is h.quiet has_owner there

          pub in_target_few : i < enough T
          in_target_few = due_few F f E T n i _ h.onward.ready last_due

          module _ {new : Matrix} {res : Result (Unit {0}) Refusal} (asked : Asked F t n new (record { from = o; to = T + 1; row = r }) res) where
            pub in_target_stops : {s : Refusal} → res ≡ Err s → Stops F E T t m k s
            in_target_stops {s = s} is =
                onward_stops F f E T t m n k i s h.onward
                (stops_add F f E T t n new i (record { from = o; to = T + 1; row = r }) res h.onward.ready asked.outside last_due asked.answer asked.after s is)

            pub in_target_more : {u : Unit {0}} → res ≡ Ok u → InTarget F f E T t m k table new (i + 1) (r - 1)
            in_target_more {u = u} is =
                let a : Addition = record { from = o; to = T + 1; row = r } in
                let one = onward_add F f E T t n new i a res h.onward.ready asked.outside last_due asked.answer asked.after u is in
                let entries = onward_entries F f E T t n new i a res h.onward.ready asked.outside last_due asked.answer asked.after u is in
                let codes = h.onward.ready.codes in
                record {
                  onward = onward_join F f E T t m n new k i (i + 1) h.onward one;
                  pivots = target_table E T n.at table h.pivots r o within.0 within.1 owner_is F f new.at codes has_owner entries;
                  quiet = quiet_added E T n.at table h.pivots r o within.0 within.1 owner_is F f new.at codes has_owner entries h.quiet;
                }
