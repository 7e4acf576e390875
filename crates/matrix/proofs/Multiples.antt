-- A multiple of one column added to another, row by row.
use Rattle.std.proofs.Common.{◌≡◌, ℕ, zero, suc, ◌+◌, ◌-◌, ◌<◌, ◌≤◌, cond, not, ◌&&◌, eqb, leb, List, [], ◌∷◌, ◌++◌, Some, Ok, Err, Result, sym, refl, ap, ◌∙◌, subst, ⊎_elim, append_assoc, append-nil, arith}
use Rattle.std.proofs.lemmas.Bool.{cond-true, cond-false, eq-eqb, ne_eqb, cases_eq, cases_lt}
use Rattle.std.proofs.lemmas.Bool.Decides.{nat_tests}
use Rattle.refusal.specs.declared.Refusal.{Refusal}
use Rattle.field.specs.Arithmetic.{Arithmetic}
use Rattle.matrix.specs.declared.put.Put.{Put}
use Rattle.matrix.specs.Matrix.{Matrix, Entries, over, Outside, put_at, put_into, played}
use Rattle.matrix.specs.Terms.{Terms, told, left_by, put_outcome, put_after}
use Rattle.matrix.specs.Multiples.{added_by, adding}
use Rattle.matrix.specs.Nonzero.{next_in}
use Rattle.matrix.specs.Theorems.{AddingAdds}
use Rattle.matrix.proofs.Matrices.{same_entries}
use Rattle.matrix.proofs.Nonzeros.{past_rows, next_is}
use Rattle.matrix.proofs.Puts.{played-++, Leads, Comes, leads_start, leads_by, leads_put, leads_refused, leads_end}

module _ (F : Arithmetic) (k from to : ℕ) where
  -- the put of row r + 1, and whether there is one
  abbrev pub put_of : Entries → ℕ → Put
  put_of M r = put_at (suc r) to (F.sum (M (suc r) to) (F.product k (M (suc r) from)))

  abbrev pub turn : Entries → ℕ → List Put
  turn M r = cond (eqb (M (suc r) from) 0) [] (put_of M r ∷ [])

  pub turn_put : (M : Entries) (r : ℕ) → (M (suc r) from ≡ 0 → ⊥) → turn M r ≡ put_of M r ∷ []
  turn_put M r d = cond-false (eqb (M (suc r) from) 0) _ _ (ne_eqb _ _ d)

  pub turn_skip : (M : Entries) (r : ℕ) → M (suc r) from ≡ 0 → turn M r ≡ []
  turn_skip M r z = cond-true (eqb (M (suc r) from) 0) _ _ (eq-eqb _ _ z)

  -- the puts of d rows after row r
  abbrev pub later : Entries → ℕ → ℕ → List Put
  later M r zero = []
  later M r (suc d) = turn M r ++ later M (suc r) d

  pub adding_later : (M : Entries) (r d : ℕ) → adding F k from to M (r + d) ≡ adding F k from to M r ++ later M r d
  adding_later M r zero = let at : r + 0 ≡ r = omega arith in ap (adding F k from to M) at ∙ sym (append-nil (adding F k from to M r))
  adding_later M r (suc d) =
      let at : r + suc d ≡ suc r + d = omega arith in
      ap (adding F k from to M) at ∙ adding_later M (suc r) d ∙ append_assoc (adding F k from to M r) (turn M r) (later M (suc r) d)

  -- the entries where the rows 1 to r are done
  abbrev partly : ℕ → Entries → Entries
  partly r M x c = cond (eqb c to && (leb 1 x && (leb x r && not (eqb (M x from) 0)))) (F.sum (M x c) (F.product k (M x from))) (M x c)

  none_ways : (c x a s old : ℕ) → cond (eqb c to && (leb 1 x && (leb x 0 && not (eqb a 0)))) s old ≡ old
  none_ways c x a s old = grind (arith, nat_tests)

  skip_ways : (c x r a s old : ℕ) → (x ≡ suc r → a ≡ 0) → cond (eqb c to && (leb 1 x && (leb x r && not (eqb a 0)))) s old ≡ cond (eqb c to && (leb 1 x && (leb x (suc r) && not (eqb a 0)))) s old
  skip_ways c x r a s old z = grind (arith, nat_tests)

  put_ways : (c x r a s s' old : ℕ) → (x ≡ suc r → a ≡ 0 → ⊥) → (x ≡ suc r → c ≡ to → s' ≡ s)
      → cond (eqb x (suc r) && eqb c to) s' (cond (eqb c to && (leb 1 x && (leb x r && not (eqb a 0)))) s old) ≡ cond (eqb c to && (leb 1 x && (leb x (suc r) && not (eqb a 0)))) s old
  put_ways c x r a s s' old d e = grind (arith, nat_tests)

  all_ways : (c x R a s old : ℕ) → (x ≡ 0 → a ≡ 0) → (R < x → a ≡ 0) → cond (eqb c to && (leb 1 x && (leb x R && not (eqb a 0)))) s old ≡ cond (eqb c to && not (eqb a 0)) s old
  all_ways c x R a s old p q = grind (arith, nat_tests)

  played_adding : (m : Matrix) (r : ℕ) → played m (adding F k from to m.at r) ≡ over m (partly r m.at)
  played_adding m zero = same_entries m _ _ (λ x c. sym (none_ways c x (m.at x from) _ _))
  played_adding m (suc r) = ⊎_elim
      (λ (z : m.at (suc r) from ≡ 0).
      ap (λ ps. played m (adding F k from to m.at r ++ ps)) (turn_skip m.at r z) ∙ ap (played m) (append-nil (adding F k from to m.at r)) ∙ played_adding m r
      ∙ same_entries m _ _ (λ x c. skip_ways c x r (m.at x from) _ _ (λ e. ap (λ y. m.at y from) e ∙ z)))
      (λ (d : m.at (suc r) from ≡ 0 → ⊥).
      ap (λ ps. played m (adding F k from to m.at r ++ ps)) (turn_put m.at r d) ∙ played-++ m (adding F k from to m.at r) _
      ∙ ap (λ n. put_into n (put_of m.at r)) (played_adding m r)
      ∙ same_entries m _ _ (λ x c. put_ways c x r (m.at x from) _ _ _ (λ e z. d (ap (λ y. m.at y from) (sym e) ∙ z))
      (λ e f. sym (ap (λ y. F.sum (m.at y c) (F.product k (m.at y from))) e ∙ ap (λ y. F.sum (m.at (suc r) y) (F.product k (m.at (suc r) from))) f))))
      (cases_eq (m.at (suc r) from) 0)

  before_rows : (m : Matrix) (x c : ℕ) → Outside m → x ≡ 0 → m.at x c ≡ 0
  before_rows m x c out e = out x c (grind (arith, nat_tests))

  played_all : (m : Matrix) → Outside m → played m (adding F k from to m.at m.rows) ≡ over m (added_by F k from to m.at)
  played_all m out = played_adding m m.rows ∙ same_entries m _ _ (λ x c. all_ways c x m.rows (m.at x from) _ _
      (before_rows m x from out) (past_rows m x from out))

  -- The rows 1 to r of an addition are done: the puts of the others are still to come, and their entries are as they were.
  pub record Adding (t : Terms) (m n : Matrix) (r : ℕ) : Type 0 where
    pub leads : Leads t m (adding F k from to m.at m.rows) n (later m.at r (m.rows - r))
    pub same : (x c : ℕ) → r < x → n.at x c ≡ m.at x c
    pub same_rows : n.rows ≡ m.rows

  pub adding_start : (t : Terms) (m : Matrix) → Adding t m m 0
  adding_start t m = record {
    leads = leads_start t m _ _ (let at : m.rows ≡ 0 + (m.rows - 0) = omega arith in ap (adding F k from to m.at) at ∙ adding_later m.at 0 (m.rows - 0));
    same = λ x c h. refl;
    same_rows = refl;
  }

  -- what is still to come begins with the turn of the next row
  later_next : (m : Matrix) (r : ℕ) → r < m.rows → later m.at r (m.rows - r) ≡ turn m.at r ++ later m.at (suc r) (m.rows - suc r)
  later_next m r h = let at : m.rows - r ≡ suc (m.rows - suc r) = omega arith in ap (later m.at r) at

  -- a row without an entry is passed
  skip_one : (t : Terms) (m n : Matrix) (r : ℕ) → r < m.rows → n.at (suc r) from ≡ 0 → Adding t m n r → Adding t m n (suc r)
  skip_one t m n r l z h =
      let entry : m.at (suc r) from ≡ 0 = sym (h.same (suc r) from (omega arith)) ∙ z in
      record {
        leads = leads_by t m n _ _ _ (later_next m r l ∙ ap (λ ps. ps ++ later m.at (suc r) (m.rows - suc r)) (turn_skip m.at r entry)) h.leads;
        same = λ x c g. h.same x c (omega arith);
        same_rows = h.same_rows;
      }

  skip_more : (t : Terms) (m n : Matrix) (r d : ℕ) → r + d ≤ m.rows → ((i : ℕ) → r < i → i ≤ r + d → n.at i from ≡ 0) → Adding t m n r → Adding t m n (r + d)
  skip_more t m n r zero l z h = let at : r ≡ r + 0 = omega arith in subst (Adding t m n) at h
  skip_more t m n r (suc d) l z h =
      let at : suc r + d ≡ r + suc d = omega arith in
      subst (Adding t m n) at
      (skip_more t m n (suc r) d (omega arith) (λ i a b. z i (omega arith) (omega arith)) (skip_one t m n r (omega arith) (z (suc r) (omega arith) (omega arith)) h))

  skip_to : (t : Terms) (m n : Matrix) (r s : ℕ) → r ≤ s → s ≤ m.rows → ((i : ℕ) → r < i → i ≤ s → n.at i from ≡ 0) → Adding t m n r → Adding t m n s
  skip_to t m n r s l u z h =
      let at : r + (s - r) ≡ s = omega arith in
      subst (Adding t m n) at (skip_more t m n r (s - r) (omega arith) (λ i a b. z i a (omega arith)) h)

  -- the put that is due at a row, as code computes it
  pub record Due (n : Matrix) (row x y w v : ℕ) : Type 0 where
    pub from_entry : x ≡ n.at row from
    pub to_entry : y ≡ n.at row to
    pub product : w ≡ F.product k x
    pub sum : v ≡ F.sum y w

  due_leads : (t : Terms) (m n : Matrix) (r x y w v : ℕ) → r < m.rows → Adding t m n r → (n.at (suc r) from ≡ 0 → ⊥) → Due n (suc r) x y w v
      → Leads t m (adding F k from to m.at m.rows) n (put_at (suc r) to v ∷ later m.at (suc r) (m.rows - suc r))
  due_leads t m n r x y w v l h z d =
      let ax : x ≡ m.at (suc r) from = d.from_entry ∙ h.same (suc r) from (omega arith) in
      let ay : y ≡ m.at (suc r) to = d.to_entry ∙ h.same (suc r) to (omega arith) in
      let av : v ≡ F.sum (m.at (suc r) to) (F.product k (m.at (suc r) from)) = d.sum ∙ ap (F.sum y) (d.product ∙ ap (F.product k) ax) ∙ ap (λ z. F.sum z (F.product k (m.at (suc r) from))) ay in
      leads_by t m n _ _ _
      (later_next m r l ∙ ap (λ ps. ps ++ later m.at (suc r) (m.rows - suc r)) (turn_put m.at r (λ e. z (h.same (suc r) from (omega arith) ∙ e)))
      ∙ ap (λ u. put_at (suc r) to u ∷ later m.at (suc r) (m.rows - suc r)) (sym av))
      h.leads

  -- The row after r that is next with an entry: those between have none.
  pub record Reached (t : Terms) (m n : Matrix) (r row : ℕ) : Type 0 where
    pub done : Adding t m n r
    pub past : r < row
    pub within : row ≤ m.rows
    pub nonzero : n.at row from ≡ 0 → ⊥
    pub between : (i : ℕ) → r < i → i < row → n.at i from ≡ 0

  -- a scan reaches it
  pub next_reached : (t : Terms) (m n : Matrix) (r row : ℕ) → Outside n → Adding t m n r → Some row ≡ next_in n from (r + 1) → Reached t m n r row
  next_reached t m n r row out h e =
      let first = next_is n from (r + 1) (Some row) out e in
      record {
        done = h;
        past = omega (arith, first.0);
        within = ⊎_elim
            (λ (l : n.rows < row). absurd (first.1 (past_rows n row from out l)))
            (λ (l : row ≤ n.rows). omega (arith, h.same_rows))
            (cases_lt n.rows row);
        nonzero = first.1;
        between = λ i a b. first.2 i (omega arith) b;
      }

  reached_leads : (t : Terms) (m n : Matrix) (r row x y w v : ℕ) → Reached t m n r row → Due n row x y w v
      → Leads t m (adding F k from to m.at m.rows) n (put_at row to v ∷ later m.at row (m.rows - row))
  reached_leads t m n r zero x y w v h d = absurd (omega (arith, h.past))
  reached_leads t m n r (suc s) x y w v h d =
      due_leads t m n s x y w v (omega (arith, h.within)) (skip_to t m n r s (omega (arith, h.past)) (omega (arith, h.within)) (λ i a b. h.between i a (omega arith)) h.done) h.nonzero d

  other_row : (x row c v old : ℕ) → row < x → cond (eqb x row && eqb c to) v old ≡ old
  other_row x row c v old h = grind (arith, nat_tests)

  pub adding_put : (t : Terms) (m n n' : Matrix) (r row x y w v : ℕ) (res : Result (Unit {0}) Refusal) (u : Unit {0}) → Reached t m n r row → Due n row x y w v
      → told res ≡ put_outcome t n (put_at row to v) → n' ≡ put_after t n (put_at row to v) → res ≡ Ok u → Adding t m n' row
  adding_put t m n n' r row x y w v res u h d answer after was =
      let is : n' ≡ put_into n (put_at row to v) = after ∙ ap (λ o. left_by o (put_into n (put_at row to v)) n) (sym answer ∙ ap told was) in
      record {
        leads = leads_put t m n n' _ (put_at row to v) _ res u (reached_leads t m n r row x y w v h d) answer after was;
        same = λ z c g. ap (λ q. q.at z c) is ∙ other_row z row c v (n.at z c) g ∙ h.done.same z c (omega (arith, h.past));
        same_rows = ap (λ (q : Matrix). q.rows) is ∙ h.done.same_rows;
      }

  pub adding_refused : (t : Terms) (m n n' : Matrix) (r row x y w v : ℕ) (res s : Result (Unit {0}) Refusal) (e f : Refusal) → Reached t m n r row → Due n row x y w v
      → told res ≡ put_outcome t n (put_at row to v) → n' ≡ put_after t n (put_at row to v) → res ≡ Err e → s ≡ Err f → f ≡ e
      → Comes t m (adding F k from to m.at m.rows) s n'
  adding_refused t m n n' r row x y w v res s e f h d answer after was is same =
      leads_refused t m n n' _ (put_at row to v) _ res s e f (reached_leads t m n r row x y w v h d) answer after was is same

  all_done : (t : Terms) (m n : Matrix) (r : ℕ) → m.rows ≤ r → Adding t m n r → Comes t m (adding F k from to m.at m.rows) (Ok tt) n
  all_done t m n r l h = let at : m.rows - r ≡ 0 = omega arith in leads_end t m n _ _ h.leads (ap (later m.at r) at)

  -- no row that is left has an entry
  pub adding_end : (t : Terms) (m n : Matrix) (r : ℕ) → Adding t m n r → ((i : ℕ) → r < i → n.at i from ≡ 0) → Comes t m (adding F k from to m.at m.rows) (Ok tt) n
  adding_end t m n r h z = ⊎_elim
      (λ (l : m.rows < r). all_done t m n r (omega arith) h)
      (λ (l : r ≤ m.rows). all_done t m n m.rows (omega arith) (skip_to t m n r m.rows l (omega arith) (λ i a b. z i a) h))
      (cases_lt m.rows r)

pub adding_adds_lem : AddingAdds
adding_adds_lem F k from to m out = played_all F k from to m out
