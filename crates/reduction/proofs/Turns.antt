-- Puts made turn by turn: those still to come, and what loading a column comes to.
use Rattle.std.proofs.Common.{◌≡◌, ℕ, zero, suc, ◌+◌, ◌-◌, ◌<◌, ◌≤◌, Bool, true, false, cond, ◌&&◌, eqb, ltb, leb, ◌≢◌, List, [], ◌∷◌, ◌++◌, Ok, Err, Result, sym, refl, ap, ◌∙◌, inl, inr, append_assoc, append-nil, add-one, arith}
use Rattle.std.proofs.lemmas.Bool.{cases_eq, le-leb, lt-leb, cond-true, cond-false, eq-eqb, ne_eqb}
use Rattle.std.proofs.lemmas.Bool.Decides.{nat_tests}
use Rattle.refusal.specs.declared.Refusal.{Refusal}
use Rattle.refusal.specs.Numbers.{number_of}
use Rattle.refusal.specs.Outcomes.{accepted, refused, and_then}
use Rattle.field.specs.Arithmetic.{Arithmetic}
use Rattle.matrix.specs.declared.put.Put.{Put}
use Rattle.matrix.specs.Matrix.{Matrix, Entries, put_at, played}
use Rattle.matrix.specs.Terms.{Terms, told, left_by, put_outcome, put_after, puts_outcome, puts_after}
use Rattle.matrix.proofs.Puts.{Leads, Comes, leads_start, leads_by, leads_put, leads_refused, leads_end, puts_outcome-++, puts_after-++, accepted_played}
use Rattle.complex.specs.Systems.{starting}
use Rattle.homology.specs.Reduction.{column_puts, loading}
use Rattle.reduction.specs.Grids.{code_of, codes_of, shaped}
use Rattle.reduction.specs.Rows.{nonzero_of}
use Rattle.reduction.proofs.Walks.{nonzero_last}

pub code_zero : (F : Arithmetic) (x : ℕ) → x ≡ 0 → code_of F x ≡ 0
code_zero F x z = ap (λ y. cond (ltb x F.order) y 0) z ∙ same (ltb x F.order)
  where
    same : (b : Bool) → ◌≡◌ {A = ℕ} (cond b 0 0) 0
    same true = refl
    same false = refl

-- a run of puts that a call makes, the rest still to come
pub leads_run : (t : Terms) (m n new : Matrix) (all ps qs : List Put) (r : Result (Unit {0}) Refusal) (u : Unit {0}) → Leads t m all n (ps ++ qs) → Comes t n ps r new → r ≡ Ok u → Leads t m all new qs
leads_run t m n new all ps qs r u h comes is =
    let o : puts_outcome t n ps ≡ accepted u = sym comes.answer ∙ ap told is in
    let moved = accepted_played t n ps o in
    record {
      outcomes = h.outcomes ∙ puts_outcome-++ t n ps qs ∙ ap (λ x. and_then x (λ _. puts_outcome t (played n ps) qs)) o ∙ ap (λ k. puts_outcome t k qs) (sym moved ∙ sym comes.after);
      afters = h.afters ∙ puts_after-++ t n ps qs ∙ ap (λ x. left_by x (puts_after t (played n ps) qs) (puts_after t n ps)) o ∙ ap (λ k. puts_after t k qs) (sym moved ∙ sym comes.after);
    }

pub leads_run_refused : (t : Terms) (m n new : Matrix) (all ps qs : List Put) (r s : Result (Unit {0}) Refusal) (e x : Refusal)
    → Leads t m all n (ps ++ qs) → Comes t n ps r new → r ≡ Err e → s ≡ Err x → x ≡ e → Comes t m all s new
leads_run_refused t m n new all ps qs r s e x h comes is ends same =
    let o : puts_outcome t n ps ≡ refused (number_of e) = sym comes.answer ∙ ap told is in
    record {
      answer = ap told (ends ∙ ap Err same) ∙ sym (h.outcomes ∙ puts_outcome-++ t n ps qs ∙ ap (λ x. and_then x (λ _. puts_outcome t (played n ps) qs)) o);
      after = comes.after ∙ sym (h.afters ∙ puts_after-++ t n ps qs ∙ ap (λ x. left_by x (puts_after t (played n ps) qs) (puts_after t n ps)) o);
    }

-- The puts of a column, a turn for each row.
module _ (A : Entries) (c : ℕ) where
  abbrev pub row_turn : ℕ → List Put
  row_turn r = cond (eqb (A r c) 0) [] (put_at r c (A r c) ∷ [])

  row_none : (r : ℕ) → A r c ≡ 0 → row_turn r ≡ []
  row_none r z = cond-true _ _ _ (eq-eqb (A r c) 0 z)

  row_one : (r : ℕ) → A r c ≢ 0 → row_turn r ≡ put_at r c (A r c) ∷ []
  row_one r n = cond-false _ _ _ (ne_eqb (A r c) 0 n)

  -- those in the rows of a list
  abbrev pub puts_in : List ℕ → List Put
  puts_in [] = []
  puts_in (r ∷ rs) = row_turn r ++ puts_in rs

  puts_in-++ : (rs qs : List ℕ) → puts_in (rs ++ qs) ≡ puts_in rs ++ puts_in qs
  puts_in-++ [] qs = refl
  puts_in-++ (r ∷ rs) qs = ap (λ ps. row_turn r ++ ps) (puts_in-++ rs qs) ∙ sym (append_assoc (row_turn r) (puts_in rs) (puts_in qs))

  -- a row whose code is 0 puts nothing
  pub puts_pass : (r x : ℕ) (rs : List ℕ) → x ≡ A r c → x ≡ 0 → puts_in (r ∷ rs) ≡ puts_in rs
  puts_pass r x rs is z = ap (λ ps. ps ++ puts_in rs) (row_none r (sym is ∙ z))

  pub puts_due : (r x : ℕ) (rs : List ℕ) → x ≡ A r c → x ≢ 0 → puts_in (r ∷ rs) ≡ put_at r c x ∷ puts_in rs
  puts_due r x rs is d = ap (λ ps. ps ++ puts_in rs) (row_one r (λ z. d (is ∙ z))) ∙ ap (λ y. put_at r c y ∷ puts_in rs) (sym is)

  -- the rows at which f is not 0 are enough, if the codes are 0 at the others
  pub column_rows : (f : ℕ → ℕ) → ((r : ℕ) → f r ≡ 0 → A r c ≡ 0) → (n : ℕ) → column_puts n A c ≡ puts_in (nonzero_of f 1 n)
  column_rows f zeros zero = refl
  column_rows f zeros (suc n) =
      (λ i. column_rows f zeros n i ++ last i)
      ∙ sym (ap puts_in (nonzero_last f 1 n) ∙ puts_in-++ (nonzero_of f 1 n) _)
    where
      at : suc n ≡ 1 + n
      at = omega arith

      last : row_turn (suc n) ≡ puts_in (cond (eqb (f (1 + n)) 0) [] ((1 + n) ∷ []))
      last = elim (cases_eq (f (1 + n)) 0) [
        | inl z ↦ row_none (suc n) (ap (λ r. A r c) at ∙ zeros (1 + n) z) ∙ sym (ap puts_in (cond-true _ _ _ (eq-eqb (f (1 + n)) 0 z)))
        | inr d ↦ ap row_turn at ∙ sym (append-nil (row_turn (1 + n))) ∙ sym (ap puts_in (cond-false _ _ _ (ne_eqb (f (1 + n)) 0 d)))
      ]

-- The puts of a matrix, column by column.
module _ (R : ℕ) (A : Entries) where
  -- those of d columns from c on
  abbrev pub columns_on : ℕ → ℕ → List Put
  columns_on c zero = []
  columns_on c (suc d) = column_puts R A c ++ columns_on (suc c) d

  columns_from : (c d : ℕ) → loading R A (c + d) ≡ loading R A c ++ columns_on (suc c) d
  columns_from c zero = let at : c + 0 ≡ c = omega arith in ap (loading R A) at ∙ sym (append-nil (loading R A c))
  columns_from c (suc d) =
      let at : c + suc d ≡ suc c + d = omega arith in
      ap (loading R A) at ∙ columns_from (suc c) d ∙ append_assoc (loading R A c) (column_puts R A (suc c)) (columns_on (suc (suc c)) d)

  pub columns_all : (n : ℕ) → loading R A n ≡ columns_on 1 (n + 1 - 1)
  columns_all n =
      let at : n ≡ 0 + n = omega arith in
      let long : n ≡ n + 1 - 1 = omega arith in
      ap (loading R A) at ∙ columns_from 0 n ∙ ap (columns_on 1) long

  pub columns_more : (c n : ℕ) → c ≤ n → columns_on c (n + 1 - c) ≡ column_puts R A c ++ columns_on (c + 1) (n + 1 - (c + 1))
  columns_more c n l =
      let long : n + 1 - c ≡ suc (n + 1 - (c + 1)) = omega arith in
      ap (columns_on c) long ∙ ap (λ d. column_puts R A c ++ columns_on d (n + 1 - (c + 1))) (sym (add-one c))

  abbrev rest : ℕ → ℕ → List Put
  rest c n = columns_on (c + 1) (n + 1 - (c + 1))

  -- a call that loads column c, those before it loaded
  module _ {t u : Terms} {m n new : Matrix} {c N : ℕ} {r : Result (Unit {0}) Refusal} (l : c ≤ N) (h : Leads t m (loading R A N) n (columns_on c (N + 1 - c))) (same : u ≡ t)
      (answer : told r ≡ puts_outcome u n (column_puts R A c)) (after : new ≡ puts_after u n (column_puts R A c)) where
    comes : Comes t n (column_puts R A c) r new
    comes = record { answer = answer ∙ ap (λ t. puts_outcome t n (column_puts R A c)) same; after = after ∙ ap (λ t. puts_after t n (column_puts R A c)) same }

    pub column_refused : {s : Result (Unit {0}) Refusal} {e x : Refusal} → r ≡ Err e → s ≡ Err x → x ≡ e → Comes t m (loading R A N) s new
    column_refused {s = s} {e = e} {x = x} is ends equal = leads_run_refused t m n new _ (column_puts R A c) (rest c N) r s e x (leads_by t m n _ _ _ (columns_more c N l) h) comes is ends equal

    pub column_loaded : {v : Unit {0}} → r ≡ Ok v → Leads t m (loading R A N) new (rest c N)
    column_loaded {v = v} is = leads_run t m n new _ (column_puts R A c) (rest c N) r v (leads_by t m n _ _ _ (columns_more c N l) h) comes is

    pub columns_loaded : {v : Unit {0}} → r ≡ Ok v → c ≡ N → Comes t m (loading R A N) (Ok tt) new
    columns_loaded is last = let none : N + 1 - (c + 1) ≡ 0 = omega (arith, last) in leads_end t m new _ (rest c N) (column_loaded is) (ap (columns_on (c + 1)) none)

-- equal entries, equal puts
pub column_same : (n : ℕ) (A B : Entries) (c : ℕ) → ((r : ℕ) → 1 ≤ r → r ≤ n → A r c ≡ B r c) → column_puts n A c ≡ column_puts n B c
column_same zero A B c h = refl
column_same (suc n) A B c h = cc (column_same n A B c (λ r a b. h r a (omega arith)), h (suc n) (omega arith) (omega arith))

-- A column of the starting matrix: the codes of the grid, then for a column of the system a 1 in its own row.
module _ (F : Arithmetic) (m : Matrix) (E T : ℕ) where
  abbrev M : Entries
  M = starting (shaped F m E T)

  codes_ways : (r c e t x y : ℕ) → 1 ≤ r → r ≤ e → 1 ≤ c → c ≤ t + 1 → (c ≡ t + 1 → y ≡ x)
      → cond (leb 1 r && leb r e && leb 1 c && leb c t) x (cond (leb 1 r && leb r e && eqb c (t + 1)) y (cond (ltb e r && leb r (e + t) && eqb (r - e) c) 1 0)) ≡ x
  codes_ways r c e t x y a b d k h = grind (arith, nat_tests)

  own_ways : (d c e t x y : ℕ) → d ≤ t → 1 ≤ d → cond (leb 1 (e + d) && leb (e + d) e && leb 1 c && leb c t) x (cond (leb 1 (e + d) && leb (e + d) e && eqb c (t + 1)) y (cond (ltb e (e + d) && leb (e + d) (e + t) && eqb (e + d - e) c) 1 0)) ≡ cond (eqb d c) 1 0
  own_ways d c e t x y a b = grind (arith, nat_tests)

  pub column_codes : (c : ℕ) → 1 ≤ c → c ≤ T + 1 → column_puts E (codes_of F m) c ≡ column_puts E M c
  column_codes c a b = column_same E (codes_of F m) M c (λ r l k. sym (codes_ways r c E T (codes_of F m r c) (codes_of F m r (T + 1)) l k a b (λ e. ap (codes_of F m r) (sym e))))

  -- the put of the own row, where it is one of the first d
  abbrev own_put : ℕ → ℕ → List Put
  own_put d c = cond (leb 1 c && leb c d) (put_at (E + c) c 1 ∷ []) []

  own_row : (d c : ℕ) → suc d ≤ T → row_turn M c (suc (E + d)) ≡ cond (eqb (suc d) c) (put_at (E + c) c 1 ∷ []) []
  own_row d c l =
      let at : suc (E + d) ≡ E + suc d = omega arith in
      let entry : M (suc (E + d)) c ≡ cond (eqb (suc d) c) 1 0 = ap (λ r. M r c) at ∙ own_ways (suc d) c E T (codes_of F m (E + suc d) c) (codes_of F m (E + suc d) (T + 1)) l (omega arith) in
      elim (cases_eq (suc d) c) [
        | inl q ↦
            let one : M (suc (E + d)) c ≡ 1 = entry ∙ cond-true _ _ _ (eq-eqb (suc d) c q) in
            let here : suc (E + d) ≡ E + c = omega arith in
            row_one M c (suc (E + d)) (omega arith) ∙ (λ i. put_at (here i) c (one i) ∷ []) ∙ sym (cond-true _ _ _ (eq-eqb (suc d) c q))
        | inr n ↦ row_none M c (suc (E + d)) (entry ∙ cond-false _ _ _ (ne_eqb (suc d) c n)) ∙ sym (cond-false _ _ _ (ne_eqb (suc d) c n))
      ]

  own_more : (d c : ℕ) (ps : List Put) → cond (leb 1 c && leb c d) ps [] ++ cond (eqb (suc d) c) ps [] ≡ cond (leb 1 c && leb c (suc d)) ps []
  own_more d c ps = elim (cases_eq (suc d) c) [
    | inl q ↦
        let now : (leb 1 c && leb c (suc d)) ≡ true = grind (arith, nat_tests) in
        let not_yet : (leb 1 c && leb c d) ≡ false = grind (arith, nat_tests) in
        (λ i. cond (not_yet i) ps [] ++ cond (eq-eqb (suc d) c q i) ps []) ∙ sym (cond-true _ _ _ now)
    | inr n ↦
        let same : (leb 1 c && leb c d) ≡ (leb 1 c && leb c (suc d)) = grind (arith, nat_tests) in
        (λ i. cond (same i) ps [] ++ cond (ne_eqb (suc d) c n i) ps []) ∙ append-nil _
  ]

  column_own : (d c : ℕ) → d ≤ T → column_puts (E + d) M c ≡ column_puts E M c ++ own_put d c
  column_own zero c l =
      let at : E + 0 ≡ E = omega arith in
      let none : (leb 1 c && leb c 0) ≡ false = grind (arith, nat_tests) in
      ap (λ n. column_puts n M c) at ∙ sym (append-nil _) ∙ ap (λ b. column_puts E M c ++ cond b (put_at (E + c) c 1 ∷ []) []) (sym none)
  column_own (suc d) c l =
      let at : E + suc d ≡ suc (E + d) = omega arith in
      let before : column_puts (E + d) M c ≡ column_puts E M c ++ own_put d c = column_own d c (omega arith) in
      ap (λ n. column_puts n M c) at ∙ (λ i. before i ++ own_row d c l i)
      ∙ append_assoc (column_puts E M c) (own_put d c) _ ∙ ap (λ ps. column_puts E M c ++ ps) (own_more d c (put_at (E + c) c 1 ∷ []))

  -- the codes of the column are put first, and then its own row
  pub column_whole : (c : ℕ) → 1 ≤ c → c ≤ T + 1
      → column_puts (E + T) M c ≡ column_puts E (codes_of F m) c ++ cond (leb c T) (put_at (E + c) c 1 ∷ []) []
  column_whole c a b =
      let first : leb 1 c ≡ true = le-leb 1 c a in
      column_own T c (omega arith)
      ∙ (λ i. sym (column_codes c a b) i ++ cond (first i && leb c T) (put_at (E + c) c 1 ∷ []) [])

  abbrev own_at : ℕ → Put
  own_at c = put_at (E + c) c 1

  abbrev own : ℕ → List Put
  own c = cond (leb c T) (own_at c ∷ []) []

  -- a call that puts the codes, and then one for the own row
  module _ {t : Terms} {k n : Matrix} {c : ℕ} {r : Result (Unit {0}) Refusal} (inside : (1 ≤ c) × (c ≤ T + 1))
      (answer : told r ≡ puts_outcome t k (column_puts E (codes_of F m) c)) (after : n ≡ puts_after t k (column_puts E (codes_of F m) c)) where
    pub codes_refused : {s : Result (Unit {0}) Refusal} {e x : Refusal} → r ≡ Err e → s ≡ Err x → x ≡ e → Comes t k (column_puts (E + T) M c) s n
    codes_refused {s = s} {e = e} {x = x} is ends equal = leads_run_refused t k k n _ (column_puts E (codes_of F m) c) (own c) r s e x (leads_start t k _ _ (column_whole c inside.0 inside.1)) (record { answer = answer; after = after }) is ends equal

    module _ {v : Unit {0}} (put : r ≡ Ok v) where
      codes_put : Leads t k (column_puts (E + T) M c) n (own c)
      codes_put = leads_run t k k n _ (column_puts E (codes_of F m) c) (own c) r v (leads_start t k _ _ (column_whole c inside.0 inside.1)) (record { answer = answer; after = after }) put

      pub own_none : T < c → Comes t k (column_puts (E + T) M c) (Ok tt) n
      own_none l = leads_end t k n _ (own c) codes_put (cond-false _ _ _ (lt-leb c T l))

      module _ {u : Terms} {new : Matrix} {q : Result (Unit {0}) Refusal} (l : c ≤ T) (same : u ≡ t) (told_q : told q ≡ put_outcome u n (own_at c)) (left : new ≡ put_after u n (own_at c)) where
        pub own_refused : {s : Result (Unit {0}) Refusal} {e x : Refusal} → q ≡ Err e → s ≡ Err x → x ≡ e → Comes t k (column_puts (E + T) M c) s new
        own_refused {s = s} {e = e} {x = x} is ends equal = leads_refused t k n new _ (own_at c) [] q s e x (leads_by t k n _ (own c) (own_at c ∷ []) (cond-true _ _ _ (le-leb c T l)) codes_put) (told_q ∙ ap (λ t. put_outcome t n (own_at c)) same) (left ∙ ap (λ t. put_after t n (own_at c)) same) is ends equal

        pub own_loaded : {w : Unit {0}} → q ≡ Ok w → Comes t k (column_puts (E + T) M c) (Ok tt) new
        own_loaded {w = w} is = leads_end t k new _ [] (leads_put t k n new _ (own_at c) [] q w (leads_by t k n _ (own c) (own_at c ∷ []) (cond-true _ _ _ (le-leb c T l)) codes_put) (told_q ∙ ap (λ t. put_outcome t n (own_at c)) same) (left ∙ ap (λ t. put_after t n (own_at c)) same) is) refl
