-- What solving comes to, by each way that it ends: refused before anything is begun, or worked out in the shape begun.
use Rattle.std.proofs.Common.{◌≡◌, ℕ, ◌+◌, ◌<◌, ◌≤◌, max, Bool, true, false, cond, ◌&&◌, leb, List, ◌++◌, length, take, drop, IfOk, Ok, Err, Result, sym, refl, ap, ◌∙◌, subst, inl, inr, arith}
use Rattle.std.proofs.lemmas.List.{take_at}
use Rattle.std.proofs.lemmas.Bool.{cond-true, cond-false, cases_Bool, leb-true, eqb-true, eqb-false, le-leb, lt-leb, and_from, and_left, and_right}
use Rattle.refusal.specs.declared.Refusal.{Refusal}
use Rattle.refusal.specs.declared.Refusal.TheVariants.{TooShort, FieldTooLarge, ShapeNotTaken, StoreFull}
use Rattle.refusal.specs.Numbers.{number_of}
use Rattle.refusal.specs.Outcomes.{Outcome, accepted, refused, outcome}
use Rattle.refusal.proofs.Outcomes.{refused_accepted}
use Rattle.field.specs.Arithmetic.{Arithmetic, FieldLaws}
use Rattle.matrix.specs.Matrix.{Matrix, blank}
use Rattle.matrix.specs.Terms.{Terms, left_by, begin_outcome, begin_after, puts_outcome}
use Rattle.complex.specs.Systems.{System, starting_matrix}
use Rattle.homology.specs.Linear.{CodedSystem, GivenSolution, GivenSeparator}
use Rattle.homology.specs.Kinds.{kind_of, filled_of}
use Rattle.homology.specs.Certificate.{filling_codes, block_codes, vector}
use Rattle.homology.specs.Reduction.{reduction, all_puts, peak}
use Rattle.homology.proofs.Ending.{reduction_ends_lem}
use Rattle.homology.proofs.Listing.{length_listed}
use Rattle.homology.proofs.ReadOff.{reduction_answers_lem}
use Rattle.homology.proofs.Room.{peak_refuses_lem}
use Rattle.reduction.specs.declared.solve.Verdict.{Verdict}
use Rattle.reduction.specs.Grids.{shaped, system_of, height_of, width_of}
use Rattle.reduction.specs.Verdicts.{empty, small, verdict, answer_codes, solving, codes_after, store_after, Published, Solves, Worked, Works}
use Rattle.reduction.proofs.Likeness.{Alike, shaped_coded, shaped_alike, read_alike, alike_on, empty_alike, puts_alike, verdict_alike, codes_alike}

same_refusal : {j k : ℕ} → ◌≡◌ {A = Outcome (Unit {0})} (refused j) (refused k) → j ≡ k
same_refusal e = cc

filled_kind : (b : Bool) → filled_of (kind_of b) ≡ b
filled_kind true = refl
filled_kind false = refl

module _ (F : Arithmetic) (f : FieldLaws F) (S : System) (coded : CodedSystem F S) (t : Terms) (old : List ℕ) (m : Matrix) where
  abbrev room : Bool
  room = leb (max S.rows S.columns) (length old)

  abbrev large : Bool
  large = leb F.order t.bound

  abbrev taken : Bool
  taken = small S && t.takes (S.rows + S.columns) (S.columns + 1)

  abbrev fits : Bool
  fits = leb (peak F S) (t.limit (S.rows + S.columns) (S.columns + 1))

  -- by the four tests
  outcome_by : (a b c d : Bool) → room ≡ a → large ≡ b → taken ≡ c → fits ≡ d
      → solving F S t (length old)
      ≡ cond a (cond b (cond c (cond d (accepted (verdict F S)) (refused (number_of StoreFull))) (refused (number_of ShapeNotTaken))) (refused (number_of FieldTooLarge))) (refused (number_of TooShort))
  outcome_by a b c d p q r s = λ i.
      cond (p i) (cond (q i) (cond (r i) (cond (s i) (accepted (verdict F S)) (refused (number_of StoreFull))) (refused (number_of ShapeNotTaken))) (refused (number_of FieldTooLarge))) (refused (number_of TooShort))

  store_by : (a b c : Bool) → room ≡ a → large ≡ b → taken ≡ c → store_after F S t (length old) m ≡ cond (a && b && c) (empty S) m
  store_by a b c p q r = λ i. cond (p i && q i && r i) (empty S) m

  -- refused, and nothing changed
  unchanged : (r : Result Verdict Refusal) (e : Refusal) (new : List ℕ) (n : Matrix) → r ≡ Err e → new ≡ old
      → solving F S t (length old) ≡ refused (number_of e) → n ≡ store_after F S t (length old) m → Solves F S t old m r new n
  unchanged r e new n is same whole left = record {
    answer = ap (outcome (λ v. v)) is ∙ sym whole;
    codes = same ∙ sym (ap (λ o. codes_after F S o old) whole);
    after = left;
    published = subst (λ r. IfOk r (λ v. Published F S v new)) (sym is) tt;
  }

  pub solves_short : room ≡ false → Solves F S t old m (Err TooShort) old m
  solves_short p = unchanged (Err TooShort) TooShort old m refl refl (outcome_by false large taken fits p refl refl refl) (sym (store_by false large taken p refl refl))

  pub solves_large : room ≡ true → large ≡ false → Solves F S t old m (Err FieldTooLarge) old m
  solves_large p q = unchanged (Err FieldTooLarge) FieldTooLarge old m refl refl (outcome_by true false taken fits p q refl refl) (sym (store_by true false taken p q refl))

  pub solves_shape : (r : Result Verdict Refusal) (e : Refusal) (n : Matrix) → r ≡ Err e → number_of ShapeNotTaken ≡ number_of e → n ≡ m → room ≡ true → large ≡ true → taken ≡ false → Solves F S t old m r old n
  solves_shape r e n is number same p q s = unchanged r e old n is refl (outcome_by true true false fits p q s refl ∙ ap refused number) (same ∙ sym (store_by true true false p q s))

  -- once begun
  module _ (p : room ≡ true) (q : large ≡ true) (s : taken ≡ true) (n : Matrix) (cleared : n ≡ empty S) where
    left_empty : n ≡ store_after F S t (length old) m
    left_empty = cleared ∙ sym (store_by true true true p q s)

    puts_tell : puts_outcome t (empty S) (all_puts F S) ≡ cond fits (accepted tt) (refused (number_of StoreFull))
    puts_tell = peak_refuses_lem F f S coded t (leb-true F.order t.bound q)

    codes_long : length (answer_codes F S) ≡ cond (filled_of (verdict F S).kind) S.columns S.rows
    codes_long = long (filled_of (verdict F S).kind)
      where
        long : (b : Bool) → length (cond b (filling_codes F S.rows S.columns (reduction F S).matrix) (block_codes F S.rows S.columns (reduction F S).matrix)) ≡ cond b S.columns S.rows
        long true = length_listed S.columns _
        long false = length_listed S.rows _

    given : (new : List ℕ) → new ≡ answer_codes F S ++ drop (length (answer_codes F S)) old → Published F S (verdict F S) new
    given new is = record { given = which (filled_of (verdict F S).kind) refl; few = (reduction_ends_lem F f S coded).few }
      where
        which : (b : Bool) → filled_of (verdict F S).kind ≡ b → cond b (GivenSolution F S (vector (take S.columns new))) (GivenSeparator F S (vector (take S.rows new)))
        which true e =
            let all : answer_codes F S ≡ filling_codes F S.rows S.columns (reduction F S).matrix = cond-true _ _ _ e in
            let front : take S.columns new ≡ filling_codes F S.rows S.columns (reduction F S).matrix
            = ap (take S.columns) is ∙ take_at (answer_codes F S) _ S.columns (codes_long ∙ cond-true _ _ _ e) ∙ all in
            subst (λ xs. GivenSolution F S (vector xs)) (sym front) ((reduction_answers_lem F f S coded).filling (eqb-true _ _ (sym (filled_kind _) ∙ e)))
        which false e =
            let all : answer_codes F S ≡ block_codes F S.rows S.columns (reduction F S).matrix = cond-false _ _ _ e in
            let front : take S.rows new ≡ block_codes F S.rows S.columns (reduction F S).matrix
            = ap (take S.rows) is ∙ take_at (answer_codes F S) _ S.rows (codes_long ∙ cond-false _ _ _ e) ∙ all in
            subst (λ xs. GivenSeparator F S (vector xs)) (sym front) ((reduction_answers_lem F f S coded).block (eqb-false _ _ (sym (filled_kind _) ∙ e)))

    pub solves_worked : (new : List ℕ) (v : Verdict) → Worked F S t old new v → Solves F S t old m (Ok v) new n
    solves_worked new v w = elim (cases_Bool fits) [
      | inr n ↦ absurd (refused_accepted (sym (puts_tell ∙ cond-false _ _ _ n) ∙ w.puts))
      | inl y ↦
          let whole : solving F S t (length old) ≡ accepted (verdict F S) = outcome_by true true true true p q s y in
          record {
            answer = ap accepted w.is ∙ sym whole;
            codes = w.codes ∙ sym (ap (λ o. codes_after F S o old) whole);
            after = left_empty;
            published = subst (λ v. Published F S v new) (sym w.is) (given new w.codes);
          }
    ]

    pub solves_refused : (new : List ℕ) (e : Refusal) → puts_outcome t (empty S) (all_puts F S) ≡ refused (number_of e) → new ≡ old → Solves F S t old m (Err e) new n
    solves_refused new e is same = elim (cases_Bool fits) [
      | inl y ↦ absurd (refused_accepted (sym is ∙ puts_tell ∙ cond-true _ _ _ y))
      | inr full ↦
          let number : number_of StoreFull ≡ number_of e = same_refusal (sym (puts_tell ∙ cond-false _ _ _ full) ∙ is) in
          unchanged (Err e) e new n refl same (outcome_by true true true false p q s full ∙ ap refused number) left_empty
    ]

-- The ways in which the code ends, for every system that is alike to the one of the shape that was found.
module _ (F : Arithmetic) (f : FieldLaws F) (start : Matrix) (t : Terms) (old : List ℕ) (m : Matrix) (E T : ℕ) where
  abbrev pub Way : Result Verdict Refusal → List ℕ → Matrix → Type 0
  Way r new n = (U : System) → CodedSystem F U → Alike (shaped F start E T) U → Solves F U t old m r new n

  -- what solving promises of it, where that shape is the grid's
  module _ (p : E ≡ height_of start) (q : T ≡ width_of start) (r : Result Verdict Refusal) (new : List ℕ) (n : Matrix) (way : Way r new n) where
    pub way_itself : Solves F (system_of F start) t old m r new n
    way_itself = way (system_of F start) (shaped_coded F f start (height_of start) (width_of start)) (shaped_alike F start E T p q)

    pub way_systems : (U : System) → CodedSystem F U → start ≡ starting_matrix U → Solves F U t old m r new n
    way_systems U coded is = way U coded (alike_on (shaped F start E T) (system_of F start) U (shaped_alike F start E T p q) (read_alike F f start U coded is))

  pub way_short : length old < max E T → Way (Err TooShort) old m
  way_short l U coded h = solves_short F f U coded t old m (lt-leb (max U.rows U.columns) (length old) (omega (arith, h.rows, h.columns)))

  module _ (fit : max E T ≤ length old) where
    roomy : (U : System) → Alike (shaped F start E T) U → leb (max U.rows U.columns) (length old) ≡ true
    roomy U h = le-leb (max U.rows U.columns) (length old) (omega (arith, h.rows, h.columns))

    pub way_large : t.bound < F.order → Way (Err FieldTooLarge) old m
    way_large l U coded h = solves_large F f U coded t old m (roomy U h) (lt-leb F.order t.bound l)

    module _ (bound : F.order ≤ t.bound) where
      -- more rows or columns than any survey has
      pub way_rows : 512 < E → Way (Err ShapeNotTaken) old m
      way_rows l U coded h =
          let big : leb U.rows 512 ≡ false = lt-leb U.rows 512 (omega (arith, h.rows)) in
          solves_shape F f U coded t old m (Err ShapeNotTaken) ShapeNotTaken m refl refl refl (roomy U h) (le-leb F.order t.bound bound)
          (λ i. big i && leb U.columns 1024 && t.takes (U.rows + U.columns) (U.columns + 1))

      pub way_columns : 1024 < T → Way (Err ShapeNotTaken) old m
      way_columns l U coded h =
          let big : leb U.columns 1024 ≡ false = lt-leb U.columns 1024 (omega (arith, h.columns)) in
          solves_shape F f U coded t old m (Err ShapeNotTaken) ShapeNotTaken m refl refl refl (roomy U h) (le-leb F.order t.bound bound)
          (and_left (leb U.rows 512 && leb U.columns 1024) (t.takes (U.rows + U.columns) (U.columns + 1)) (and_right (leb U.rows 512) (leb U.columns 1024) big))

      -- the store does not take the shape
      pub way_shape : (r : Result Verdict Refusal) (e : Refusal) (n : Matrix) → r ≡ Err e → refused (number_of e) ≡ begin_outcome t (E + T) (T + 1) → n ≡ begin_after t m (E + T) (T + 1) → Way r old n
      way_shape r e n is answer after U coded h = elim (cases_Bool (t.takes (E + T) (T + 1))) [
        | inl y ↦ absurd (refused_accepted (answer ∙ cond-true _ _ _ y))
        | inr none ↦
            let same : t.takes (U.rows + U.columns) (U.columns + 1) ≡ false = (λ i. t.takes (sym h.rows i + sym h.columns i) (sym h.columns i + 1)) ∙ none in
            solves_shape F f U coded t old m r e n is (same_refusal (sym (answer ∙ cond-false _ _ _ none))) (after ∙ ap (λ o. left_by o (blank (E + T) (T + 1)) m) (cond-false _ _ _ none)) (roomy U h) (le-leb F.order t.bound bound)
            (and_right (small U) (t.takes (U.rows + U.columns) (U.columns + 1)) same)
      ]

      -- it was worked out in the shape begun, which is taken again
      module _ (rows : E ≤ 512) (columns : T ≤ 1024) (begun : accepted tt ≡ begin_outcome t (E + T) (T + 1)) where
        takes : t.takes (E + T) (T + 1) ≡ true
        takes = elim (cases_Bool (t.takes (E + T) (T + 1))) [ inl y ↦ y | inr none ↦ absurd (refused_accepted (sym (begun ∙ cond-false _ _ _ none))) ]

        pub begun_empty : (k : Matrix) → begin_after t k (E + T) (T + 1) ≡ empty (shaped F start E T)
        begun_empty k = ap (λ o. left_by o (blank (E + T) (T + 1)) k) (sym begun)

        pub way_worked : (r : Result Verdict Refusal) (new : List ℕ) (k n : Matrix) → Works F (shaped F start E T) t old new r → n ≡ begin_after t k (E + T) (T + 1) → Way r new n
        way_worked r new k n works after U coded h =
            let all : (small U && t.takes (U.rows + U.columns) (U.columns + 1)) ≡ true
            = and_from _ _ (and_from _ _ (le-leb U.rows 512 (omega (arith, h.rows))) (le-leb U.columns 1024 (omega (arith, h.columns))))
            ((λ i. t.takes (sym h.rows i + sym h.columns i) (sym h.columns i + 1)) ∙ takes) in
            let cleared : n ≡ empty U = after ∙ begun_empty k ∙ empty_alike F (shaped F start E T) U h in
            ended r works (roomy U h) (le-leb F.order t.bound bound) all cleared
          where
            ended : (r : Result Verdict Refusal) → Works F (shaped F start E T) t old new r → room F f U coded t old m ≡ true → large F f U coded t old m ≡ true → taken F f U coded t old m ≡ true → n ≡ empty U → Solves F U t old m r new n
            ended (Ok v) w a b d e = solves_worked F f U coded t old m a b d n e new v (record {
              puts = sym (puts_alike F (shaped F start E T) U h t) ∙ w.puts;
              is = w.is ∙ verdict_alike F (shaped F start E T) U h;
              codes = w.codes ∙ (λ i. codes_alike F (shaped F start E T) U h i ++ drop (length (codes_alike F (shaped F start E T) U h i)) old);
            })
            ended (Err x) w a b d e = solves_refused F f U coded t old m a b d n e new x (sym (puts_alike F (shaped F start E T) U h t) ∙ w.0) w.1
