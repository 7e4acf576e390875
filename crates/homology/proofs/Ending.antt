-- The reduction ends, after at most T (T + 1) / 2 additions, and whatever makes the additions that are due comes to the same.
use Rattle.std.proofs.Common.{◌≡◌, ℕ, zero, suc, pred, ◌+◌, ◌-◌, ◌*◌, ◌<◌, ◌≤◌, ◌⊎◌, Some, None, sym, refl, ap, ◌∙◌, subst, ap₂, subst₂, inl, inr, suc-mul, mul-suc, arith}
use Rattle.std.proofs.lemmas.Bool.{cases_eq, cases_lt}
use Rattle.field.specs.Arithmetic.{Arithmetic, FieldLaws}
use Rattle.matrix.specs.Matrix.{Entries}
use Rattle.complex.specs.Systems.{System, starting}
use Rattle.homology.specs.Reduction.{low, clash, due, added, Addition, Reduces, Adds, course, enough, reduction}
use Rattle.homology.specs.Reduction.Reduces.{reduced, adds}
use Rattle.homology.specs.Reduction.Adds.{start, then_adds}
use Rattle.homology.specs.Theorems.{Quiet, Ended, ReductionEnds, AddsReach}
use Rattle.homology.proofs.Columns.{Coded, starting_codes}
use Rattle.homology.proofs.Lows.{some_not_none, some_same, due_leftover, due_clash, low_nonzero, low_above, low_upper, clash_next, clash_first, found_cases, clash_same, leftover_cases}
use Rattle.homology.proofs.Additions.{Invariant, invariant_start, invariant_later, invariant_added, lows_kept, turn, added_zero, added_clear}
use Rattle.homology.proofs.Pivots.{pivots, pivots_most, pivots_le, pivots_less, pivots_same}

-- 0 + 1 + .. + n
abbrev triangular : ℕ → ℕ
triangular zero = 0
triangular (suc n) = triangular n + suc n

triangular_is : (n : ℕ) → triangular n ≡ enough n
triangular_is n = omega (arith, twice n)
  where
    twice : (n : ℕ) → triangular n + triangular n ≡ n * (n + 1)
    twice zero = refl
    twice (suc n) =
        let one : suc n + 1 ≡ suc (n + 1) = omega arith in
        let a : suc n * (suc n + 1) ≡ n * (suc n + 1) + (suc n + 1) = suc-mul n (suc n + 1) in
        let b : n * (suc n + 1) ≡ n * (n + 1) + n = ap (λ m. n * m) one ∙ mul-suc n (n + 1) in
        omega (arith, twice n)

-- the additions that may still come when the columns 1 to j are done and `left` of the others are not
abbrev remaining : ℕ → ℕ → ℕ
remaining j zero = j
remaining j (suc left) = j + remaining (suc j) left

remaining_is : (left j : ℕ) → remaining j left + triangular j ≡ triangular (j + left) + j
remaining_is zero j = let n : j + 0 ≡ j = omega arith in omega (arith, ap triangular n)
remaining_is (suc left) j = let n : j + suc left ≡ suc j + left = omega arith in omega (arith, ap triangular n, remaining_is left (suc j))

-- Columns are done from the first to the last. An addition to column j + 1 clears its low, and the rows above stay 0: the new low
-- is less. It was the low of an earlier column, so fewer of the j earlier lows, which differ, are left up to the new one: column
-- j + 1 takes at most j additions. In the last column the greatest row that is a low and not 0 falls likewise: at most T.
module _ (F : Arithmetic) (f : FieldLaws F) (S : System) (coded : Coded F (starting S)) where
  abbrev E : ℕ
  E = S.rows

  abbrev T : ℕ
  T = S.columns

  abbrev Kept : ℕ → Entries → Type 0
  Kept = Invariant F f S coded

  -- M is reduced by at most n additions, and the invariant holds at the end
  pub record Done (M : Entries) (n : ℕ) : Type 0 where
    pub number : ℕ
    pub last : Entries
    pub way : Reduces F E T M number last
    pub few : number ≤ n
    pub inv : Kept T last
    pub ended : due E T last ≡ None

  done_step : (M : Entries) (a : Addition) (n : ℕ) → due E T M ≡ Some a → Done (added F M a) n → Done M (suc n)
  done_step M a n e d = record { number = suc d.number; last = d.last; way = adds M a d.number d.last e d.way; few = omega (arith, d.few); inv = d.inv; ended = d.ended }

  done_more : (M : Entries) (m n : ℕ) → m ≤ n → Done M m → Done M n
  done_more M m n l d = record { number = d.number; last = d.last; way = d.way; few = omega (arith, d.few); inv = d.inv; ended = d.ended }

  -- the low of a column that is added is not 0
  row_nonzero : (M : Entries) (a : Addition) → 1 ≤ a.row → low E M a.from ≡ a.row → ¬ (M a.row a.from ≡ 0)
  row_nonzero M a l e = subst (λ r. ¬ (M r a.from ≡ 0)) e (low_nonzero M E a.from (omega arith))

  -- an addition to the last column, where rows above q are quiet
  record NextLast (M : Entries) (most : ℕ) : Type 0 where
    addition : Addition
    is_due : due E T M ≡ Some addition
    inv : Kept T (added F M addition)
    apart : clash E (added F M addition) T ≡ None
    bound : ℕ
    quiet : (r : ℕ) → bound < r → r ≤ E → Quiet E T (added F M addition) r
    fewer : suc (pivots (low E (added F M addition)) T bound) ≤ most

  last_step : (M : Entries) (q : ℕ) → Kept T M → clash E M T ≡ None → ((r : ℕ) → q < r → r ≤ E → Quiet E T M r) → Done M 0 ⊎ NextLast M (pivots (low E M) T q)
  last_step M q inv none quiet = elim (leftover_cases E T M E) [
    | inl g ↦ inl (record { number = 0; last = M; way = reduced M (due_leftover E T M none ∙ g.0); few = omega arith; inv = inv; ended = due_leftover E T M none ∙ g.0 })
    | inr g ↦
        let a = g.0 in
        let h = g.3 in
        let to : a.to ≡ suc T = omega (arith, h.to) in
        let alive : 1 ≤ low E M a.from = omega (arith, h.row, h.low_from) in
        let lows : (c : ℕ) → 1 ≤ c → c ≤ T → low E M c ≡ low E (added F M a) c = λ c l m. sym (lows_kept F f S coded T M a (omega arith) inv to h.least h.most alive c m) in
        let below : a.row ≤ q = elim (cases_lt q a.row) [ inr o ↦ o | inl o ↦ absurd (h.nonzero (quiet a.row o g.2 a.from h.least h.most h.low_from)) ] in
        inr (record {
          addition = a;
          is_due = due_leftover E T M none ∙ g.1;
          inv = invariant_added F f S coded T M a (omega arith) inv to h.least h.most alive;
          apart = sym (clash_same E M (added F M a) T lows) ∙ none;
          bound = pred a.row;
          quiet = λ r l m i il im e. elim (cases_eq r a.row) [
            | inl o ↦ ap₂ (added F M a) o (sym h.to) ∙ added_clear F f M inv.codes a (row_nonzero M a h.row h.low_from)
            | inr o ↦
                added_zero F M a r (T + 1) (low_above M E a.from r (omega (arith, h.low_from)) m)
                ∙ g.4 r (omega arith) m i il im (lows i il im ∙ e)
          ];
          fewer = omega (
            arith,
            pivots_same (low E M) (low E (added F M a)) T (pred a.row) lows,
            pivots_less (low E M) T (pred a.row) a.row a.from (omega (arith, h.row)) h.least h.most h.low_from,
            pivots_le (low E M) T a.row q below,
          );
        })
  ]

  last_column : (n : ℕ) (M : Entries) (q : ℕ) → Kept T M → clash E M T ≡ None → ((r : ℕ) → q < r → r ≤ E → Quiet E T M r) → pivots (low E M) T q ≤ n → Done M n
  last_column zero M q inv none quiet u = elim (last_step M q inv none quiet) [
    | inl d ↦ d
    | inr h ↦ absurd (omega (arith, h.fewer))
  ]
  last_column (suc n) M q inv none quiet u = elim (last_step M q inv none quiet) [
    | inl d ↦ done_more M 0 (suc n) (omega arith) d
    | inr h ↦ done_step M h.addition n h.is_due (last_column n (added F M h.addition) h.bound h.inv h.apart h.quiet (omega (arith, h.fewer)))
  ]

  -- an addition to column j + 1
  record NextIn (j : ℕ) (M : Entries) : Type 0 where
    addition : Addition
    is_due : due E T M ≡ Some addition
    inv : Kept j (added F M addition)
    apart : clash E (added F M addition) j ≡ None
    fewer : suc (pivots (low E (added F M addition)) j (low E (added F M addition) (suc j))) ≤ pivots (low E M) j (low E M (suc j))

  column_step : (j : ℕ) (M : Entries) → j < T → Kept j M → clash E M j ≡ None → (clash E M (suc j) ≡ None) ⊎ NextIn j M
  column_step j M l inv none = elim (found_cases E M j) [
    | inl g ↦ inl (clash_next E M j none ∙ g.0)
    | inr g ↦
        let a = g.0 in
        let h = g.3 in
        let to : a.to ≡ suc j = g.2 in
        let most : a.from ≤ j = omega (arith, h.earlier) in
        let alive : 1 ≤ low E M a.from = omega (arith, h.row, h.low_from) in
        let lows : (c : ℕ) → 1 ≤ c → c ≤ j → low E M c ≡ low E (added F M a) c = λ c _ m. sym (lows_kept F f S coded j M a (omega arith) inv to h.least most alive c m) in
        let here : low E M (suc j) ≡ a.row = ap (low E M) (sym to) ∙ h.low_to in
        let falls : low E (added F M a) (suc j) ≤ pred a.row = low_upper (added F M a) E (pred a.row) (suc j) (λ r o m. elim (cases_eq r a.row) [
          | inl q ↦ ap₂ (added F M a) q (sym to) ∙ added_clear F f M inv.codes a (row_nonzero M a h.row h.low_from)
          | inr q ↦ added_zero F M a r (suc j) (low_above M E a.from r (omega (arith, h.low_from)) m) ∙ low_above M E (suc j) r (omega arith) m
        ]) in
        let whole : suc j + (T - suc j) ≡ T = omega arith in
        inr (record {
          addition = a;
          is_due = due_clash E T M a (sym (ap (clash E M) whole) ∙ clash_first E M (suc j) (T - suc j) a (clash_next E M j none ∙ g.1));
          inv = invariant_added F f S coded j M a (omega arith) inv to h.least most alive;
          apart = sym (clash_same E M (added F M a) j lows) ∙ none;
          fewer = omega (
            arith,
            pivots_same (low E M) (low E (added F M a)) j (low E (added F M a) (suc j)) lows,
            pivots_less (low E M) j (low E (added F M a) (suc j)) a.row a.from (omega (arith, h.row)) h.least most h.low_from,
            pivots_le (low E M) j a.row (low E M (suc j)) (omega arith),
          );
        })
  ]

  one_column : (n j k : ℕ) (M : Entries) → j < T → ((M : Entries) → Kept (suc j) M → clash E M (suc j) ≡ None → Done M k)
      → Kept j M → clash E M j ≡ None → pivots (low E M) j (low E M (suc j)) ≤ n → Done M (n + k)
  one_column zero j k M l next inv none u = elim (column_step j M l inv none) [
    | inl e ↦ done_more M k (0 + k) (omega arith) (next M (invariant_later F f S coded j M inv) e)
    | inr h ↦ absurd (omega (arith, h.fewer))
  ]
  one_column (suc n) j k M l next inv none u = elim (column_step j M l inv none) [
    | inl e ↦ done_more M k (suc n + k) (omega arith) (next M (invariant_later F f S coded j M inv) e)
    | inr h ↦ done_more M (suc (n + k)) (suc n + k) (omega arith)
        (done_step M h.addition (n + k) h.is_due (one_column n j k (added F M h.addition) l next h.inv h.apart (omega (arith, h.fewer))))
  ]

  all_columns : (left j : ℕ) (M : Entries) → j + left ≡ T → Kept j M → clash E M j ≡ None → Done M (remaining j left)
  all_columns zero j M e inv none =
      let same : j ≡ T = omega arith in
      done_more M T j (omega arith) (last_column T M E (subst (λ j. Kept j M) same inv) (subst (λ j. clash E M j ≡ None) same none) (λ r l m. absurd (omega arith)) (pivots_most (low E M) T E))
  all_columns (suc left) j M e inv none =
      one_column j j (remaining (suc j) left) M (omega arith) (λ N i c. all_columns left (suc j) N (omega arith) i c) inv none (pivots_most (low E M) j (low E M (suc j)))

  done : Done (starting S) (enough T)
  done =
      let all : 0 + T ≡ T = omega arith in
      done_more (starting S) (remaining 0 T) (enough T) (omega (arith, remaining_is T 0, triangular_is T, ap triangular all)) (all_columns T 0 (starting S) all (invariant_start F f S coded) refl)

  -- a course with fuel enough goes the way of the relation
  course_is : (fuel k : ℕ) (M N : Entries) → Reduces F E T M k N → k ≤ fuel → ((course F E T fuel M).matrix ≡ N) × ((course F E T fuel M).additions ≡ k)
  course_is zero _ _ _ (reduced M e) l = (refl, refl)
  course_is (suc fuel) _ _ _ (reduced M e) l = (ap (λ r. (turn F E T fuel M r).matrix) e, ap (λ r. (turn F E T fuel M r).additions) e)
  course_is zero _ _ _ (adds M a k N e way) l = absurd (omega arith)
  course_is (suc fuel) _ _ _ (adds M a k N e way) l =
      let more = course_is fuel k (added F M a) N way (omega arith) in
      (ap (λ r. (turn F E T fuel M r).matrix) e ∙ more.0, ap (λ r. (turn F E T fuel M r).additions) e ∙ omega (arith, more.1))

  reduction_is : ((reduction F S).matrix ≡ done.last) × ((reduction F S).additions ≡ done.number)
  reduction_is = course_is (enough T) done.number (starting S) done.last done.way done.few

  pub reduction_kept : Kept T (reduction F S).matrix
  reduction_kept = subst (Kept T) (sym reduction_is.0) done.inv

  ends : Ended F S
  ends = record {
    none_due = ap (due E T) reduction_is.0 ∙ done.ended;
    few = subst (λ n. n ≤ enough T) (sym reduction_is.1) done.few;
    way = subst₂ (λ k N. Reduces F E T (starting S) k N) (sym reduction_is.1) (sym reduction_is.0) done.way;
  }

pub reduction_ends_lem : ReductionEnds
reduction_ends_lem F f S coded = ends F f S (starting_codes F f S coded)

-- The addition that is due is a function of the matrix, so the way to the end is one.
module _ (F : Arithmetic) (E T : ℕ) where
  one_way : (M : Entries) (j k : ℕ) (N P : Entries) → Reduces F E T M j N → Reduces F E T M k P → (N ≡ P) × (j ≡ k)
  one_way _ _ k _ P (reduced M e) way = stops M k P way e
    where
      stops : (M : Entries) (k : ℕ) (P : Entries) → Reduces F E T M k P → due E T M ≡ None → (M ≡ P) × (0 ≡ k)
      stops _ _ _ (reduced M d) e = (refl, refl)
      stops _ _ _ (adds M a k P d w) e = absurd (some_not_none a (sym d ∙ e))
  one_way _ _ k _ P (adds M a j N e w) way = goes M k P way a j N e (λ Q l u. one_way (added F M a) j l N Q w u)
    where
      goes : (M : Entries) (k : ℕ) (P : Entries) → Reduces F E T M k P → (a : Addition) (j : ℕ) (N : Entries) → due E T M ≡ Some a
          → ((Q : Entries) (l : ℕ) → Reduces F E T (added F M a) l Q → (N ≡ Q) × (j ≡ l)) → (N ≡ P) × (suc j ≡ k)
      goes _ _ _ (reduced M d) a j N e more = absurd (some_not_none a (sym e ∙ d))
      goes _ _ _ (adds M b k P d w) a j N e more =
          let r = more P k (subst (λ c. Reduces F E T (added F M c) k P) (some_same b a (sym d ∙ e)) w) in
          (r.0, ap suc r.1)

  -- additions, and then the way to the end
  adds_then : (M : Entries) (j k : ℕ) (N P : Entries) → Adds F E T M j N → Reduces F E T N k P → Reduces F E T M (j + k) P
  adds_then M _ k _ P start w = let z : 0 + k ≡ k = omega arith in subst (λ n. Reduces F E T M n P) (sym z) w
  adds_then M _ k _ P (then_adds j N a made e) w =
      let n : j + suc k ≡ suc j + k = omega arith in
      subst (λ n. Reduces F E T M n P) n (adds_then M j (suc k) N P made (adds N a k P e w))

pub adds_reach_lem : AddsReach
adds_reach_lem F f S coded k N made e =
    let E = S.rows in
    let T = S.columns in
    let way = adds_then F E T (starting S) k 0 N N made (reduced N e) in
    let r = one_way F E T (starting S) (k + 0) (reduction F S).additions N (reduction F S).matrix way (reduction_ends_lem F f S coded).way in
    (r.0, omega (arith, r.1))
