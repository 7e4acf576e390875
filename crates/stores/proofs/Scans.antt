-- A scan of the places of one column finds its next nonzero row, and one backwards its last.
use Rattle.std.proofs.Common.{◌≡◌, ℕ, ◌+◌, ◌-◌, ◌*◌, ◌^◌, ◌<◌, ◌≤◌, min, true, false, Some, None, sym, ap, ◌∙◌, ⊎_elim, mul_comm, add-mul, arith}
use Rattle.std.proofs.lemmas.Nat.{mul-le}
use Rattle.std.proofs.lemmas.Bool.{cases_Bool, true≢false}
use Rattle.matrix.specs.Matrix.{inside}
use Rattle.matrix.specs.Nonzero.{next_in, last_in}
use Rattle.matrix.specs.Layout.{place, laid, laid_outside}
use Rattle.matrix.proofs.Layouts.{In, is_in, in_is, laid_at}
use Rattle.matrix.proofs.Nonzeros.{next_by, last_by}
use Rattle.stores.specs.Packed.{Scanned, ScannedBack}

-- the places of a column lie before those of all columns
pub column_end : (n k j top : ℕ) → In n k 1 j → top ≡ place n 1 j → top + n ≤ n * k
column_end n k j top h e =
    let at : j - 1 + 1 ≡ j = omega (arith, h.column_from) in
    omega (arith, e, add-mul (j - 1) 1 n, ap (λ x. x * n) at, mul-le j n k n h.column_to (omega arith), mul_comm n k)

pub top_fits : (n k j top : ℕ) → In n k 1 j → top ≡ place n 1 j → n < 2 ^ 32 → k < 2 ^ 32 → top + 2 ^ 32 < 2 ^ 64
top_fits n k j top h e p q =
    let less : j - 1 ≤ 4294967294 = omega (arith, h.column_to) in
    let rows : n ≤ 4294967295 = omega arith in
    omega (arith, e, mul-le (j - 1) n 4294967294 4294967295 less rows)

-- an entry of the column is zero where its place is, or where it has none
entry_zero : (n k : ℕ) (f : ℕ → ℕ) (i j : ℕ) → (In n k i j → f (place n i j) ≡ 0) → (laid n k f).at i j ≡ 0
entry_zero n k f i j h = ⊎_elim
    (λ (y : inside n k i j ≡ true). laid_at n k f i j (is_in n k i j y) ∙ h (is_in n k i j y))
    (λ (z : inside n k i j ≡ false). laid_outside n k f i j z)
    (cases_Bool (inside n k i j))

-- the column has no place
pub scan_outside : (n k : ℕ) (f : ℕ → ℕ) (j first : ℕ) → inside n k 1 j ≡ false → None ≡ next_in (laid n k f) j first
scan_outside n k f j first e =
    next_by (laid n k f) j first None (laid_outside n k f) (λ i l. entry_zero n k f i j (λ h.
    let there : In n k 1 j = record { row_from = omega arith; row_to = omega (arith, h.row_from, h.row_to); column_from = h.column_from; column_to = h.column_to } in
    absurd (true≢false (sym (in_is n k 1 j there) ∙ e))))

-- the place of a row of the column, counted from that of its first
in_column : (n k i j top : ℕ) → In n k i j → top ≡ place n 1 j → place n i j ≡ top + (i - 1)
in_column n k i j top h e = omega arith

module _ (n k : ℕ) (f : ℕ → ℕ) (j first top : ℕ) (column : In n k 1 j) (at : top ≡ place n 1 j) (skip : ℕ) (is : skip ≡ first - 1) where
  pub scan_none : Scanned f (top + skip) (top + n) None → None ≡ next_in (laid n k f) j first
  scan_none s =
      next_by (laid n k f) j first None (laid_outside n k f)
      (λ x g. entry_zero n k f x j (λ y. s (place n x j) (omega (arith, in_column n k x j top y at)) (omega (arith, in_column n k x j top y at, y.row_from, y.row_to))))

  pub scan_found : (r : ℕ) → Scanned f (top + skip) (top + n) (Some r) → Some (r - top + 1) ≡ next_in (laid n k f) j first
  scan_found r s =
      let i = r - top + 1 in
      let there : In n k i j = record { row_from = omega arith; row_to = omega (arith, s.0, s.1); column_from = column.column_from; column_to = column.column_to } in
      let here : place n i j ≡ r = omega (arith, in_column n k i j top there at, s.0) in
      next_by (laid n k f) j first (Some i) (laid_outside n k f) (
        omega (arith, s.0),
        λ z. s.2 (ap f (sym here) ∙ sym (laid_at n k f i j there) ∙ z),
        λ x g h. entry_zero n k f x j (λ y. s.3 (place n x j) (omega (arith, in_column n k x j top y at)) (omega (arith, in_column n k x j top y at, y.row_from, s.0))),
      )

-- the same backwards
pub back_outside : (n k : ℕ) (f : ℕ → ℕ) (j last : ℕ) → inside n k 1 j ≡ false → None ≡ last_in (laid n k f) j last
back_outside n k f j last e =
    last_by (laid n k f) j last None (λ i a b. entry_zero n k f i j (λ h.
    let there : In n k 1 j = record { row_from = omega arith; row_to = omega (arith, h.row_from, h.row_to); column_from = h.column_from; column_to = h.column_to } in
    absurd (true≢false (sym (in_is n k 1 j there) ∙ e))))

module _ (n k : ℕ) (f : ℕ → ℕ) (j last top most : ℕ) (column : In n k 1 j) (at : top ≡ place n 1 j) (is : most ≡ min last n) where
  pub back_none : ScannedBack f top (top + most) None → None ≡ last_in (laid n k f) j last
  back_none s =
      last_by (laid n k f) j last None
      (λ x a b. entry_zero n k f x j (λ y. s (place n x j) (omega (arith, in_column n k x j top y at)) (omega (arith, in_column n k x j top y at, y.row_from, y.row_to))))

  pub back_found : (r : ℕ) → ScannedBack f top (top + most) (Some r) → Some (r - top + 1) ≡ last_in (laid n k f) j last
  back_found r s =
      let i = r - top + 1 in
      let there : In n k i j = record { row_from = omega arith; row_to = omega (arith, s.0, s.1); column_from = column.column_from; column_to = column.column_to } in
      let here : place n i j ≡ r = omega (arith, in_column n k i j top there at, s.0) in
      last_by (laid n k f) j last (Some i) (
        omega arith,
        omega (arith, s.0, s.1),
        λ z. s.2 (ap f (sym here) ∙ sym (laid_at n k f i j there) ∙ z),
        λ x g h. entry_zero n k f x j (λ y. s.3 (place n x j) (omega (arith, in_column n k x j top y at, y.row_from, s.0)) (omega (arith, in_column n k x j top y at, y.row_from, y.row_to))),
      )
