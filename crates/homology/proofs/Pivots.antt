-- How many of the first columns have a low up to a row.
use Rattle.std.proofs.Common.{◌≡◌, ℕ, zero, suc, ◌+◌, ◌<◌, ◌≤◌, cond, ◌&&◌, leb, sym, refl, ap, ◌∙◌, inl, inr, arith}
use Rattle.std.proofs.lemmas.Bool.{cases_eq}
use Rattle.std.proofs.lemmas.Bool.Decides.{nat_tests}

-- does the low n count, up to row e?
abbrev counts : ℕ → ℕ → ℕ
counts n e = cond (leb 1 n && leb n e) 1 0

-- of the columns 1 to j, those with a low from 1 to e
abbrev pub pivots : (ℕ → ℕ) → ℕ → ℕ → ℕ
pivots lows zero e = 0
pivots lows (suc j) e = pivots lows j e + counts (lows (suc j)) e

counts_most : (n e : ℕ) → counts n e ≤ 1
counts_most n e = grind (arith, nat_tests)

counts_le : (n d e : ℕ) → d ≤ e → counts n d ≤ counts n e
counts_le n d e l = grind (arith, nat_tests)

counts_less : (n d e : ℕ) → d < e → n ≡ e → suc (counts n d) ≤ counts n e
counts_less n d e l h = grind (arith, nat_tests)

module _ (lows : ℕ → ℕ) where
  pub pivots_most : (j e : ℕ) → pivots lows j e ≤ j
  pivots_most zero e = omega arith
  pivots_most (suc j) e = omega (arith, pivots_most j e, counts_most (lows (suc j)) e)

  pub pivots_le : (j d e : ℕ) → d ≤ e → pivots lows j d ≤ pivots lows j e
  pivots_le zero d e l = omega arith
  pivots_le (suc j) d e l = omega (arith, pivots_le j d e l, counts_le (lows (suc j)) d e l)

  -- the row of a low counts
  pub pivots_less : (j d e i : ℕ) → d < e → 1 ≤ i → i ≤ j → lows i ≡ e → suc (pivots lows j d) ≤ pivots lows j e
  pivots_less zero d e i l m n h = absurd (omega arith)
  pivots_less (suc j) d e i l m n h = elim (cases_eq i (suc j)) [
    | inr o ↦ omega (arith, pivots_less j d e i l m (omega arith) h, counts_le (lows (suc j)) d e (omega arith))
    | inl o ↦ omega (arith, pivots_le j d e (omega arith), counts_less (lows (suc j)) d e l (sym (ap lows o) ∙ h))
  ]

pub pivots_same : (p q : ℕ → ℕ) (j e : ℕ) → ((c : ℕ) → 1 ≤ c → c ≤ j → p c ≡ q c) → pivots p j e ≡ pivots q j e
pivots_same p q zero e h = refl
pivots_same p q (suc j) e h = cc (pivots_same p q j e (λ c l m. h c l (omega arith)), h (suc j) (omega arith) (omega arith))
