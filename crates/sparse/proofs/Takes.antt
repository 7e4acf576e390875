-- A cell picked for use.
use Rattle.std.proofs.Common.{◌≡◌, ℕ, ◌+◌, ◌-◌, ◌<◌, ◌≤◌, min, true, eqb, List, length, ap, ◌∙◌, subst, ⊎_elim, arith}
use Rattle.std.proofs.lemmas.Bool.{cond-true, cond-false, ne_eqb, eq-eqb, cases_eq}
use Rattle.sparse.specs.declared.cell.Cell.{Cell}
use Rattle.sparse.specs.Cells.{row_at, next_at}
use Rattle.sparse.specs.Chains.{spare, take_link, take_free, take_fresh}
use Rattle.sparse.specs.Sound.{Sound}
use Rattle.sparse.proofs.Spares.{Idle, spare_nil, spare_none, spare_some, spare_taken}

-- the cell is there and not in use, and the others that were cleared stay chained
pub record Taking (cells : List Cell) (used fresh link free' fresh' : ℕ) : Type 0 where
  pub from : 1 ≤ link
  pub to : link ≤ fresh'
  pub lent : fresh' ≤ min (length cells) 65535
  pub later : fresh ≤ fresh'
  pub begun : used + 1 ≤ fresh'
  pub idle : row_at cells (link - 1) ≡ 0
  pub spared : (cells' : List Cell) → Idle cells cells' (link - 1) → spare cells' fresh' (fresh' - (used + 1)) free' ≡ true

module _ {rows columns used free fresh : ℕ} {heads : List ℕ} {cells : List Cell} (s : Sound rows columns used free fresh heads cells) where
  take_new : used < min (length cells) 65535 → free ≡ 0 → (link free' fresh' : ℕ) → link ≡ fresh + 1 → free' ≡ 0 → fresh' ≡ fresh + 1 → Taking cells used fresh link free' fresh'
  take_new room z link free' fresh' el ef eh =
      let none : fresh - used ≡ 0 = spare_none cells fresh (fresh - used) free s.spared z in
      let at : link - 1 ≡ fresh = omega arith in
      let left : fresh' - (used + 1) ≡ 0 = omega (arith, s.begun) in
      record {
        from = omega arith;
        to = omega arith;
        lent = omega (arith, s.begun);
        later = omega arith;
        begun = omega (arith, s.begun);
        idle = ap (row_at cells) at ∙ s.unused fresh (omega arith);
        spared = λ cells' _. ap (λ n. spare cells' fresh' n free') left ∙ ap (spare cells' fresh' 0) ef ∙ spare_nil cells' fresh';
      }

  take_cleared : (free ≡ 0 → ⊥) → (link free' fresh' : ℕ) → link ≡ free → free' ≡ next_at cells (free - 1) → fresh' ≡ fresh → Taking cells used fresh link free' fresh'
  take_cleared d link free' fresh' el ef eh =
      let f = spare_some cells fresh (fresh - used) free s.spared d in
      let left : fresh' - (used + 1) ≡ fresh - used - 1 = omega arith in
      record {
        from = omega (arith, d);
        to = omega (arith, f.1.to);
        lent = omega (arith, s.lent);
        later = omega arith;
        begun = omega (arith, f.0);
        idle = ap (λ l. row_at cells (l - 1)) el ∙ f.1.idle;
        spared = λ cells' o. ap (λ n. spare cells' fresh' n free') left ∙ ap (λ t. spare cells' t (fresh - used - 1) free') eh ∙ ap (spare cells' fresh (fresh - used - 1)) ef
            ∙ spare_taken cells cells' fresh (fresh - used - 1) free (subst (λ l. Idle cells cells' (l - 1)) el o) f.1;
      }

  pub taking : used < min (length cells) 65535 → (link free' fresh' : ℕ) → link ≡ take_link free fresh → free' ≡ take_free cells free → fresh' ≡ take_fresh free fresh → Taking cells used fresh link free' fresh'
  taking room link free' fresh' el ef eh = ⊎_elim
      (λ (z : free ≡ 0). let t = eq-eqb free 0 z in take_new room z link free' fresh' (el ∙ cond-true (eqb free 0) _ _ t) (ef ∙ cond-true (eqb free 0) _ _ t) (eh ∙ cond-true (eqb free 0) _ _ t))
      (λ (d : free ≡ 0 → ⊥). let t = ne_eqb free 0 d in take_cleared d link free' fresh' (el ∙ cond-false (eqb free 0) _ _ t) (ef ∙ cond-false (eqb free 0) _ _ t) (eh ∙ cond-false (eqb free 0) _ _ t))
      (cases_eq free 0)

  -- what picking a cell asks
  pub take_free_to : free ≤ length cells
  take_free_to = ⊎_elim
      (λ (z : free ≡ 0). omega arith)
      (λ (d : free ≡ 0 → ⊥). let f = spare_some cells fresh (fresh - used) free s.spared d in omega (arith, f.1.to, s.lent))
      (cases_eq free 0)

  pub take_fresh_to : used < min (length cells) 65535 → free ≡ 0 → fresh < 65535
  take_fresh_to room z = omega (arith, spare_none cells fresh (fresh - used) free s.spared z, s.begun)
