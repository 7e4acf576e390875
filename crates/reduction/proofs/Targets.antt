-- The last column, row by row from the last one up: what is due to it, and that a row that was passed stays quiet.
use Rattle.std.proofs.Common.{◌≡◌, ℕ, ◌+◌, ◌-◌, ◌<◌, ◌≤◌, ◌≢◌, ◌⊎◌, List, get_or, Some, sym, ap, ◌∙◌, subst, inl, inr, arith}
use Rattle.std.proofs.lemmas.Bool.{cases_eq}
use Rattle.field.specs.Arithmetic.{Arithmetic, FieldLaws, Code}
use Rattle.matrix.specs.Matrix.{Entries}
use Rattle.homology.specs.Reduction.{due, added}
use Rattle.homology.specs.Theorems.{Quiet}
use Rattle.homology.proofs.Due.{what_is_due_lem}
use Rattle.homology.proofs.Lows.{low_same}
use Rattle.reduction.specs.Pivots.{Table}
use Rattle.reduction.proofs.Tables.{table_same, table_owned, table_free, others_stay, behind_stay, row_cleared}

-- the rows behind r are quiet
abbrev pub QuietFrom : ℕ → ℕ → Entries → ℕ → Type 0
QuietFrom E T M r = (q : ℕ) → r < q → q ≤ E → Quiet E T M q

module _ (E T : ℕ) (M : Entries) (table : List ℕ) (pivots : Table E M T table) (r i : ℕ) (row : 1 ≤ r) (inside : r ≤ E) (is : i ≡ get_or table r 0) where
  pub target_due : QuietFrom E T M r → i ≢ 0 → M r (T + 1) ≢ 0 → due E T M ≡ Some (record { from = i; to = T + 1; row = r })
  target_due quiet d n =
      let o = table_owned E M T table r i pivots row inside is d in
      (what_is_due_lem E T M).in_last i r pivots.apart o.least o.most row inside o.low_is n quiet

  -- a row without an owner, or 0 in the last column, is quiet
  pub quiet_more : QuietFrom E T M r → (i ≡ 0) ⊎ (M r (T + 1) ≡ 0) → QuietFrom E T M (r - 1)
  quiet_more quiet why q l m = elim (cases_eq q r) [
    | inr n ↦ quiet q (omega arith) m
    | inl s ↦ subst (Quiet E T M) (sym s) (here why)
  ]
    where
      here : (i ≡ 0) ⊎ (M r (T + 1) ≡ 0) → Quiet E T M r
      here (inl z) c a b low_is = absurd (table_free E M T table r pivots row inside (sym is ∙ z) c a b low_is)
      here (inr z) c a b low_is = z

  -- and so is one whose entry was removed
  module _ (F : Arithmetic) (f : FieldLaws F) (N : Entries) (codes : (r c : ℕ) → Code F (M r c)) (d : i ≢ 0) (added_is : N ≡ added F M (record { from = i; to = T + 1; row = r })) where
    pub target_table : Table E N T table
    target_table = table_same E M N T table (λ x c l. others_stay F f E M N i (T + 1) r codes added_is x c (λ q. omega arith)) pivots

    pub quiet_added : QuietFrom E T M r → QuietFrom E T N (r - 1)
    quiet_added quiet q l m c a b low_is =
        let o = table_owned E M T table r i pivots row inside is d in
        elim (cases_eq q r) [
          | inl s ↦ ap (λ q. N q (T + 1)) s ∙ row_cleared F f E M N i (T + 1) r codes added_is row inside o.low_is
          | inr n ↦
              behind_stay F f E M N i (T + 1) r codes added_is row inside o.low_is q (omega arith) m
              ∙ quiet q (omega arith) m c a b (sym (low_same E N M E c (λ x. others_stay F f E M N i (T + 1) r codes added_is x c (λ p. omega arith))) ∙ low_is)
        ]
