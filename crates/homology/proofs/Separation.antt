-- A separator and a solution of one system exclude each other.
use Rattle.std.proofs.Common.{◌≡◌, ℕ, suc, ◌<◌, sym, ap, ◌∙◌, subst, arith}
use native.Mathlib.Fin.{val_path as by_code}
use Rattle.field.specs.Algebra.{Operations, Laws}
use Rattle.field.specs.Arithmetic.{Arithmetic, FieldLaws, Code}
use Rattle.field.proofs.Elements.{Element, elements, element_laws, element, element_code, product_clipped}
use Rattle.complex.specs.Systems.{Vector, System}
use Rattle.homology.specs.Linear.{Codes, total, Solution, Separator}
use Rattle.homology.specs.Theorems.{BlockExcludesFilling}
use Rattle.homology.proofs.Sums.{sum_below}
use Rattle.homology.proofs.Spans.{combine, dot, dot_spanned}
use Rattle.homology.proofs.Totals.{total_sum, total_same, lifted}

-- Let y separate and x solve. The target is the combination of the columns that x gives, so y is 0 on it; but y is 1 on it.
-- An entry that is no code counts as 0 in every product, so the entries may be any numbers.
module _ (F : Arithmetic) (f : FieldLaws F) (S : System) (x y : Vector) (solves : Solution F S x) (separates : Separator F S y) where
  abbrev K : Operations (Element F)
  K = elements F f

  abbrev laws : Laws K
  laws = element_laws F f

  -- columns and rows from 0
  abbrev column : ℕ → ℕ → Element F
  column t r = element F f (S.matrix (suc r) (suc t))

  abbrev aim : ℕ → Element F
  aim r = element F f (S.target (suc r))

  abbrev w : ℕ → Element F
  w = lifted F y separates.codes

  abbrev c : ℕ → Element F
  c = lifted F x solves.codes

  -- a sum of products with codes v is one with elements
  products : (n : ℕ) (v : Vector) (codes : Codes F v) (u : Vector) (s : ℕ) → total F n (λ i. F.product (v i) (u i)) ≡ s
      → (dot K laws n (lifted F v codes) (λ i. element F f (u (suc i)))).0 ≡ s
  products n v codes u s e =
      sym (total_sum F f n (λ i. K.mul (v i, codes i) (element F f (u i))))
      ∙ total_same F f n _ _ (λ i _ _. sym (product_clipped F f (v i) (u i))) ∙ e

  on_column : (t : ℕ) → t < S.columns → dot K laws S.rows w (column t) ≡ K.zero
  on_column t l = by_code (products S.rows y separates.codes (λ r. S.matrix r (suc t)) 0 (separates.closed (suc t) (omega arith) (omega arith)))

  on_aim : dot K laws S.rows w aim ≡ K.one
  on_aim = by_code (products S.rows y separates.codes S.target 1 separates.one)

  reached : (r : ℕ) → r < S.rows → combine K column S.columns c r ≡ aim r
  reached r l =
      let goal = S.target (suc r) in
      let same : (combine K column S.columns c r).0 ≡ goal = products S.columns x solves.codes (S.matrix (suc r)) goal (solves.reaches (suc r) (omega arith) (omega arith)) in
      let code : Code F goal = subst (Code F) same (combine K column S.columns c r).1 in
      by_code (same ∙ sym (element_code F f goal code))

  excluded : ⊥
  excluded =
      laws.apart (sym (dot_spanned K laws S.rows S.columns w column c on_column)
      ∙ sum_below K laws S.rows _ _ (λ r l. ap (K.mul (w r)) (reached r l)) ∙ on_aim)

pub block_excludes_filling_lem : BlockExcludesFilling
block_excludes_filling_lem F f S x y solves separates = excluded F f S x y solves separates
