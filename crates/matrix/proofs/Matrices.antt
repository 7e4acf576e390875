-- Two matrices are equal where their shapes and their entries are.
use Rattle.std.proofs.Common.{◌≡◌, ℕ, ap, ◌∙◌}
use mathlib.Core.Path.{fun_ext}
use Rattle.matrix.specs.Matrix.{Matrix, Entries, over}

pub same_entries : (m : Matrix) (f g : Entries) → ((r c : ℕ) → f r c ≡ g r c) → over m f ≡ over m g
same_entries m f g e = ap (over m) (fun_ext (λ r. fun_ext (λ c. e r c)))

pub same_matrix : (m n : Matrix) → m.rows ≡ n.rows → m.columns ≡ n.columns → ((r c : ℕ) → m.at r c ≡ n.at r c) → m ≡ n
same_matrix m n p q e =
    same_entries m m.at n.at e
    ∙ ap (λ x. let k : Matrix = record { rows = x; columns = m.columns; at = n.at } in k) p
    ∙ ap (λ x. let k : Matrix = record { rows = n.rows; columns = x; at = n.at } in k) q
