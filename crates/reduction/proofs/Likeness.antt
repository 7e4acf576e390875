-- Systems with the same shape and the same starting matrix have the same reduction; a grid is read as the system that it starts.
use Rattle.std.proofs.Common.{◌≡◌, ℕ, ◌+◌, ◌-◌, ◌≤◌, Bool, true, false, cond, ◌&&◌, eqb, ltb, leb, ◌++◌, refl, ap, ◌∙◌, subst, arith}
use mathlib.Core.Path.{fun_ext}
use Rattle.std.proofs.lemmas.Bool.{cond-true, cond_both, lt-ltb, ltb-true, leb-true, and_parts}
use Rattle.std.proofs.lemmas.Bool.Decides.{nat_tests}
use Rattle.field.specs.Arithmetic.{Arithmetic, FieldLaws, Code}
use Rattle.field.proofs.Elements.{zero_code}
use Rattle.matrix.specs.Matrix.{Matrix, blank}
use Rattle.matrix.specs.Terms.{Terms, puts_outcome}
use Rattle.complex.specs.Systems.{System, starting, starting_matrix}
use Rattle.homology.specs.Linear.{CodedSystem}
use Rattle.homology.specs.Kinds.{kind_of, filled_of}
use Rattle.homology.specs.Certificate.{filling_codes, block_codes}
use Rattle.homology.specs.Reduction.{low, course, enough, loading, all_puts}
use Rattle.homology.proofs.Columns.{starting_codes}
use Rattle.reduction.specs.Grids.{code_of, codes_of, shaped, system_of, height_of, width_of}
use Rattle.reduction.specs.Verdicts.{empty, verdict, answer_codes}

pub record Alike (S U : System) : Type 0 where
  pub rows : S.rows ≡ U.rows
  pub columns : S.columns ≡ U.columns
  pub entries : starting S ≡ starting U

pub alike_itself : (S : System) → Alike S S
alike_itself S = record { rows = refl; columns = refl; entries = refl }

pub alike_on : (S U V : System) → Alike S U → Alike U V → Alike S V
alike_on S U V h k = record { rows = h.rows ∙ k.rows; columns = h.columns ∙ k.columns; entries = h.entries ∙ k.entries }

module _ (F : Arithmetic) (S U : System) (h : Alike S U) where
  abbrev p : S.rows ≡ U.rows
  p = h.rows

  abbrev q : S.columns ≡ U.columns
  q = h.columns

  pub empty_alike : empty S ≡ empty U
  empty_alike = λ i. blank (p i + q i) (q i + 1)

  pub puts_alike : (t : Terms) → puts_outcome t (empty S) (all_puts F S) ≡ puts_outcome t (empty U) (all_puts F U)
  puts_alike t = λ i. puts_outcome t (blank (p i + q i) (q i + 1)) (loading (p i + q i) (h.entries i) (q i + 1) ++ (course F (p i) (q i) (enough (q i)) (h.entries i)).puts)

  pub verdict_alike : verdict F S ≡ verdict F U
  verdict_alike = λ i.
      let done = course F (p i) (q i) (enough (q i)) (h.entries i) in
      record { kind = kind_of (eqb (low (p i) done.matrix (q i + 1)) 0); additions = done.additions }

  pub codes_alike : answer_codes F S ≡ answer_codes F U
  codes_alike = λ i.
      let N = (course F (p i) (q i) (enough (q i)) (h.entries i)).matrix in
      cond (filled_of (kind_of (eqb (low (p i) N (q i + 1)) 0))) (filling_codes F (p i) (q i) N) (block_codes F (p i) (q i) N)

-- every entry of a system that a grid holds is a code
module _ (F : Arithmetic) (f : FieldLaws F) where
  code_below : (x : ℕ) → Code F (code_of F x)
  code_below x = cond_both _ _ _ (Code F) (λ t. ltb-true x F.order t) (λ _. zero_code F f)

  pub shaped_coded : (m : Matrix) (E T : ℕ) → CodedSystem F (shaped F m E T)
  shaped_coded m E T = record { entries = λ r t a b c d. code_below (m.at r t); aims = λ r a b. code_below (m.at r (T + 1)) }

  -- a system's starting matrix is read as that system
  module _ (m : Matrix) (S : System) (coded : CodedSystem F S) (is : m ≡ starting_matrix S) where
    same_width : width_of m ≡ S.columns
    same_width = let e : m.columns ≡ S.columns + 1 = ap (λ k. k.columns) is in omega arith

    same_height : height_of m ≡ S.rows
    same_height =
        let e : m.columns ≡ S.columns + 1 = ap (λ k. k.columns) is in
        let d : m.rows ≡ S.rows + S.columns = ap (λ k. k.rows) is in
        omega arith

    code_same : (r c : ℕ) → codes_of F m r c ≡ starting S r c
    code_same r c = ap (λ k. code_of F (k.at r c)) is ∙ cond-true _ _ _ (lt-ltb (starting S r c) F.order (starting_codes F f S coded r c))

    again : (a b : Bool) (x y z w : ℕ) → (b ≡ true → a ≡ false → w ≡ y) → cond a (cond a x (cond b y z)) (cond b w z) ≡ cond a x (cond b y z)
    again true b x y z w h = refl
    again false true x y z w h = h refl refl
    again false false x y z w h = refl

    target_ways : (r E T x y z : ℕ) → 1 ≤ r → r ≤ E → cond (leb 1 r && leb r E && leb 1 (T + 1) && leb (T + 1) T) x (cond (leb 1 r && leb r E && eqb (T + 1) (T + 1)) y z) ≡ y
    target_ways r E T x y z a b = grind (arith, nat_tests)

    entry_same : (r c : ℕ) → starting (system_of F m) r c ≡ starting S r c
    entry_same r c =
        let E = S.rows in let T = S.columns in
        (λ i. cond (leb 1 r && leb r (same_height i) && leb 1 c && leb c (same_width i)) (code_same r c i)
        (cond (leb 1 r && leb r (same_height i) && eqb c (same_width i + 1)) (code_same r (same_width i + 1) i)
        (cond (ltb (same_height i) r && leb r (same_height i + same_width i) && eqb (r - same_height i) c) 1 0)))
        ∙ again (leb 1 r && leb r E && leb 1 c && leb c T) (leb 1 r && leb r E && eqb c (T + 1)) (S.matrix r c) (S.target r) _ (starting S r (T + 1)) (λ t n. let row = (and_parts _ _ t).0 in let a = and_parts _ _ row in target_ways r E T (S.matrix r (T + 1)) (S.target r) _ (leb-true 1 r a.0) (leb-true r E a.1))

    pub read_alike : Alike (system_of F m) S
    read_alike = record { rows = same_height; columns = same_width; entries = fun_ext (λ r. fun_ext (λ c. entry_same r c)) }

-- The system of a grid's own shape is the one that it is read as.
pub shaped_is : (F : Arithmetic) (m : Matrix) (E T : ℕ) → E ≡ height_of m → T ≡ width_of m → shaped F m E T ≡ system_of F m
shaped_is F m E T p q = λ i. shaped F m (p i) (q i)

pub shaped_alike : (F : Arithmetic) (m : Matrix) (E T : ℕ) → E ≡ height_of m → T ≡ width_of m → Alike (shaped F m E T) (system_of F m)
shaped_alike F m E T p q = subst (Alike (shaped F m E T)) (shaped_is F m E T p q) (alike_itself (shaped F m E T))
