-- A certificate depends on the sensors 1 to n that are on and on the field's answers alone.
use Rattle.std.proofs.Common.{◌≡◌, ℕ, ◌+◌, ◌<◌, ◌≤◌, cond, eqb, List, [], ◌∷◌, ap, ◌∙◌, ap₂, arith}
use mathlib.Core.Path.{fun_ext}
use Rattle.field.specs.Arithmetic.{Arithmetic, Alike}
use Rattle.survey.specs.declared.edge.Edge.{Edge}
use Rattle.survey.specs.declared.edge.Triangle.{Triangle}
use Rattle.survey.specs.Surveys.{Survey, Sensors, edge, triangle, joined, edges, triangles}
use Rattle.survey.proofs.Lists.{gather_same}
use Rattle.complex.specs.Boundaries.{listed_system, system}
use Rattle.homology.specs.Reduction.{low, reduction}
use Rattle.homology.specs.Certificate.{Certificate, certificate, filling_codes, block_codes}
use Rattle.homology.specs.Sets.{Same}
use Rattle.homology.specs.Theorems.{AlikeSame}

-- the lists of edges and triangles are the same
module _ (s : Survey) (p q : Sensors) (same : Same s.count p q) where
  joined_same : (a b : ℕ) → 1 ≤ a → a < 1 + s.count → 1 ≤ b → b < 1 + s.count → joined s p a b ≡ joined s q a b
  joined_same a b la ha lb hb = cc (same a la (omega arith), same b lb (omega arith))

  pub edges_same : edges s p ≡ edges s q
  edges_same =
      gather_same _ _ 1 s.count (λ a la ha. gather_same _ _ 1 s.count (λ b lb hb.
      ap (λ j. cond j (edge a b ∷ []) []) (joined_same a b la ha lb hb)))

  pub triangles_same : triangles s p ≡ triangles s q
  triangles_same =
      gather_same _ _ 1 s.count (λ a la ha. gather_same _ _ 1 s.count (λ b lb hb. gather_same _ _ 1 s.count (λ c lc hc.
      ap (λ j. cond j (triangle a b c ∷ []) []) (cc (joined_same a b la ha lb hb, joined_same a c la ha lc hc, joined_same b c lb hb lc hc)))))

  pub system_same : (F : Arithmetic) → system s p F ≡ system s q F
  system_same F = ap₂ (λ es ts. listed_system (F.negative 1) es ts s.fence) edges_same triangles_same

-- the certificate of listed edges and triangles
abbrev certificate_of : Arithmetic → List ℕ → List Edge → List Triangle → Certificate
certificate_of F fence es ts =
    let S = listed_system (F.negative 1) es ts fence in
    let E = S.rows in let T = S.columns in
    let N = (reduction F S).matrix in
    let full = eqb (low E N (T + 1)) 0 in
    record {
      filled = full;
      edges = es;
      triangles = ts;
      codes = cond full (filling_codes F E T N) (block_codes F E T N);
      additions = (reduction F S).additions;
    }

-- fields with the same order and answers are equal
pub arithmetic_same : (F G : Arithmetic) → Alike F G → F ≡ G
arithmetic_same F G alike = λ i. record {
  order = alike.orders i;
  sum = fun_ext (λ a. fun_ext (λ b. alike.sums a b)) i;
  negative = fun_ext (λ a. alike.negatives a) i;
  product = fun_ext (λ a. fun_ext (λ b. alike.products a b)) i;
  inverse = fun_ext (λ a. alike.inverses a) i;
}

pub alike_same : AlikeSame
alike_same s p q F G same alike =
    ap₂ (certificate_of F s.fence) (edges_same s p q same) (triangles_same s p q same) ∙ ap (certificate s q) (arithmetic_same F G alike)
