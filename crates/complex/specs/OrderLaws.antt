-- In every total order nothing is below itself, and below is transitive, and so in the lexicographic orders of edges and triangles.
-- These are what comparing field by field decides, and only the same edges and triangles are tied.
use Rattle.std.specs.Prelude.{◌≡◌, Bool, true, false, Some}
use Rattle.std.specs.Cmp.{IsTotalOrder}
use Rattle.std.specs.Ordering.{is_lt, is_some_and, nat_cmp, ordering_then, partial_ordering_then}
use Rattle.std.proofs.Common.{Ordering, Less, Equal, Greater, sym, ap, ◌∙◌, true≢false, refl, arith}
use Rattle.std.proofs.lemmas.Bool.Decides.{nat_tests}
use Rattle.std.proofs.lemmas.Cmp.{tied_itself}
use Rattle.survey.specs.declared.edge.Edge.{Edge}
use Rattle.survey.specs.declared.edge.Triangle.{Triangle}
use Rattle.complex.specs.Orders.{edge_less, triangle_less}

-- an order that says which of two is less
module _ {R : Type 0} (cmp : R → R → Ordering) (total : IsTotalOrder cmp) (less : R → R → Bool) (decides : (x y : R) → is_lt (cmp x y) ≡ less x y) where
  pub less_is : (x y : R) → less x y ≡ true → cmp x y ≡ Less
  less_is x y h = go (cmp x y) (decides x y ∙ h)
    where
      go : (o : Ordering) → is_lt o ≡ true → o ≡ Less
      go Less e = refl
      go Equal e = absurd (true≢false (sym e))
      go Greater e = absurd (true≢false (sym e))

  pub less_apart : (x : R) → less x x ≡ false
  less_apart x = sym (decides x x) ∙ ap is_lt (tied_itself total x)

  pub less_chained : (x y z : R) → less x y ≡ true → less y z ≡ true → less x z ≡ true
  less_chained x y z p q = sym (decides x z) ∙ ap is_lt (total.trans x y z (less_is x y p) (less_is y z q))

pub edge_apart : (x : Edge) → edge_less x x ≡ false
edge_apart x = grind (arith, nat_tests)

pub edge_chained : (x y z : Edge) → edge_less x y ≡ true → edge_less y z ≡ true → edge_less x z ≡ true
edge_chained x y z p q = grind (arith, nat_tests)

pub edge_decides : (x y : Edge) → is_lt (ordering_then (nat_cmp x.a y.a) (nat_cmp x.b y.b)) ≡ edge_less x y
edge_decides x y = grind (arith, nat_tests)

pub edge_same : (x y : Edge) → ordering_then (nat_cmp x.a y.a) (nat_cmp x.b y.b) ≡ Equal → x ≡ y
edge_same x y e = grind (arith, nat_tests)

-- as `<` asks
pub edge_below : (x y : Edge) → is_some_and is_lt (partial_ordering_then (Some (nat_cmp x.a y.a)) (Some (nat_cmp x.b y.b))) ≡ edge_less x y
edge_below x y = grind (arith, nat_tests)

pub triangle_apart : (x : Triangle) → triangle_less x x ≡ false
triangle_apart x = grind (arith, nat_tests)

pub triangle_chained : (x y z : Triangle) → triangle_less x y ≡ true → triangle_less y z ≡ true → triangle_less x z ≡ true
triangle_chained x y z p q = grind (arith, nat_tests)

pub triangle_decides : (x y : Triangle) → is_lt (ordering_then (nat_cmp x.a y.a) (ordering_then (nat_cmp x.b y.b) (nat_cmp x.c y.c))) ≡ triangle_less x y
triangle_decides x y = grind (arith, nat_tests)

pub triangle_same : (x y : Triangle) → ordering_then (nat_cmp x.a y.a) (ordering_then (nat_cmp x.b y.b) (nat_cmp x.c y.c)) ≡ Equal → x ≡ y
triangle_same x y e = grind (arith, nat_tests)
